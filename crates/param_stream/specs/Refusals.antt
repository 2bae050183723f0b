-- Which keyframes are refused as a stream, and for which cause.
use Rattle.std.specs.Prelude.{◌≡◌, ℕ, ◌+◌, []}
use Rattle.param_stream.specs.Curve.{Curve, IsSound, IsRising, IsFirstNotRising, IsFirstOutside}
use Rattle.param_stream.specs.declared.stream.StreamError.{StreamError}
use Rattle.param_stream.specs.declared.stream.StreamError.TheVariants.{Empty, NotRising, OutOfRange, Memory}

-- the keyframes have this fault and none that is tried before it, and for want of memory they have none
abbrev pub Refuses : StreamError → Curve → Type 0
Refuses Empty curve = curve.keys ≡ []
Refuses (NotRising index) curve = (i : ℕ) × (index ≡ i + 1) × IsFirstNotRising curve.base curve.keys i
Refuses (OutOfRange index) curve =
    IsRising curve.base curve.keys × IsFirstOutside curve.keys curve.least curve.most index
Refuses Memory curve = IsSound curve
