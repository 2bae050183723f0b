-- Zero seconds, and streams of one value.
use Rattle.std.specs.Prelude.{ℤ, pos, List, [], ◌∷◌}
use Rattle.rational_time.specs.declared.time.Time.{Time}
use Rattle.param_stream.specs.declared.key.Ease.TheVariants.{Hold}
use Rattle.param_stream.specs.declared.key.Keyframe.{Keyframe}

abbrev pub zero_time : Time
zero_time = record { value = pos 0; scale = 1 }

-- the value at every tick
abbrev pub constant_key : ℤ → Keyframe
constant_key value = record { time = zero_time; value = value; kind = Hold }

abbrev pub constant : ℤ → List Keyframe
constant value = constant_key value ∷ []
