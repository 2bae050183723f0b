-- Laws of a stream's value, over the definitions alone.
use Rattle.std.specs.Prelude.{◌≡◌, ℕ, ◌+◌, ◌<◌, ◌≤◌, ◌↔◌, IsTrue, List, [], ◌∷◌, length, ℤ, pos, negsuc, ◌≤ℤ◌, ◌<ℤ◌}
use Rattle.std.specs.List.{All}
use Rattle.param_stream.specs.Curve.{value_at, between, key_at, key_tick, tick_at, IsRising, IsBetween, IsTimed, rises}
use Rattle.param_stream.specs.declared.key.Ease.{Ease}
use Rattle.param_stream.specs.declared.key.Ease.TheVariants.{Hold, Linear, Smooth}
use Rattle.param_stream.specs.declared.key.Keyframe.{Keyframe}

-- at a keyframe's tick the value is that keyframe's
abbrev pub ValueAtKey : Type 0
ValueAtKey =
    (base : ℕ) (keys : List Keyframe) (i : ℕ)
    → IsRising base keys
    → i < length keys
    → value_at base keys (tick_at base keys i) ≡ (key_at keys i).value

-- before the first keyframe the value is that keyframe's
abbrev pub ValueBefore : Type 0
ValueBefore =
    (base : ℕ) (keys : List Keyframe) (t : ℤ)
    → 0 < length keys
    → t <ℤ tick_at base keys 0
    → value_at base keys t ≡ (key_at keys 0).value

-- from the last keyframe on the value is that keyframe's
abbrev pub ValueAfter : Type 0
ValueAfter =
    (base : ℕ) (keys : List Keyframe) (i : ℕ) (t : ℤ)
    → IsRising base keys
    → i + 1 ≡ length keys
    → tick_at base keys i ≤ℤ t
    → value_at base keys t ≡ (key_at keys i).value

-- between two neighbours the value is the one that the kind of the earlier gives
abbrev pub ValueAtSplit : Type 0
ValueAtSplit =
    (base : ℕ) (keys : List Keyframe) (i : ℕ) (t : ℤ)
    → IsRising base keys
    → i + 1 < length keys
    → tick_at base keys i ≤ℤ t
    → t <ℤ tick_at base keys (i + 1)
    → value_at base keys t ≡ between base (key_at keys i) (key_at keys (i + 1)) t

-- there it lies within all bounds that hold the values of the two
abbrev pub ValueBetween : Type 0
ValueBetween =
    (base : ℕ) (key next : Keyframe) (t low high : ℤ)
    → key_tick base key ≤ℤ t
    → t <ℤ key_tick base next
    → IsBetween low high key.value
    → IsBetween low high next.value
    → IsBetween low high (between base key next t)

-- bounds that hold each keyframe's value hold the value at every tick
abbrev pub ValueWithin : Type 0
ValueWithin =
    (base : ℕ) (keys : List Keyframe) (t low high : ℤ)
    → 0 < length keys
    → All (λ key. IsBetween low high key.value) keys
    → IsBetween low high (value_at base keys t)

-- keyframes rise in ticks of any base exactly where their times do
abbrev pub RisesInTicks : Type 0
RisesInTicks = (base : ℕ) (keys : List Keyframe) → 1 ≤ base → All (IsTimed base) keys → (IsTrue (rises keys) ↔ IsRising base keys)

-- a keyframe at a whole number of ticks of one second
abbrev key : ℤ → ℤ → Ease → Keyframe
key tick value kind = record { time = record { value = tick; scale = 1 }; value = value; kind = kind }

-- values worked by hand, with the quotients that do not come out even rounded towards minus infinity
pub record WorkedValues : Type 0 where
  pub falling : value_at 1 (key (pos 0) (pos 10) Linear ∷ key (pos 3) (pos 0) Linear ∷ []) (pos 1) ≡ pos 6
  pub linear : value_at 1 (key (pos 0) (pos 0) Linear ∷ key (pos 3) (pos 10) Hold ∷ []) (pos 1) ≡ pos 3
  pub eased : value_at 1 (key (pos 0) (pos 0) Smooth ∷ key (pos 3) (pos 10) Hold ∷ []) (pos 1) ≡ pos 2
  pub held : value_at 1 (key (pos 0) (pos 0) Hold ∷ key (pos 3) (pos 10) Hold ∷ []) (pos 1) ≡ pos 0
  pub falling_eased : value_at 1 (key (pos 0) (pos 0) Smooth ∷ key (pos 3) (negsuc 9) Hold ∷ []) (pos 1) ≡ negsuc 2
