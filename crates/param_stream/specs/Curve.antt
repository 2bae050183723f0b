-- What a stream is to its callers, and its value at a tick.
use Rattle.std.specs.Prelude.{ℕ, ◌+◌, ◌^◌, ◌<◌, ◌≤◌, List, [], ◌∷◌, length, slice_index_or, ℤ, pos, neg_ℤ, ◌+ℤ◌, ◌-ℤ◌, ◌*ℤ◌, ◌≤ℤ◌, ◌<ℤ◌, int_lt, Bool, true, ◌&&◌, if◌then◌else◌}
use Rattle.std.specs.Int.{◌∣◌}
use Rattle.std.specs.List.{All}
use Rattle.rational_time.specs.Times.{tick_of, floor_of, comes_before, IsNear}
use Rattle.param_stream.specs.declared.key.Ease.{Ease}
use Rattle.param_stream.specs.declared.key.Ease.TheVariants.{Hold, Linear, Smooth}
use Rattle.param_stream.specs.declared.key.Keyframe.{Keyframe}

-- a stream: the base of its ticks, its keyframes in order, and the bounds of its values
pub record Curve : Type 0 where
  pub base : ℕ
  pub keys : List Keyframe
  pub least : ℤ
  pub most : ℤ

-- where a keyframe stands
abbrev pub key_tick : ℕ → Keyframe → ℤ
key_tick base key = tick_of base key.time

-- how far an eased change has come, of 65536, where `run` of `span` ticks are over
abbrev pub eased_part : ℤ → ℤ → ℤ
eased_part run span =
    let u = floor_of (pos 65536 *ℤ run) span in
    floor_of ((u *ℤ u) *ℤ (pos 196608 -ℤ (pos 2 *ℤ u))) (pos 4294967296)

-- the value between two keyframes, by the kind of the earlier one, where `run` of the `span` ticks between them are over
abbrev pub value_between : Ease → ℤ → ℤ → ℤ → ℤ → ℤ
value_between Hold from to run span = from
value_between Linear from to run span = from +ℤ floor_of ((to -ℤ from) *ℤ run) span
value_between Smooth from to run span = from +ℤ floor_of ((to -ℤ from) *ℤ eased_part run span) (pos 65536)

-- that value at a tick
abbrev pub between : ℕ → Keyframe → Keyframe → ℤ → ℤ
between base key next t =
    value_between key.kind key.value next.value (t -ℤ key_tick base key) (key_tick base next -ℤ key_tick base key)

-- the value at a tick that is not before the keyframe, where these come after it
abbrev pub value_from : ℕ → Keyframe → List Keyframe → ℤ → ℤ
value_from base key [] t = key.value
value_from base key (next ∷ rest) t =
    if int_lt t (key_tick base next) then between base key next t else value_from base next rest t

-- the value at a tick: the first keyframe's before it, the last one's from there on, and else that between the two neighbours at which the list splits
abbrev pub value_at : ℕ → List Keyframe → ℤ → ℤ
value_at base [] t = pos 0
value_at base (key ∷ rest) t = if int_lt t (key_tick base key) then key.value else value_from base key rest t

-- the keyframe at an index within the list
abbrev pub key_at : List Keyframe → ℕ → Keyframe
key_at keys i = slice_index_or keys i (record { time = record { value = pos 0; scale = 0 }; value = pos 0; kind = Hold })

-- where it stands
abbrev pub tick_at : ℕ → List Keyframe → ℕ → ℤ
tick_at base keys i = key_tick base (key_at keys i)

-- each keyframe stands above the one before
abbrev pub IsRising : ℕ → List Keyframe → Type 0
IsRising base keys = (i : ℕ) → i + 1 < length keys → tick_at base keys i <ℤ tick_at base keys (i + 1)

-- the times of the keyframes after this one rise from its own
abbrev pub rises_from : Keyframe → List Keyframe → Bool
rises_from key [] = true
rises_from key (next ∷ rest) = comes_before key.time next.time && rises_from next rest

-- whether each keyframe's time is above that of the one before
abbrev pub rises : List Keyframe → Bool
rises [] = true
rises (key ∷ rest) = rises_from key rest

-- a keyframe's time is a whole number of ticks
pub record IsTimed (base : ℕ) (key : Keyframe) : Type 0 where
  pub scaled : 1 ≤ key.time.scale
  pub divides : key.time.scale ∣ base
  pub near : IsNear key.time

-- the value is within the bounds
abbrev pub IsBetween : ℤ → ℤ → ℤ → Type 0
IsBetween least most value = (least ≤ℤ value) × (value ≤ℤ most)

-- the numbers that may bound a stream
abbrev pub IsBound : ℤ → Type 0
IsBound z = (neg_ℤ (pos (2 ^ 40)) ≤ℤ z) × (z ≤ℤ pos (2 ^ 40))

-- what holds of a stream
pub record IsSound (curve : Curve) : Type 0 where
  pub some : 0 < length curve.keys
  pub timed : All (IsTimed curve.base) curve.keys
  pub rising : IsRising curve.base curve.keys
  pub within : All (λ key. IsBetween curve.least curve.most key.value) curve.keys
  pub least_bound : IsBound curve.least
  pub most_bound : IsBound curve.most

-- the keyframe after the one at the index is the first that does not stand above the one before it
pub record IsFirstNotRising (base : ℕ) (keys : List Keyframe) (index : ℕ) : Type 0 where
  pub here : index + 1 < length keys
  pub falls : tick_at base keys (index + 1) ≤ℤ tick_at base keys index
  pub before : (i : ℕ) → i < index → tick_at base keys i <ℤ tick_at base keys (i + 1)

-- the value at the index is the first outside of the bounds
pub record IsFirstOutside (keys : List Keyframe) (least most : ℤ) (index : ℕ) : Type 0 where
  pub here : index < length keys
  pub outside : ¬ IsBetween least most (key_at keys index).value
  pub before : (i : ℕ) → i < index → IsBetween least most (key_at keys i).value
