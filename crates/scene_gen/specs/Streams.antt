-- The streams that are drawn: of one value at all times, or of two values, at 0 and at 11/24 of a second.
use Rattle.std.specs.Prelude.{◌≡◌, ℕ, ◌≤◌, length, ◌+◌, List, [], ◌∷◌, ℤ, pos, ◌+ℤ◌, ◌-ℤ◌, unsigned_abs}
use Rattle.rational_time.specs.declared.time.Time.{Time}
use Rattle.param_stream.specs.Curve.{Curve}
use Rattle.param_stream.specs.declared.key.Ease.{Ease}
use Rattle.param_stream.specs.declared.key.Ease.TheVariants.{Hold, Linear, Smooth}
use Rattle.param_stream.specs.declared.key.Keyframe.{Keyframe}
use Rattle.project_model.specs.Bounds.{most_keys}
use Rattle.project_model.specs.Constant.{zero_time, constant}
use Rattle.scene_gen.specs.Draws.{Drawn, draw}
use Rattle.scene_gen.specs.declared.kinds.ValueRange.{ValueRange}

-- where the second keyframe stands: at the last of 12 frames of 1/24
abbrev pub last_time : Time
last_time = record { value = pos 11; scale = 24 }

-- two values, and how each goes on
abbrev pub pair : ℤ → Ease → ℤ → Ease → List Keyframe
pair first kind last kind' =
    record { time = zero_time; value = first; kind = kind } ∷ record { time = last_time; value = last; kind = kind' } ∷ []

-- opacity: from 2000 to 10000 of 10000
unfoldable pub drawn_opacity : ℕ → Drawn (List Keyframe)
drawn_opacity state =
    let first = draw 8001 state in
    let last = draw 8001 first.state in
    record { value = pair (pos (2000 + first.value)) Linear (pos (2000 + last.value)) Smooth; state = last.state }

-- from left to right
unfoldable pub drawn_x : ℕ → Drawn (List Keyframe)
drawn_x state =
    let first = draw 64 state in
    let last = draw 128 first.state in
    record { value = pair (pos first.value -ℤ pos 32) Smooth (pos last.value) Hold; state = last.state }

-- from top to bottom
unfoldable pub drawn_y : ℕ → Drawn (List Keyframe)
drawn_y state =
    let only = draw 64 state in
    record { value = constant (pos only.value -ℤ pos 16); state = only.state }

-- a parameter: a value of its range
unfoldable pub drawn_param : ValueRange → ℕ → Drawn (List Keyframe)
drawn_param range state =
    let above = draw (unsigned_abs (range.most -ℤ range.least) + 1) state in
    record { value = constant (range.least +ℤ pos above.value); state = above.state }

-- the parameters of these ranges, one after another
unfoldable pub drawn_params : List ValueRange → ℕ → Drawn (List (List Keyframe))
drawn_params [] state = record { value = []; state = state }
drawn_params (range ∷ ranges) state =
    let first = drawn_param range state in
    let rest = drawn_params ranges first.state in
    record { value = first.value ∷ rest.value; state = rest.state }

-- a stream of a generated project: its base is the project's, and its keyframes are few
pub record IsMade (curve : Curve) : Type 0 where
  pub based : curve.base ≡ 30000
  pub few : length curve.keys ≤ most_keys
