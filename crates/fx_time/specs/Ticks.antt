-- The ticks at which the effects of time look at their input.
use Rattle.std.specs.Prelude.{ℕ, ℤ, pos, neg_ℤ, ◌+ℤ◌, ◌*ℤ◌}
use Rattle.rational_time.specs.Times.{floor_of, held_of}
use Rattle.effect_api.specs.declared.moment.Moment.{Moment}
use Rattle.effect_api.specs.declared.moment.Want.{Want}

-- so many frames after the moment, and before it where the number is negative
abbrev pub frames_after : Moment → ℤ → ℤ
frames_after at frames = at.tick.0 +ℤ (frames *ℤ at.frame)

abbrev pub frames_before : Moment → ℕ → ℤ
frames_before at frames = frames_after at (neg_ℤ (pos frames))

-- where the moment's span began: all ticks are in spans of so many frames, one of which begins at tick 0
abbrev pub span_start : Moment → ℕ → ℤ
span_start at frames = (pos frames *ℤ at.frame) *ℤ floor_of at.tick.0 (pos frames *ℤ at.frame)

-- the input at a tick, held to 36,000 seconds
abbrev pub want_at : Moment → ℤ → Want
want_at at tick = record { input = 0; tick = record { 0 = held_of at.base.ticks tick } }
