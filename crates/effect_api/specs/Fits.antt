-- A use of an effect at a moment, as calls are given it.
use Rattle.std.specs.Prelude.{◌≡◌, ℕ, ◌*◌, ℤ, pos, ◌≤ℤ◌, List, [], length, slice_index_or}
use Rattle.std.specs.List.{All}
use Rattle.rational_time.specs.Times.{held_of}
use Rattle.rational_time.specs.declared.time.TheConstants.{MOST_SECONDS}
use Rattle.param_stream.specs.Curve.{value_at}
use Rattle.param_stream.specs.declared.key.Keyframe.{Keyframe}
use Rattle.sequence_data.specs.Sequence.{Fits}
use Rattle.project_model.specs.Effects.{Use, FitsKind, AreInRange}
use Rattle.project_model.specs.declared.effect.EffectSchema.{EffectSchema}
use Rattle.project_model.specs.declared.effect.ParamSchema.{ParamSchema}
use Rattle.project_model.specs.declared.effect.FxUse.{FxUse}
use Rattle.effect_api.specs.declared.moment.Moment.{Moment}

-- the tick is at most 36,000 seconds from zero
abbrev pub IsHeld : ℕ → ℤ → Type 0
IsHeld base tick = held_of base tick ≡ tick

-- what an effect is given: the use fits, the moment's tick is held, and a frame lasts from one tick to 36,000 seconds
pub record IsGiven (schemas : List EffectSchema) (fx : Use) (at : Moment) : Type 0 where
  pub fits : FitsKind schemas fx
  pub held : IsHeld at.base.ticks at.tick.0
  pub frame_low : pos 1 ≤ℤ at.frame
  pub frame_high : at.frame ≤ℤ pos (MOST_SECONDS * at.base.ticks)

-- a use has what a schema asks for. Its kind is not looked at: a set that is made of others numbers their kinds anew
pub record FitsSchema (schema : EffectSchema) (fx : Use) : Type 0 where
  pub in_range : AreInRange schema.params fx.params
  pub layers_are : length fx.layers ≡ schema.layers
  pub sequence_fits : Fits schema.sequence (length fx.sequence)

-- the parameter of a schema by its place, and one whose only value is 0 elsewhere
abbrev pub param_of : List ParamSchema → ℕ → ParamSchema
param_of params index = slice_index_or params index record { name = []; least = pos 0; most = pos 0 }

-- the streams of a use were made with the moment's base
abbrev pub IsBased : FxUse → Moment → Type 0
IsBased fx at = All (λ curve. curve.base ≡ at.base.ticks) fx.params

-- the keyframes of a parameter, none where there is no such parameter
abbrev pub keys_at : Use → ℕ → List Keyframe
keys_at fx index = slice_index_or fx.params index []

-- the value of a parameter at a tick of a base, and 0 where there is no such parameter
abbrev pub value_of : ℕ → Use → ℕ → ℤ → ℤ
value_of base fx index tick = value_at base (keys_at fx index) tick
