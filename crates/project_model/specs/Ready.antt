-- Plain parts of which a project's parts can be made, and parts that were made of them.
use Rattle.std.specs.Prelude.{ℕ, ◌≡◌, ◌<◌, ◌≤◌, List, [], ◌∷◌, length, ℤ, pos, IsSome}
use Rattle.std.specs.List.{All}
use Rattle.param_stream.specs.Curve.{IsTimed, IsRising, IsBetween}
use Rattle.param_stream.specs.declared.key.Keyframe.{Keyframe}
use Rattle.project_model.specs.Bounds.{most_layers, most_effects, most_keys, full_opacity, least_position, greatest_position}
use Rattle.project_model.specs.Effects.{schema_of}
use Rattle.project_model.specs.Sound.{IsWritten, MayBeWritten}
use Rattle.project_model.specs.declared.effect.EffectSchema.{EffectSchema}
use Rattle.project_model.specs.declared.effect.FxUse.{FxUse}
use Rattle.project_model.specs.declared.effect.ParamSchema.{ParamSchema}
use Rattle.project_model.specs.declared.layer.Layer.{Layer}
use Rattle.project_model.specs.declared.comp.Comp.{Comp}
use Rattle.project_model.specs.declared.plain.PlainFx.{PlainFx}
use Rattle.project_model.specs.declared.plain.PlainLayer.{PlainLayer}
use Rattle.project_model.specs.declared.plain.PlainComp.{PlainComp}

-- keyframes of a stream with this base and these bounds
pub record AreReady (base : ℕ) (least most : ℤ) (keys : List Keyframe) : Type 0 where
  pub some : 1 ≤ length keys
  pub few : length keys ≤ most_keys
  pub timed : All (IsTimed base) keys
  pub rising : IsRising base keys
  pub within : All (λ key. IsBetween least most key.value) keys

-- streams for these parameters
abbrev pub AreReadyParams : ℕ → List ParamSchema → List (List Keyframe) → Type 0
AreReadyParams base [] [] = Unit {0}
AreReadyParams base [] (keys ∷ rest) = ⊥
AreReadyParams base (param ∷ params) [] = ⊥
AreReadyParams base (param ∷ params) (keys ∷ rest) = AreReady base param.least param.most keys × AreReadyParams base params rest

pub record IsReadyFx (schemas : List EffectSchema) (base : ℕ) (fx : PlainFx) : Type 0 where
  pub known : fx.kind < length schemas
  pub params : AreReadyParams base (schema_of schemas fx.kind).params fx.params
  pub sequence : IsSome fx.sequence

pub record IsReadyLayer (schemas : List EffectSchema) (base : ℕ) (layer : PlainLayer) : Type 0 where
  pub start : IsWritten base layer.start
  pub in_point : IsWritten base layer.in_point
  pub out_point : MayBeWritten base layer.out_point
  pub mode : IsSome layer.mode
  pub matte : IsSome layer.matte
  pub opacity : AreReady base (pos 0) full_opacity layer.opacity
  pub x : AreReady base least_position greatest_position layer.x
  pub y : AreReady base least_position greatest_position layer.y
  pub few_effects : length layer.effects ≤ most_effects
  pub effects : All (IsReadyFx schemas base) layer.effects

pub record IsReadyComp (schemas : List EffectSchema) (base : ℕ) (comp : PlainComp) : Type 0 where
  pub frame : IsWritten base comp.frame
  pub few_layers : length comp.layers ≤ most_layers
  pub layers : All (IsReadyLayer schemas base) comp.layers

-- the streams of an effect were made with this base
abbrev pub IsBasedFx : ℕ → FxUse → Type 0
IsBasedFx base fx = All (λ curve. curve.base ≡ base) fx.params

-- so were those of a layer
pub record IsBasedLayer (base : ℕ) (layer : Layer) : Type 0 where
  pub opacity : layer.opacity.base ≡ base
  pub x : layer.x.base ≡ base
  pub y : layer.y.base ≡ base
  pub effects : All (IsBasedFx base) layer.effects

abbrev pub IsBasedComp : ℕ → Comp → Type 0
IsBasedComp base comp = All (IsBasedLayer base) comp.layers
