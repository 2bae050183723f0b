-- The uses of effects in a project, each as many streams and layers as its kind's schema says.
use Rattle.std.specs.Prelude.{◌≡◌, ◌<◌, true, List, length}
use Rattle.std.specs.List.{All}
use Rattle.project_model.specs.Effects.{schema_of}
use Rattle.project_model.specs.declared.effect.EffectSchema.{EffectSchema}
use Rattle.project_model.specs.declared.effect.FxUse.{FxUse}
use Rattle.project_model.specs.declared.layer.Layer.{Layer}

pub record HasKind (schemas : List EffectSchema) (fx : FxUse) : Type 0 where
  pub known : fx.kind < length schemas
  pub threaded : (schema_of schemas fx.kind).threaded ≡ true
  pub params : length fx.params ≡ length (schema_of schemas fx.kind).params
  pub layers : length fx.layers ≡ (schema_of schemas fx.kind).layers

-- each effect of the layers
abbrev pub HaveKinds : List EffectSchema → List Layer → Type 0
HaveKinds schemas layers = All (λ layer. All (HasKind schemas) layer.effects) layers
