-- The schemas of an effect set, and uses of effects.
use Rattle.std.specs.Prelude.{◌≡◌, ◌≢◌, ℕ, ◌<◌, ◌≤◌, ◌≤ℤ◌, false, List, [], ◌∷◌, length, map, slice_index_or}
use Rattle.std.specs.List.{All}
use Rattle.param_stream.specs.Curve.{IsBetween, IsBound}
use Rattle.param_stream.specs.declared.key.Keyframe.{Keyframe}
use Rattle.sequence_data.specs.Sequence.{Fits}
use Rattle.project_model.specs.declared.effect.EffectSchema.{EffectSchema}
use Rattle.project_model.specs.declared.effect.ParamSchema.{ParamSchema}
use Rattle.project_model.specs.declared.effect.FxUse.{FxUse}

-- a use of an effect in plain parts: its kind, the keyframes of each parameter, the layers that its layer parameters name, and
-- the bytes of its sequence data
pub record Use : Type 0 where
  pub kind : ℕ
  pub params : List (List Keyframe)
  pub layers : List ℕ
  pub sequence : List ℕ

abbrev pub use_of : FxUse → Use
use_of fx = record { kind = fx.kind; params = map (λ curve. curve.keys) fx.params; layers = fx.layers; sequence = fx.sequence }

-- the parameter's range is one, and a stream may have it
pub record IsParam (param : ParamSchema) : Type 0 where
  pub range : param.least ≤ℤ param.most
  pub low : IsBound param.least
  pub high : IsBound param.most

-- no two of the texts are equal
abbrev pub DistinctTexts : List (List ℕ) → Type 0
DistinctTexts [] = Unit {0}
DistinctTexts (text ∷ texts) = All (λ other. other ≢ text) texts × DistinctTexts texts

-- the schemas of an effect set
pub record AreSchemas (schemas : List EffectSchema) : Type 0 where
  pub few : length schemas ≤ 65536
  pub names : DistinctTexts (map (λ schema. schema.name) schemas)
  pub params_are : All (λ (schema : EffectSchema). All IsParam schema.params) schemas

-- the schema of a kind of the set
abbrev pub schema_of : List EffectSchema → ℕ → EffectSchema
schema_of schemas kind =
    slice_index_or schemas kind record { name = []; threaded = false; params = []; layers = 0; sequence = record { unit = 0; least = 0; most = 0 } }

-- some keyframes for each parameter, all in its range
abbrev pub AreInRange : List ParamSchema → List (List Keyframe) → Type 0
AreInRange [] [] = Unit {0}
AreInRange [] (keys ∷ rest) = ⊥
AreInRange (param ∷ params) [] = ⊥
AreInRange (param ∷ params) (keys ∷ rest) =
    (1 ≤ length keys) × All (λ key. IsBetween param.least param.most key.value) keys × AreInRange params rest

-- a use of an effect fits the schema of its kind
pub record FitsKind (schemas : List EffectSchema) (fx : Use) : Type 0 where
  pub known : fx.kind < length schemas
  pub in_range : AreInRange (schema_of schemas fx.kind).params fx.params
  pub layers_are : length fx.layers ≡ (schema_of schemas fx.kind).layers
  pub sequence_fits : Fits (schema_of schemas fx.kind).sequence (length fx.sequence)
