-- What the rules ask of an effect of a layer, where these are the schemas of the effect set.
use Rattle.std.specs.Prelude.{ℕ, ◌==◌, ◌&&◌, Bool, true, false, nat_lt, List, [], ◌∷◌, length, Option, Some, None}
use Rattle.std.specs.List.{list_all}
use Rattle.param_stream.specs.declared.key.Keyframe.{Keyframe}
use Rattle.sequence_data.specs.Sequence.{takes}
use Rattle.sequence_data.specs.declared.sequence.SeqRule.{SeqRule}
use Rattle.project_model.specs.Bounds.{all_between}
use Rattle.project_model.specs.Effects.{schema_of}
use Rattle.project_model.specs.declared.effect.EffectSchema.{EffectSchema}
use Rattle.project_model.specs.declared.effect.ParamSchema.{ParamSchema}
use Rattle.project_model.specs.declared.plain.PlainFx.{PlainFx}

-- there are as many streams as parameters, and each value is in its parameter's range
abbrev pub are_in_range : List ParamSchema → List (List Keyframe) → Bool
are_in_range [] [] = true
are_in_range [] (keys ∷ rest) = false
are_in_range (param ∷ params) [] = false
are_in_range (param ∷ params) (keys ∷ rest) = all_between param.least param.most keys && are_in_range params rest

-- rule 37: its kind is one of the set and threaded, and its streams are those that the parameters may have
abbrev pub has_params : List EffectSchema → PlainFx → Bool
has_params schemas fx =
    nat_lt fx.kind (length schemas)
    && (schema_of schemas fx.kind).threaded
    && are_in_range (schema_of schemas fx.kind).params fx.params

-- rule 38: it names as many layers as it has layer parameters, each one of the composition's, of which there are so many
abbrev pub has_layers : List EffectSchema → ℕ → PlainFx → Bool
has_layers schemas count fx =
    (length fx.layers == (schema_of schemas fx.kind).layers) && list_all (λ index. nat_lt index count) fx.layers

-- there is sequence data, of a length that the rule takes
abbrev pub is_sequence : SeqRule → Option (List ℕ) → Bool
is_sequence rule None = false
is_sequence rule (Some bytes) = takes rule (length bytes)

-- rule 39: its sequence data is one that its kind may have
abbrev pub has_sequence : List EffectSchema → PlainFx → Bool
has_sequence schemas fx = is_sequence (schema_of schemas fx.kind).sequence fx.sequence
