-- What the rules ask of the form of a layer's effects, where these are the schemas of the effect set.
use Rattle.std.specs.Prelude.{ℕ, ◌&&◌, ◌==◌, List, [], ◌∷◌, length, codes, Bool, true, is_some}
use Rattle.std.specs.List.{list_all}
use Rattle.std.specs.Option.{option_map_or}
use Rattle.serde_json.specs.Data.{Data}
use Rattle.serde_json.specs.Find.{get}
use Rattle.project_model.specs.Bounds.{most_effects}
use Rattle.project_model.specs.Effects.{schema_of}
use Rattle.project_model.specs.declared.effect.EffectSchema.{EffectSchema}
use Rattle.project_json.specs.Parts.{items_in, is_array, is_number, has_only, has_each, where_there, is_list_of_objects}
use Rattle.project_json.specs.Shapes.{is_stream, key_has_time}
use Rattle.project_json.specs.PlainData.{items_of, fx_kind_of}

-- the effects of a layer
abbrev pub effects_of : Data → List Data
effects_of layer = items_of (codes "effects") layer

abbrev pub effect_names : List (List ℕ)
effect_names = codes "effect" ∷ codes "params" ∷ codes "layers" ∷ codes "sequence" ∷ []

-- an object with `effect`, and no names but those of an effect
abbrev pub is_effect : Data → Bool
is_effect d = has_each (codes "effect" ∷ []) d && has_only effect_names d

-- an array of at most 8 of them
abbrev pub are_effects : Data → Bool
are_effects d = is_list_of_objects 0 most_effects d && list_all is_effect (items_in d)

-- it names an effect of the set
abbrev pub has_known_kind : List EffectSchema → Data → Bool
has_known_kind schemas fx = is_some (fx_kind_of schemas fx)

-- the test accepts the schema of its kind, where the set has it
abbrev pub where_known : List EffectSchema → (EffectSchema → Bool) → Data → Bool
where_known schemas test fx = option_map_or (λ kind. test (schema_of schemas kind)) (fx_kind_of schemas fx) true

-- it may be drawn by several threads
abbrev pub is_threaded : List EffectSchema → Data → Bool
is_threaded schemas fx = where_known schemas (λ schema. schema.threaded) fx

abbrev pub are_numbers : Data → Bool
are_numbers d = is_array d && list_all is_number (items_in d)

-- an array of as many streams as the schema has parameters, and one of as many numbers as it has layer parameters
abbrev pub counts_as : EffectSchema → Data → Bool
counts_as schema fx =
    where_there is_array (get (codes "params") fx)
    && (length (items_of (codes "params") fx) == length schema.params)
    && where_there are_numbers (get (codes "layers") fx)
    && (length (items_of (codes "layers") fx) == schema.layers)

-- it has as many of both as its kind
abbrev pub has_counts : List EffectSchema → Data → Bool
has_counts schemas fx = where_known schemas (λ schema. counts_as schema fx) fx

-- each of its parameters is a stream
abbrev pub has_streams : Data → Bool
has_streams fx = list_all is_stream (items_of (codes "params") fx)

-- the keyframes of its parameters have times
abbrev pub has_key_times : Data → Bool
has_key_times fx = list_all (λ stream. list_all key_has_time (items_in stream)) (items_of (codes "params") fx)
