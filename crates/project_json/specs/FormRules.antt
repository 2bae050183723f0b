-- The rules on a project's form, before any on its numbers: a line a rule for what breaks it, at each kind of place.
-- Each speaks of what those before it have let through; what it says of anything else is never asked.
use Rattle.std.specs.Prelude.{ℕ, ◌&&◌, ◌||◌, List, [], ◌∷◌, length, codes, Bool, false, not, nat_lt, is_some, Option, option_map, sum_by}
use Rattle.std.specs.List.{list_all, list_any}
use Rattle.serde_json.specs.Data.{Data}
use Rattle.serde_json.specs.Find.{get}
use Rattle.project_model.specs.Bounds.{most_clips, most_comps, most_layers, most_layers_in_all}
use Rattle.project_model.specs.Places.{first_place}
use Rattle.project_model.specs.Broken.{first_broken}
use Rattle.project_model.specs.declared.effect.EffectSchema.{EffectSchema}
use Rattle.project_model.specs.declared.place.Breach.{Breach}
use Rattle.project_model.specs.declared.place.Place.{Place}
use Rattle.project_json.specs.Parts.{items_in, is_number, has_only, has_each, has_exactly, is_there, where_there, is_list_of_objects, is_the_number, whole_in, anywhere}
use Rattle.project_json.specs.Shapes.{is_stream, is_time, has_frame, key_has_time, is_source}
use Rattle.project_json.specs.EffectForm.{are_effects, has_known_kind, is_threaded, has_counts, has_streams, has_key_times, effects_of}
use Rattle.project_json.specs.PlainData.{items_of}
use Rattle.project_json.specs.declared.form.FormRule.{FormRule}
use Rattle.project_json.specs.declared.form.FormRule.TheVariants.{Whole, Names, Version, Depth, Clips, Comps, Layers, LayerCount, Source, Effects, EffectName, Threaded, EffectCounts, Streams, Times}

abbrev pub number_of : FormRule → ℕ
number_of Whole = 1
number_of Names = 2
number_of Version = 3
number_of Depth = 4
number_of Clips = 5
number_of Comps = 6
number_of Layers = 7
number_of LayerCount = 8
number_of Source = 9
number_of Effects = 10
number_of EffectName = 11
number_of Threaded = 12
number_of EffectCounts = 13
number_of Streams = 14
number_of Times = 15

-- all of them, in the order of their numbers
abbrev pub form_rules : List FormRule
form_rules =
    Whole ∷ Names ∷ Version ∷ Depth ∷ Clips ∷ Comps ∷ Layers ∷ LayerCount ∷ Source ∷ Effects ∷ EffectName ∷ Threaded
    ∷ EffectCounts ∷ Streams ∷ Times ∷ []

abbrev pub project_names : List (List ℕ)
project_names = codes "version" ∷ codes "depth" ∷ codes "root" ∷ codes "clips" ∷ codes "comps" ∷ []

abbrev pub clip_names : List (List ℕ)
clip_names = codes "name" ∷ codes "width" ∷ codes "height" ∷ codes "depth" ∷ codes "frame" ∷ codes "frames" ∷ []

abbrev pub comp_names : List (List ℕ)
comp_names = codes "width" ∷ codes "height" ∷ codes "frame" ∷ codes "frames" ∷ codes "layers" ∷ []

abbrev pub layer_names : List (List ℕ)
layer_names =
    codes "source" ∷ codes "start" ∷ codes "in" ∷ codes "out" ∷ codes "mode" ∷ codes "matte" ∷ codes "opacity" ∷ codes "x"
    ∷ codes "y" ∷ codes "effects" ∷ []

-- the streams of a layer, and its times outside of them
abbrev pub stream_names : List (List ℕ)
stream_names = codes "opacity" ∷ codes "x" ∷ codes "y" ∷ []

abbrev pub time_names : List (List ℕ)
time_names = codes "start" ∷ codes "in" ∷ codes "out" ∷ []

-- a number that is not whole, or too large
abbrev pub is_not_whole : Data → Bool
is_not_whole d = is_number d && not (is_some (whole_in d))

-- an array of at most 64 objects, each with exactly the six names of a clip
abbrev pub are_clips : Data → Bool
are_clips d = is_list_of_objects 0 most_clips d && list_all (has_exactly clip_names) (items_in d)

-- what breaks a rule in the project outside its compositions, its clips included
abbrev pub breaks_project : Data → FormRule → Bool
breaks_project top Whole = anywhere is_not_whole top
breaks_project top Names = not (has_only project_names top)
breaks_project top Version = not (is_there (is_the_number 1) (get (codes "version") top))
breaks_project top Depth =
    not (is_there (λ d. is_the_number 8 d || is_the_number 16 d) (get (codes "depth") top))
breaks_project top Clips = not (where_there are_clips (get (codes "clips") top))
breaks_project top Comps = not (is_there (is_list_of_objects 1 most_comps) (get (codes "comps") top))
breaks_project top LayerCount =
    nat_lt most_layers_in_all (sum_by (λ comp. length (items_of (codes "layers") comp)) (items_of (codes "comps") top))
breaks_project top Times = not (list_all has_frame (items_of (codes "clips") top))
breaks_project top _ = false

-- what breaks it in a composition outside its layers
abbrev pub breaks_comp : FormRule → Data → Bool
breaks_comp Comps comp = not (has_exactly comp_names comp)
breaks_comp Layers comp = not (is_there (is_list_of_objects 0 most_layers) (get (codes "layers") comp))
breaks_comp Times comp = not (has_frame comp)
breaks_comp _ comp = false

-- what breaks it in a layer outside its effects
abbrev pub breaks_layer_itself : FormRule → Data → Bool
breaks_layer_itself Layers layer = not (has_each (codes "source" ∷ []) layer && has_only layer_names layer)
breaks_layer_itself Source layer = not (is_there is_source (get (codes "source") layer))
breaks_layer_itself Effects layer = not (where_there are_effects (get (codes "effects") layer))
breaks_layer_itself Streams layer = not (list_all (λ name. where_there is_stream (get name layer)) stream_names)
breaks_layer_itself Times layer =
    not (list_all (λ name. where_there is_time (get name layer)) time_names
    && list_all (λ name. list_all key_has_time (items_of name layer)) stream_names)
breaks_layer_itself _ layer = false

-- what breaks it in an effect of a layer, where the effects are those of a set with these schemas
abbrev pub breaks_effect : List EffectSchema → FormRule → Data → Bool
breaks_effect schemas EffectName fx = not (has_known_kind schemas fx)
breaks_effect schemas Threaded fx = not (is_threaded schemas fx)
breaks_effect schemas EffectCounts fx = not (has_counts schemas fx)
breaks_effect schemas Streams fx = not (has_streams fx)
breaks_effect schemas Times fx = not (has_key_times fx)
breaks_effect schemas _ fx = false

-- what breaks it in a layer
abbrev pub breaks_layer : List EffectSchema → FormRule → Data → Bool
breaks_layer schemas rule layer = breaks_layer_itself rule layer || list_any (breaks_effect schemas rule) (effects_of layer)

-- the first place where the rule is broken
abbrev pub place_of : List EffectSchema → Data → FormRule → Option Place
place_of schemas top rule =
    first_place (items_of (codes "layers")) (breaks_project top rule) (λ _ comp. breaks_comp rule comp)
    (λ _ _ layer. breaks_layer schemas rule layer)
    (items_of (codes "comps") top)

-- the breach of this rule, where it is broken
abbrev pub breach_at : List EffectSchema → Data → FormRule → Option Breach
breach_at schemas top rule =
    option_map (λ place. record { number = number_of rule; place = place }) (place_of schemas top rule)

-- the first broken rule on the project's form
abbrev pub form_breach : List EffectSchema → Data → Option Breach
form_breach schemas top = first_broken number_of (place_of schemas top) form_rules
