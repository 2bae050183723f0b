-- Where a rule is broken first, and what holds where it is not broken.
use Rattle.std.proofs.Common.{◌≡◌, ℕ, zero, suc, ◌+◌, ◌≤◌, ◌<◌, ◌&&◌, Bool, true, false, true≢false, IsTrue, not, nat_le, if◌then◌else◌, Option, Some, None, option_map, unwrap_or, List, [], ◌∷◌, length, get_or, map, drop, All, codes, add-one, refl, sym, ap, subst, ◌∙◌, arith}
use Rattle.std.proofs.lemmas.Bool.Decides.{nat_tests}
use Rattle.std.proofs.lemmas.List.{length-map, get_or-map}
use Rattle.std.proofs.lemmas.List.Elements.{All-nil, All-cons, All-weaker}
use Rattle.std.specs.List.{list_all, list_any}
use Rattle.serde_json.specs.Data.{Data, null, boolean, number, string, array, object}
use Rattle.serde_json.specs.Find.{get}
use Rattle.serde_json.specs.View.{view}
use Rattle.serde_json.specs.declared.value.Value.{Value}
use Rattle.project_model.specs.Bounds.{is_among, most_comps, most_layers}
use Rattle.project_model.specs.Places.{first_of_two, first_from, first_in_comps}
use Rattle.project_model.specs.declared.effect.EffectSchema.{EffectSchema}
use Rattle.project_model.specs.declared.place.Place.{Place}
use Rattle.project_model.specs.declared.place.Place.TheVariants as place
use Rattle.project_json.specs.Parts.{items_in, list_of, is_there, is_object, is_list_of_objects}
use Rattle.project_json.specs.PlainData.{items_of}
use Rattle.project_json.specs.FormRules.{breaks_project, breaks_comp, breaks_layer, place_of}
use Rattle.project_json.specs.Counts.{is_in_comps, is_in_layers, HasFewLayers, IsIndexed}
use Rattle.project_json.specs.declared.form.FormRule.{FormRule}
use Rattle.project_json.specs.declared.form.FormRule.TheVariants.{Whole, Names, Version, Depth, Clips, Comps, Layers, LayerCount, Source, Effects, EffectName, Threaded, EffectCounts, Streams, Times}
use Rattle.project_json.specs.EffectForm.{effects_of}

pub All-viewed : (P : Data → Type 0) (vs : List Value) (ds : List Data) → map view vs ≡ ds → All P ds → All (λ v. P (view v)) vs
All-viewed P vs ds e all k d h =
    let there : k < length (map view vs) = rw (length-map vs view) h in
    let all' : All P (map view vs) = subst (All P) (sym e) all in
    subst P (get_or-map view vs k d (view d) h) (all' k (view d) there)

-- ---- the search over compositions

abbrev pub found : List EffectSchema → FormRule → ℕ → List Data → Option Place
found schemas rule i ds = first_in_comps (items_of (codes "layers")) (λ _ comp. breaks_comp rule comp) (λ _ _ layer. breaks_layer schemas rule layer) i ds

abbrev pub found_layer : List EffectSchema → FormRule → ℕ → List Data → Option ℕ
found_layer schemas rule i ds = first_from (λ _ layer. breaks_layer schemas rule layer) i ds

found_first : (schemas : List EffectSchema) (rule : FormRule) (vs : List Value) (i k : ℕ) (v : Value) → i < length vs → v ≡ get_or vs i v → breaks_comp rule (view v) ≡ false
    → found schemas rule k (map view (drop i vs))
    ≡ first_of_two (option_map (place.Layer k) (found_layer schemas rule 0 (items_of (codes "layers") (view v)))) (found schemas rule (k + 1) (map view (drop (suc i) vs)))
found_first schemas rule [] i k v h e kept = absurd (omega arith)
found_first schemas rule (x ∷ vs) zero k v h e kept =
    let same : x ≡ v = sym e in
    let kept' : breaks_comp rule (view x) ≡ false = ap (λ w. breaks_comp rule (view w)) same ∙ kept in
    ap (λ b. first_of_two (if b then Some (place.Comp k) else option_map (place.Layer k) (found_layer schemas rule 0 (items_of (codes "layers") (view x)))) (found schemas rule (k + 1) (map view vs))) kept'
    ∙ ap (λ w. first_of_two (option_map (place.Layer k) (found_layer schemas rule 0 (items_of (codes "layers") (view w)))) (found schemas rule (k + 1) (map view vs))) same
found_first schemas rule (x ∷ vs) (suc i) k v h e kept = found_first schemas rule vs i k v (omega arith) e kept

pub found_at : (schemas : List EffectSchema) (rule : FormRule) (vs : List Value) (i : ℕ) (v : Value) → i < length vs → v ≡ get_or vs i v → breaks_comp rule (view v) ≡ false
    → found schemas rule i (map view (drop i vs))
    ≡ first_of_two (option_map (place.Layer i) (found_layer schemas rule 0 (items_of (codes "layers") (view v)))) (found schemas rule (i + 1) (map view (drop (i + 1) vs)))
found_at schemas rule vs i v h e kept =
    found_first schemas rule vs i i v h e kept
    ∙ ap (λ j. first_of_two (option_map (place.Layer i) (found_layer schemas rule 0 (items_of (codes "layers") (view v)))) (found schemas rule (i + 1) (map view (drop j vs)))) (sym (add-one i))

-- ---- where a rule is not broken

pub record IsKept (schemas : List EffectSchema) (rule : FormRule) (comp : Data) : Type 0 where
  pub comp_is : breaks_comp rule comp ≡ false
  pub layers : All (λ layer. breaks_layer schemas rule layer ≡ false) (items_of (codes "layers") comp)

neither : {A : Type 0} (b : Bool) (a : A) (rest : Option A) → (if b then Some a else rest) ≡ None → (b ≡ false) × (rest ≡ None)
neither true a rest e = absurd cc
neither false a rest e = (refl, e)

both_none : {A : Type 0} (a rest : Option A) → first_of_two a rest ≡ None → (a ≡ None) × (rest ≡ None)
both_none (Some a) rest e = absurd cc
both_none None rest e = (refl, e)

mapped_none : {A B : Type 0} (f : B → A) (b : Option B) → option_map f b ≡ None → b ≡ None
mapped_none f (Some b) e = absurd cc
mapped_none f None e = refl

none_in_layers : (schemas : List EffectSchema) (rule : FormRule) (i : ℕ) (ds : List Data) → found_layer schemas rule i ds ≡ None → All (λ layer. breaks_layer schemas rule layer ≡ false) ds
none_in_layers schemas rule i [] e = All-nil (λ layer. breaks_layer schemas rule layer ≡ false)
none_in_layers schemas rule i (d ∷ ds) e =
    let parts = neither (breaks_layer schemas rule d) i (found_layer schemas rule (i + 1) ds) e in
    All-cons (λ layer. breaks_layer schemas rule layer ≡ false) d ds parts.0 (none_in_layers schemas rule (i + 1) ds parts.1)

none_in_comps : (schemas : List EffectSchema) (rule : FormRule) (i : ℕ) (ds : List Data) → found schemas rule i ds ≡ None → All (IsKept schemas rule) ds
none_in_comps schemas rule i [] e = All-nil (IsKept schemas rule)
none_in_comps schemas rule i (d ∷ ds) e =
    let layers = items_of (codes "layers") d in
    let in_layers = option_map (place.Layer i) (found_layer schemas rule 0 layers) in
    let parts = both_none (if breaks_comp rule d then Some (place.Comp i) else in_layers) (found schemas rule (i + 1) ds) e in
    let here = neither (breaks_comp rule d) (place.Comp i) in_layers parts.0 in
    All-cons (IsKept schemas rule) d ds record { comp_is = here.0; layers = none_in_layers schemas rule 0 layers (mapped_none (place.Layer i) (found_layer schemas rule 0 layers) here.1) }
    (none_in_comps schemas rule (i + 1) ds parts.1)

pub record IsKeptIn (schemas : List EffectSchema) (top : Data) (rule : FormRule) : Type 0 where
  pub project : breaks_project top rule ≡ false
  pub comps : All (IsKept schemas rule) (items_of (codes "comps") top)

pub kept_from : (schemas : List EffectSchema) (top : Data) (rule : FormRule) → place_of schemas top rule ≡ None → IsKeptIn schemas top rule
kept_from schemas top rule e =
    let parts = neither (breaks_project top rule) place.Project (found schemas rule 0 (items_of (codes "comps") top)) e in
    record { project = parts.0; comps = none_in_comps schemas rule 0 (items_of (codes "comps") top) parts.1 }

-- ---- the counts

pub record IsWithin (low high n : ℕ) : Type 0 where
  pub above : low ≤ n
  pub below : n ≤ high

pub both : (a b : Bool) → (a && b) ≡ true → (a ≡ true) × (b ≡ true)
both true true e = (refl, refl)
both true false e = absurd cc
both false b e = absurd cc

pub le_from : (a b : ℕ) → nat_le a b ≡ true → a ≤ b
le_from a b e = grind (arith, nat_tests)

pub within : (low high n : ℕ) → is_among low high n ≡ true → IsWithin low high n
within low high n e = record {
  above = le_from low n (both (nat_le low n) (nat_le n high) e).0;
  below = le_from n high (both (nat_le low n) (nat_le n high) e).1;
}

pub item_count : (least most : ℕ) (d : Data) → is_list_of_objects least most d ≡ true → IsWithin least most (length (items_in d))
item_count least most null e = absurd cc
item_count least most (boolean b) e = absurd cc
item_count least most (number n) e = absurd cc
item_count least most (string s) e = absurd cc
item_count least most (object ms) e = absurd cc
item_count least most (array items) e =
    within least most (length (list_of items)) (both (is_among least most (length (list_of items))) (list_all is_object (list_of items)) e).0

listed : (least most : ℕ) (o : Option Data) → not (is_there (is_list_of_objects least most) o) ≡ false
    → IsWithin least most (length (unwrap_or (option_map items_in o) []))
listed least most None e = absurd cc
listed least most (Some d) e = item_count least most d (holds (is_list_of_objects least most d) e)
  where
    holds : (a : Bool) → not a ≡ false → a ≡ true
    holds true e = refl
    holds false e = absurd cc

pub comp_count : (top : Data) → breaks_project top Comps ≡ false → IsWithin 1 most_comps (length (items_of (codes "comps") top))
comp_count top e = listed 1 most_comps (get (codes "comps") top) e

pub layer_count : (comp : Data) → breaks_comp Layers comp ≡ false → IsWithin 0 most_layers (length (items_of (codes "layers") comp))
layer_count comp e = listed 0 most_layers (get (codes "layers") comp) e

-- ---- the conditions of each rule

few_anyway : (rule : FormRule) (ds : List Data) → is_in_layers rule ≡ false → All (HasFewLayers rule) ds
few_anyway rule ds e k d h = record { few = λ looks kept. absurd (true≢false (sym looks ∙ e)) }

pub indexed_project : (top : Data) (rule : FormRule) → is_in_comps rule ≡ false → is_in_layers rule ≡ false → IsIndexed rule top
indexed_project top rule comps layers =
    record { few_comps = λ looks kept. absurd (true≢false (sym looks ∙ comps)); few_layers = few_anyway rule (items_of (codes "comps") top) layers }

pub indexed_Comps : (top : Data) → IsIndexed Comps top
indexed_Comps top =
    record { few_comps = λ looks kept. (comp_count top kept).below; few_layers = few_anyway Comps (items_of (codes "comps") top) refl }

pub indexed_Layers : (schemas : List EffectSchema) (top : Data) → place_of schemas top Comps ≡ None → IsIndexed Layers top
indexed_Layers schemas top comps = record {
  few_comps = λ looks kept. (comp_count top (kept_from schemas top Comps comps).project).below;
  few_layers = λ k d h. record { few = λ looks kept. (layer_count (get_or (items_of (codes "comps") top) k d) kept).below };
}

pub indexed_later : (schemas : List EffectSchema) (top : Data) (rule : FormRule) → place_of schemas top Comps ≡ None → place_of schemas top Layers ≡ None → IsIndexed rule top
indexed_later schemas top rule comps layers = record {
  few_comps = λ looks kept. (comp_count top (kept_from schemas top Comps comps).project).below;
  few_layers = All-weaker (IsKept schemas Layers) (HasFewLayers rule) (λ d kept. record { few = λ looks _. (layer_count d kept.comp_is).below })
      (items_of (codes "comps") top) (kept_from schemas top Layers layers).comps;
}

-- ---- which rules look into layers

none_in_effects : (ds : List Data) → list_any (λ (_ : Data). false) ds ≡ false
none_in_effects [] = refl
none_in_effects (d ∷ ds) = none_in_effects ds

pub looks_into_layers : (schemas : List EffectSchema) (rule : FormRule) (layer : Data) → IsTrue (breaks_layer schemas rule layer) → IsTrue (is_in_layers rule)
looks_into_layers schemas Layers layer e = refl
looks_into_layers schemas Source layer e = refl
looks_into_layers schemas Effects layer e = refl
looks_into_layers schemas EffectName layer e = refl
looks_into_layers schemas Threaded layer e = refl
looks_into_layers schemas EffectCounts layer e = refl
looks_into_layers schemas Streams layer e = refl
looks_into_layers schemas Times layer e = refl
looks_into_layers schemas Whole layer e = sym (none_in_effects (effects_of layer)) ∙ e
looks_into_layers schemas Names layer e = sym (none_in_effects (effects_of layer)) ∙ e
looks_into_layers schemas Version layer e = sym (none_in_effects (effects_of layer)) ∙ e
looks_into_layers schemas Depth layer e = sym (none_in_effects (effects_of layer)) ∙ e
looks_into_layers schemas Clips layer e = sym (none_in_effects (effects_of layer)) ∙ e
looks_into_layers schemas Comps layer e = sym (none_in_effects (effects_of layer)) ∙ e
looks_into_layers schemas LayerCount layer e = sym (none_in_effects (effects_of layer)) ∙ e
