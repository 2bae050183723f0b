-- The rules in the order of their numbers: the first one that is broken.
use Rattle.std.proofs.Common.{◌≡◌, ℕ, zero, suc, ◌+◌, ◌<◌, length, get_or, drop, add-one, arith, List, [], ◌∷◌, ◌++◌, Option, Some, None, option_map, Ok, Err, All, refl, sym, ap, ◌∙◌}
use Rattle.std.proofs.lemmas.List.Elements.{All-from_recursion}
use Rattle.serde_json.specs.Data.{Data}
use Rattle.project_model.specs.Places.{first_of_two}
use Rattle.project_model.specs.Broken.{first_broken}
use Rattle.project_model.specs.declared.effect.EffectSchema.{EffectSchema}
use Rattle.project_model.specs.declared.place.Breach.{Breach}
use Rattle.project_model.specs.declared.place.Place.{Place}
use Rattle.project_json.specs.FormRules.{number_of, form_rules, place_of}
use Rattle.project_json.specs.Reading.{verdict}
use Rattle.project_json.specs.Counts.{IsIndexed}
use Rattle.project_json.specs.declared.error.ProjectError.{ProjectError}
use Rattle.project_json.specs.declared.form.FormRule.{FormRule}
use Rattle.project_json.specs.declared.form.FormRule.TheVariants.{Whole, Names, Version, Depth, Clips, Comps, Layers, LayerCount, Source, Effects, EffectName, Threaded, EffectCounts, Streams, Times}
use Rattle.project_json.proofs.PlaceLemmas.{indexed_project, indexed_Comps, indexed_Layers, indexed_later}

abbrev pub broken : (FormRule → Option Place) → List FormRule → Option Breach
broken place_of rules = first_broken number_of place_of rules

abbrev pub counted : List FormRule
counted = Whole ∷ Names ∷ Version ∷ Depth ∷ Clips ∷ Comps ∷ []

abbrev pub later : List FormRule
later = LayerCount ∷ Source ∷ Effects ∷ EffectName ∷ Threaded ∷ EffectCounts ∷ Streams ∷ Times ∷ []

first_assoc : {A : Type 0} (a b c : Option A) → first_of_two (first_of_two a b) c ≡ first_of_two a (first_of_two b c)
first_assoc (Some a) b c = refl
first_assoc None b c = refl

pub broken-append : (p : FormRule → Option Place) (rs ss : List FormRule) → broken p (rs ++ ss) ≡ first_of_two (broken p rs) (broken p ss)
broken-append p [] ss = refl
broken-append p (r ∷ rs) ss =
    ap (λ o. first_of_two (option_map (λ place. record { number = number_of r; place = place }) (p r)) o) (broken-append p rs ss)
    ∙ sym (first_assoc (option_map (λ place. record { number = number_of r; place = place }) (p r)) (broken p rs) (broken p ss))

pub in_parts : (p : FormRule → Option Place) → broken p form_rules ≡ first_of_two (broken p counted) (first_of_two (broken p (Layers ∷ [])) (broken p later))
in_parts p =
    broken-append p counted (Layers ∷ later) ∙ ap (first_of_two (broken p counted)) (broken-append p (Layers ∷ []) later)

pub first_none : (r : FormRule) (p : FormRule → Option Place) (rest : List FormRule) → broken p (r ∷ rest) ≡ None → (p r ≡ None) × (broken p rest ≡ None)
first_none r p rest e = parts (p r) (broken p rest) e
  where
    parts : (o : Option Place) (rest : Option Breach) → first_of_two (option_map (λ place. record { number = number_of r; place = place }) o) rest ≡ None → (o ≡ None) × (rest ≡ None)
    parts (Some place) rest e = absurd cc
    parts None rest e = (refl, e)

pub last_counted : (p : FormRule → Option Place) → broken p counted ≡ None → p Comps ≡ None
last_counted p e =
    let b = first_none Whole p (Names ∷ Version ∷ Depth ∷ Clips ∷ Comps ∷ []) e in
    let d = first_none Names p (Version ∷ Depth ∷ Clips ∷ Comps ∷ []) b.1 in
    let f = first_none Version p (Depth ∷ Clips ∷ Comps ∷ []) d.1 in
    let g = first_none Depth p (Clips ∷ Comps ∷ []) f.1 in
    let h = first_none Clips p (Comps ∷ []) g.1 in
    (first_none Comps p [] h.1).0

pub only_one : (p : FormRule → Option Place) (r : FormRule) → broken p (r ∷ []) ≡ None → p r ≡ None
only_one p r e = (first_none r p [] e).0

abbrev pub at : (FormRule → Option Place) → FormRule → Option Breach
at p r = option_map (λ place. record { number = number_of r; place = place }) (p r)

first_at : (p : FormRule → Option Place) (rs : List FormRule) (i : ℕ) → i < length rs
    → broken p (drop i rs) ≡ first_of_two (at p (get_or rs i Whole)) (broken p (drop (suc i) rs))
first_at p [] i h = absurd (omega arith)
first_at p (x ∷ rs) zero h = refl
first_at p (x ∷ rs) (suc i) h = first_at p rs i (omega arith)

pub broken_first : (p : FormRule → Option Place) (rs : List FormRule) (i : ℕ) → i < length rs
    → broken p (drop i rs) ≡ first_of_two (at p (get_or rs i Whole)) (broken p (drop (i + 1) rs))
broken_first p rs i h = first_at p rs i h ∙ ap (λ j. first_of_two (at p (get_or rs i Whole)) (broken p (drop j rs))) (sym (add-one i))

-- ---- verdicts

pub unbroken : (o : Option Breach) (u : Unit {0}) → verdict o ≡ Ok u → o ≡ None
unbroken None u e = refl
unbroken (Some b) u e = absurd cc

pub stays_broken : (a b : Option Breach) (e : ProjectError) → verdict a ≡ Err e → verdict (first_of_two a b) ≡ Err e
stays_broken None b e is = absurd cc
stays_broken (Some x) b e is = is

pub goes_on : (a b : Option Breach) → a ≡ None → verdict (first_of_two a b) ≡ verdict b
goes_on a b e = ap (λ o. verdict (first_of_two o b)) e

-- ---- the conditions of these rules

pub indexed_counted : (top : Data) → All (λ rule. IsIndexed rule top) counted
indexed_counted top =
    All-from_recursion (λ rule. IsIndexed rule top) counted (
      indexed_project top Whole refl refl,
      (
        indexed_project top Names refl refl,
        (
          indexed_project top Version refl refl,
          (indexed_project top Depth refl refl, (indexed_project top Clips refl refl, (indexed_Comps top, tt))),
        ),
      ),
    )

pub indexed_one : (schemas : List EffectSchema) (top : Data) → broken (place_of schemas top) counted ≡ None → All (λ rule. IsIndexed rule top) (Layers ∷ [])
indexed_one schemas top e =
    All-from_recursion (λ rule. IsIndexed rule top) (Layers ∷ []) (indexed_Layers schemas top (last_counted (place_of schemas top) e), tt)

pub indexed_rest : (schemas : List EffectSchema) (top : Data) → broken (place_of schemas top) counted ≡ None → broken (place_of schemas top) (Layers ∷ []) ≡ None
    → All (λ rule. IsIndexed rule top) later
indexed_rest schemas top e l =
    let comps = last_counted (place_of schemas top) e in
    let layers = only_one (place_of schemas top) Layers l in
    let each = λ (rule : FormRule). indexed_later schemas top rule comps layers in
    All-from_recursion (λ rule. IsIndexed rule top) later (
      each LayerCount,
      (
        each Source,
        (
          each Effects,
          (each EffectName, (each Threaded, (each EffectCounts, (each Streams, (each Times, tt))))),
        ),
      ),
    )
