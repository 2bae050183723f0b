-- The first place is the first at which the rule is broken.
use Rattle.std.proofs.Common.{◌≡◌, ℕ, zero, suc, ◌+◌, ◌<◌, Bool, true, false, List, [], ◌∷◌, inl, inr, refl, sym, ◌∙◌, subst, ap, arith}
use Rattle.std.specs.Prelude.{◌⊎◌, Option, Some, None, option_map, slice_get, if◌then◌else◌}
use Rattle.project_model.specs.Laws.{IsBrokenAt, StandsBefore, IsFirstPlace, PlaceIsFirst}
use Rattle.project_model.specs.Places.{first_of_two, first_from, first_in_comp, first_in_comps}
use Rattle.project_model.specs.Rules.{place_of, breaks_project, breaks_comp, breaks_layer}
use Rattle.project_model.specs.declared.effect.EffectSchema.{EffectSchema}
use Rattle.project_model.specs.declared.place.Place.{Place}
use Rattle.project_model.specs.declared.place.Place.TheVariants as place
use Rattle.project_model.specs.declared.plain.PlainComp.{PlainComp}
use Rattle.project_model.specs.declared.plain.PlainProject.{PlainProject}
use Rattle.project_model.specs.declared.rule.Rule.{Rule}
use Rattle.project_model.proofs.Keeps.{neither}

-- ---- in a list

-- the test accepts item number n, where they are counted from i
record Accepts {A : Type 0} (test : ℕ → A → Bool) (i : ℕ) (list : List A) (n : ℕ) : Type 0 where
  pub place : ℕ
  pub item : A
  pub counted : n ≡ i + place
  pub here : slice_get list place ≡ Some item
  pub accepted : test n item ≡ true

none_accepted : {A : Type 0} (test : ℕ → A → Bool) (i n : ℕ) → Accepts test i [] n → ⊥
none_accepted test i n h = cc (h.here)

later : {A : Type 0} (test : ℕ → A → Bool) (i : ℕ) (a : A) (rest : List A) (n : ℕ) → Accepts test (i + 1) rest n → Accepts test i (a ∷ rest) n
later test i a rest n h = record { place = suc h.place; item = h.item; counted = omega (arith, h.counted); here = h.here; accepted = h.accepted }

here : {A : Type 0} (test : ℕ → A → Bool) (i : ℕ) (a : A) (rest : List A) → test i a ≡ true → Accepts test i (a ∷ rest) i
here test i a rest e = record { place = 0; item = a; counted = omega arith; here = refl; accepted = e }

here_or_later : {A : Type 0} (test : ℕ → A → Bool) (i : ℕ) (a : A) (rest : List A) (n : ℕ) → Accepts test i (a ∷ rest) n → ((n ≡ i) × (test i a ≡ true)) ⊎ Accepts test (i + 1) rest n
here_or_later test i a rest n h = by h.place h.item h.counted h.here h.accepted
  where
    by : (place : ℕ) (item : _) → n ≡ i + place → slice_get (a ∷ rest) place ≡ Some item → test n item ≡ true → ((n ≡ i) × (test i a ≡ true)) ⊎ Accepts test (i + 1) rest n
    by zero item counted is e =
        let same : n ≡ i = omega (arith, counted) in
        let one : a ≡ item = cc in
        inl (same, ap (test i) one ∙ ap (λ (m : ℕ). test m item) (sym same) ∙ e)
    by (suc place) item counted is e =
        inr (record { place = place; item = item; counted = omega (arith, counted); here = is; accepted = e })

-- the first that is accepted
record IsFirst {A : Type 0} (test : ℕ → A → Bool) (i : ℕ) (list : List A) (n : ℕ) : Type 0 where
  pub accepted : Accepts test i list n
  pub least : (m : ℕ) → m < n → ¬ Accepts test i list m

choice_some : {A : Type 0} (b : Bool) (a : A) (other : Option A) (x : A) → (if b then Some a else other) ≡ Some x → ((b ≡ true) × (a ≡ x)) ⊎ ((b ≡ false) × (other ≡ Some x))
choice_some true a other x e = inl (refl, cc)
choice_some false a other x e = inr (refl, e)

choice_none : {A : Type 0} (b : Bool) (a : A) (other : Option A) → (if b then Some a else other) ≡ None → (b ≡ false) × (other ≡ None)
choice_none true a other e = cc
choice_none false a other e = (refl, e)

untested : (b : Bool) → b ≡ true → b ≡ false → ⊥
untested b e f = cc

from_none : {A : Type 0} (test : ℕ → A → Bool) (i : ℕ) (list : List A) → first_from test i list ≡ None → (n : ℕ) → ¬ Accepts test i list n
from_none test i [] e n h = none_accepted test i n h
from_none test i (a ∷ rest) e n h =
    let both = choice_none (test i a) i (first_from test (i + 1) rest) e in
    elim (here_or_later test i a rest n h) [ inl at ↦ untested (test i a) at.1 both.0 | inr behind ↦ from_none test (i + 1) rest both.1 n behind ]

bounded : {A : Type 0} (test : ℕ → A → Bool) (i : ℕ) (list : List A) (n : ℕ) → Accepts test i list n → n < i → ⊥
bounded test i list n h less = omega (arith, h.counted, less)

from_some : {A : Type 0} (test : ℕ → A → Bool) (i : ℕ) (list : List A) (n : ℕ) → first_from test i list ≡ Some n → IsFirst test i list n
from_some test i [] n e = cc
from_some test i (a ∷ rest) n e =
    elim (choice_some (test i a) i (first_from test (i + 1) rest) n e) [
      | inl at ↦ record {
        accepted = subst (Accepts test i (a ∷ rest)) at.1 (here test i a rest at.0);
        least = λ m less h. bounded test i (a ∷ rest) m h (omega (arith, at.1, less));
      }
      | inr behind ↦
          let first = from_some test (i + 1) rest n behind.1 in
          record {
            accepted = later test i a rest n first.accepted;
            least = λ m less h.
                elim (here_or_later test i a rest m h) [ inl at ↦ untested (test i a) at.1 behind.0 | inr after ↦ first.least m less after ];
          }
    ]

-- ---- in a composition, which has this index

abbrev Broken : {C L : Type 0} → (C → List L) → (ℕ → C → Bool) → (C → ℕ → L → Bool) → ℕ → C → Place → Type 0
Broken layers_of in_comp in_layer j comp place.Project = ⊥
Broken layers_of in_comp in_layer j comp (place.Comp i) = (i ≡ j) × (in_comp j comp ≡ true)
Broken layers_of in_comp in_layer j comp (place.Layer i m) = (i ≡ j) × Accepts (in_layer comp) 0 (layers_of comp) m

record IsFirstIn {C L : Type 0} (layers_of : C → List L) (in_comp : ℕ → C → Bool) (in_layer : C → ℕ → L → Bool) (j : ℕ) (comp : C) (first : Place) : Type 0 where
  pub broken : Broken layers_of in_comp in_layer j comp first
  pub least : (other : Place) → StandsBefore other first → ¬ Broken layers_of in_comp in_layer j comp other

mapped_none : {A B : Type 0} (f : A → B) (o : Option A) → option_map f o ≡ None → o ≡ None
mapped_none f None e = refl
mapped_none f (Some a) e = cc

mapped_some : {A B : Type 0} (f : A → B) (o : Option A) (b : B) → option_map f o ≡ Some b → (a : A) × (o ≡ Some a) × (f a ≡ b)
mapped_some f None b e = cc
mapped_some f (Some a) b e = (a, refl, cc)

in_comp_none : {C L : Type 0} (layers_of : C → List L) (in_comp : ℕ → C → Bool) (in_layer : C → ℕ → L → Bool) (j : ℕ) (comp : C) → first_in_comp layers_of in_comp in_layer j comp ≡ None → (other : Place) → ¬ Broken layers_of in_comp in_layer j comp other
in_comp_none layers_of in_comp in_layer j comp e place.Project h = h
in_comp_none layers_of in_comp in_layer j comp e (place.Comp i) h =
    untested (in_comp j comp) h.1 (choice_none (in_comp j comp) (place.Comp j) _ e).0
in_comp_none layers_of in_comp in_layer j comp e (place.Layer i m) h =
    from_none (in_layer comp) 0 (layers_of comp) (mapped_none (place.Layer j) _ (choice_none (in_comp j comp) (place.Comp j) _ e).1) m h.1

-- nothing of the composition stands before itself
comp_first : {C L : Type 0} (layers_of : C → List L) (in_comp : ℕ → C → Bool) (in_layer : C → ℕ → L → Bool) (j : ℕ) (comp : C) (other : Place) → StandsBefore other (place.Comp j) → ¬ Broken layers_of in_comp in_layer j comp other
comp_first layers_of in_comp in_layer j comp place.Project before h = h
comp_first layers_of in_comp in_layer j comp (place.Comp i) before h = omega (arith, before, h.0)
comp_first layers_of in_comp in_layer j comp (place.Layer i m) before h = omega (arith, before, h.0)

layer_first : {C L : Type 0} (layers_of : C → List L) (in_comp : ℕ → C → Bool) (in_layer : C → ℕ → L → Bool) (j : ℕ) (comp : C) (n : ℕ) → in_comp j comp ≡ false → IsFirst (in_layer comp) 0 (layers_of comp) n → (other : Place) → StandsBefore other (place.Layer j n) → ¬ Broken layers_of in_comp in_layer j comp other
layer_first layers_of in_comp in_layer j comp n e first place.Project before h = h
layer_first layers_of in_comp in_layer j comp n e first (place.Comp i) before h = untested (in_comp j comp) h.1 e
layer_first layers_of in_comp in_layer j comp n e first (place.Layer i m) before h =
    elim before [ inl less ↦ omega (arith, less, h.0) | inr same ↦ first.least m same.1 h.1 ]

in_comp_some : {C L : Type 0} (layers_of : C → List L) (in_comp : ℕ → C → Bool) (in_layer : C → ℕ → L → Bool) (j : ℕ) (comp : C) (first : Place) → first_in_comp layers_of in_comp in_layer j comp ≡ Some first → IsFirstIn layers_of in_comp in_layer j comp first
in_comp_some layers_of in_comp in_layer j comp first e =
    elim (choice_some (in_comp j comp) (place.Comp j) (option_map (place.Layer j) (first_from (in_layer comp) 0 (layers_of comp))) first e) [
      | inl at ↦
          let P : Place → Type 0 = λ p. IsFirstIn layers_of in_comp in_layer j comp p in
          subst P at.1 (record { broken = (refl, at.0); least = comp_first layers_of in_comp in_layer j comp })
      | inr behind ↦
          let P : Place → Type 0 = λ p. IsFirstIn layers_of in_comp in_layer j comp p in
          let found = mapped_some (place.Layer j) (first_from (in_layer comp) 0 (layers_of comp)) first behind.1 in
          let layer = from_some (in_layer comp) 0 (layers_of comp) found.0 found.1 in
          subst P found.2 (record { broken = (refl, layer.accepted); least = layer_first layers_of in_comp in_layer j comp found.0 behind.0 layer })
    ]

-- ---- in the compositions, which are counted from i

record BrokenIn {C L : Type 0} (layers_of : C → List L) (in_comp : ℕ → C → Bool) (in_layer : C → ℕ → L → Bool) (i : ℕ) (comps : List C) (at : Place) : Type 0 where
  pub place : ℕ
  pub comp : C
  pub here : slice_get comps place ≡ Some comp
  pub broken : Broken layers_of in_comp in_layer (i + place) comp at

record IsFirstOf {C L : Type 0} (layers_of : C → List L) (in_comp : ℕ → C → Bool) (in_layer : C → ℕ → L → Bool) (i : ℕ) (comps : List C) (first : Place) : Type 0 where
  pub broken : BrokenIn layers_of in_comp in_layer i comps first
  pub least : (other : Place) → StandsBefore other first → ¬ BrokenIn layers_of in_comp in_layer i comps other

in_first_or_rest : {C L : Type 0} (layers_of : C → List L) (in_comp : ℕ → C → Bool) (in_layer : C → ℕ → L → Bool) (i : ℕ) (comp : C) (rest : List C) (at : Place) → BrokenIn layers_of in_comp in_layer i (comp ∷ rest) at → Broken layers_of in_comp in_layer i comp at ⊎ BrokenIn layers_of in_comp in_layer (i + 1) rest at
in_first_or_rest layers_of in_comp in_layer i comp rest at h = by h.place h.comp h.here h.broken
  where
    by : (place : ℕ) (c : _) → slice_get (comp ∷ rest) place ≡ Some c → Broken layers_of in_comp in_layer (i + place) c at → Broken layers_of in_comp in_layer i comp at ⊎ BrokenIn layers_of in_comp in_layer (i + 1) rest at
    by zero c is broken =
        let one : c ≡ comp = cc in
        let same : i + 0 ≡ i = omega arith in
        inl (subst (λ (n : ℕ). Broken layers_of in_comp in_layer n comp at) same (subst (λ (x : _). Broken layers_of in_comp in_layer (i + 0) x at) one broken))
    by (suc place) c is broken =
        let same : i + suc place ≡ i + 1 + place = omega arith in
        inr (record { place = place; comp = c; here = is; broken = subst (λ (n : ℕ). Broken layers_of in_comp in_layer n c at) same broken })

in_rest : {C L : Type 0} (layers_of : C → List L) (in_comp : ℕ → C → Bool) (in_layer : C → ℕ → L → Bool) (i : ℕ) (comp : C) (rest : List C) (at : Place) → BrokenIn layers_of in_comp in_layer (i + 1) rest at → BrokenIn layers_of in_comp in_layer i (comp ∷ rest) at
in_rest layers_of in_comp in_layer i comp rest at h =
    let same : i + 1 + h.place ≡ i + suc h.place = omega arith in
    record { place = suc h.place; comp = h.comp; here = h.here; broken = subst (λ (n : ℕ). Broken layers_of in_comp in_layer n h.comp at) same h.broken }

in_head : {C L : Type 0} (layers_of : C → List L) (in_comp : ℕ → C → Bool) (in_layer : C → ℕ → L → Bool) (i : ℕ) (comp : C) (rest : List C) (at : Place) → Broken layers_of in_comp in_layer i comp at → BrokenIn layers_of in_comp in_layer i (comp ∷ rest) at
in_head layers_of in_comp in_layer i comp rest at h =
    let same : i ≡ i + 0 = omega arith in
    record { place = 0; comp = comp; here = refl; broken = subst (λ (n : ℕ). Broken layers_of in_comp in_layer n comp at) same h }

-- a later composition doesn't stand before an earlier one
not_before : {C L : Type 0} (layers_of : C → List L) (in_comp : ℕ → C → Bool) (in_layer : C → ℕ → L → Bool) (i j : ℕ) (comp next : C) (at other : Place) → Broken layers_of in_comp in_layer i comp at → Broken layers_of in_comp in_layer j next other → i < j → StandsBefore other at → ⊥
not_before layers_of in_comp in_layer i j comp next place.Project other h k less before = h
not_before layers_of in_comp in_layer i j comp next (place.Comp a) place.Project h k less before = k
not_before layers_of in_comp in_layer i j comp next (place.Comp a) (place.Comp b) h k less before = omega (arith, h.0, k.0, before)
not_before layers_of in_comp in_layer i j comp next (place.Comp a) (place.Layer b n) h k less before = omega (arith, h.0, k.0, before)
not_before layers_of in_comp in_layer i j comp next (place.Layer a m) place.Project h k less before = k
not_before layers_of in_comp in_layer i j comp next (place.Layer a m) (place.Comp b) h k less before =
    elim before [ inl x ↦ omega (arith, h.0, k.0, x) | inr x ↦ omega (arith, h.0, k.0, x) ]
not_before layers_of in_comp in_layer i j comp next (place.Layer a m) (place.Layer b n) h k less before =
    elim before [ inl x ↦ omega (arith, h.0, k.0, x) | inr x ↦ omega (arith, h.0, k.0, x.0) ]

comps_none : {C L : Type 0} (layers_of : C → List L) (in_comp : ℕ → C → Bool) (in_layer : C → ℕ → L → Bool) (i : ℕ) (comps : List C) → first_in_comps layers_of in_comp in_layer i comps ≡ None → (other : Place) → ¬ BrokenIn layers_of in_comp in_layer i comps other
comps_none layers_of in_comp in_layer i [] e other h = cc (h.here)
comps_none layers_of in_comp in_layer i (comp ∷ rest) e other h =
    let both = neither _ _ e in
    elim (in_first_or_rest layers_of in_comp in_layer i comp rest other h) [
      | inl at ↦ in_comp_none layers_of in_comp in_layer i comp both.0 other at
      | inr after ↦ comps_none layers_of in_comp in_layer (i + 1) rest both.1 other after
    ]

either : {A : Type 0} (o p : Option A) (x : A) → first_of_two o p ≡ Some x → (o ≡ Some x) ⊎ ((o ≡ None) × (p ≡ Some x))
either None p x e = inr (refl, e)
either (Some a) p x e = inl e

comps_some : {C L : Type 0} (layers_of : C → List L) (in_comp : ℕ → C → Bool) (in_layer : C → ℕ → L → Bool) (i : ℕ) (comps : List C) (first : Place) → first_in_comps layers_of in_comp in_layer i comps ≡ Some first → IsFirstOf layers_of in_comp in_layer i comps first
comps_some layers_of in_comp in_layer i [] first e = cc
comps_some layers_of in_comp in_layer i (comp ∷ rest) first e =
    elim (either _ _ first e) [
      | inl at ↦
          let found = in_comp_some layers_of in_comp in_layer i comp first at in
          record {
            broken = in_head layers_of in_comp in_layer i comp rest first found.broken;
            least = λ other before h.
                elim (in_first_or_rest layers_of in_comp in_layer i comp rest other h) [
                  | inl same ↦ found.least other before same
                  | inr after ↦ not_before layers_of in_comp in_layer i (i + 1 + after.place) comp after.comp first other found.broken after.broken (omega arith) before
                ];
          }
      | inr behind ↦
          let found = comps_some layers_of in_comp in_layer (i + 1) rest first behind.1 in
          record {
            broken = in_rest layers_of in_comp in_layer i comp rest first found.broken;
            least = λ other before h.
                elim (in_first_or_rest layers_of in_comp in_layer i comp rest other h) [
                  | inl same ↦ in_comp_none layers_of in_comp in_layer i comp behind.0 other same
                  | inr after ↦ found.least other before after
                ];
          }
    ]

-- ---- in a project

abbrev InComps : List EffectSchema → PlainProject → Rule → Place → Type 0
InComps schemas project rule at =
    BrokenIn (λ (comp : PlainComp). comp.layers) (breaks_comp project rule) (breaks_layer schemas project rule) 0 project.comps at

to_comps : (schemas : List EffectSchema) (project : PlainProject) (rule : Rule) (at : Place) → IsBrokenAt schemas project rule at → (IsBrokenAt schemas project rule place.Project) ⊎ InComps schemas project rule at
to_comps schemas project rule place.Project h = inl h
to_comps schemas project rule (place.Comp i) h =
    let same : i ≡ 0 + i = omega arith in
    inr (record { place = i; comp = h.0; here = h.1; broken = (same, ap (λ (n : ℕ). breaks_comp project rule n h.0) (sym same) ∙ h.2) })
to_comps schemas project rule (place.Layer i j) h =
    let same : i ≡ 0 + i = omega arith in
    inr (record {
      place = i;
      comp = h.0;
      here = h.1;
      broken = (same, record { place = j; item = h.2.0; counted = omega arith; here = h.2.1; accepted = h.2.2 });
    })

from_comps : (schemas : List EffectSchema) (project : PlainProject) (rule : Rule) (at : Place) → InComps schemas project rule at → IsBrokenAt schemas project rule at
from_comps schemas project rule place.Project h = absurd h.broken
from_comps schemas project rule (place.Comp i) h =
    let same : h.place ≡ i = omega (arith, h.broken.0) in
    let zero_first : 0 + h.place ≡ i = omega (arith, h.broken.0) in
    (h.comp, ap (slice_get project.comps) (sym same) ∙ h.here, ap (λ (n : ℕ). breaks_comp project rule n h.comp) (sym zero_first) ∙ h.broken.1)
from_comps schemas project rule (place.Layer i j) h =
    let same : h.place ≡ i = omega (arith, h.broken.0) in
    let layer = h.broken.1 in
    let at : layer.place ≡ j = omega (arith, layer.counted) in (
      h.comp,
      ap (slice_get project.comps) (sym same) ∙ h.here,
      (layer.item, ap (slice_get h.comp.layers) (sym at) ∙ layer.here, layer.accepted),
    )

place_some : (schemas : List EffectSchema) (project : PlainProject) (rule : Rule) (first : Place) → place_of schemas project rule ≡ Some first → IsFirstPlace schemas project rule first
place_some schemas project rule first e =
    elim (choice_some (breaks_project project rule) place.Project _ first e) [
      | inl at ↦ subst (IsFirstPlace schemas project rule) at.1 (record { broken = at.0; first_of_all = before_all project rule })
      | inr behind ↦
          let found = comps_some (λ (comp : PlainComp). comp.layers) (breaks_comp project rule) (breaks_layer schemas project rule) 0 project.comps first behind.1 in
          record {
            broken = from_comps schemas project rule first found.broken;
            first_of_all = λ other before h.
                elim (to_comps schemas project rule other h) [ inl out ↦ untested (breaks_project project rule) out behind.0 | inr inside ↦ found.least other before inside ];
          }
    ]
  where
    before_all : (p : PlainProject) (r : Rule) (other : Place) → StandsBefore other place.Project → ¬ IsBrokenAt schemas p r other
    before_all p r place.Project before h = before
    before_all p r (place.Comp i) before h = before
    before_all p r (place.Layer i j) before h = before

place_none : (schemas : List EffectSchema) (project : PlainProject) (rule : Rule) → place_of schemas project rule ≡ None → (other : Place) → ¬ IsBrokenAt schemas project rule other
place_none schemas project rule e other h =
    let both = choice_none (breaks_project project rule) place.Project _ e in
    elim (to_comps schemas project rule other h) [
      | inl out ↦ untested (breaks_project project rule) out both.0
      | inr inside ↦ comps_none (λ (comp : PlainComp). comp.layers) (breaks_comp project rule) (breaks_layer schemas project rule) 0 project.comps both.1 other inside
    ]

pub place_first : PlaceIsFirst
place_first = record { some = place_some; none = place_none }
