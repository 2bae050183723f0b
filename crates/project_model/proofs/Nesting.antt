-- Paths through nested compositions, and what settles in as many turns as there are compositions.
use Rattle.std.proofs.Common.{◌≡◌, ℕ, zero, suc, ◌+◌, ◌<◌, ◌≤◌, Bool, true, false, List, [], ◌∷◌, ◌++◌, length, inl, inr, refl, sym, ◌∙◌, subst, ap, arith, eqb}
use Rattle.std.specs.Prelude.{◌⊎◌, Some, ◌||◌, slice_get}
use Rattle.std.specs.List.{list_any, AllByRecursion, IsDistinct}
use Rattle.std.specs.Option.{option_map_or}
use Rattle.std.proofs.lemmas.Bool.{cases_Bool, cases_lt, eqb-true, eq-eqb}
use Rattle.std.proofs.lemmas.Map.Keys.{IsDistinct-cons, IsDistinct-tail}
use Rattle.std.proofs.lemmas.Map.Steps.{length-le_from_distinct_below}
use Rattle.project_model.specs.Nesting.{layers_in, nested_of, nests, nests_or_leads, lead_to, reaches_in, reaches, IsPath, PathsAreFound, IsAcyclic}
use Rattle.project_model.specs.declared.item.Item.{Item}
use Rattle.project_model.specs.declared.item.Item.TheVariants.{Solid, Clip, Comp}
use Rattle.project_model.specs.declared.plain.PlainLayer.{PlainLayer}
use Rattle.project_model.specs.declared.plain.PlainComp.{PlainComp}
use Rattle.project_model.specs.declared.plain.PlainProject.{PlainProject}

-- ---- tests

or_left : (a b : Bool) → a ≡ true → (a || b) ≡ true
or_left true b e = refl
or_left false b e = cc

or_right : (a b : Bool) → b ≡ true → (a || b) ≡ true
or_right true b e = refl
or_right false b e = e

pub or_either : (a b : Bool) → (a || b) ≡ true → (a ≡ true) ⊎ (b ≡ true)
or_either true b e = inl refl
or_either false b e = inr e

any_weaker : {A : Type 0} (p q : A → Bool) → ((a : A) → p a ≡ true → q a ≡ true) → (xs : List A) → list_any p xs ≡ true → list_any q xs ≡ true
any_weaker p q weaker [] e = cc
any_weaker p q weaker (a ∷ xs) e =
    elim (or_either (p a) (list_any p xs) e) [
      | inl here ↦ or_left (q a) (list_any q xs) (weaker a here)
      | inr after ↦ or_right (q a) (list_any q xs) (any_weaker p q weaker xs after)
    ]

-- ---- lists of indices

abbrev IsIn : ℕ → List ℕ → Type 0
IsIn i list = list_any (eqb i) list ≡ true

apart : (i : ℕ) (list : List ℕ) → list_any (eqb i) list ≡ false → AllByRecursion (λ j. eqb i j ≡ false) list
apart i [] e = tt
apart i (j ∷ list) e = (left (eqb i j) (list_any (eqb i) list) e, apart i list (right (eqb i j) (list_any (eqb i) list) e))
  where
    left : (a b : Bool) → (a || b) ≡ false → a ≡ false
    left true b h = cc
    left false b h = refl

    right : (a b : Bool) → (a || b) ≡ false → b ≡ false
    right true b h = cc
    right false b h = h

alone : (i : ℕ) → IsDistinct eqb (i ∷ [])
unfolding IsDistinct
alone i = (tt, tt)

-- ---- what nests is there

list_there : {A B : Type 0} (f : A → List B) (test : B → Bool) (list : List A) (i : ℕ) → list_any test (option_map_or f (slice_get list i) []) ≡ true → i < length list
list_there f test [] i e = cc
list_there f test (a ∷ list) zero e = omega arith
list_there f test (a ∷ list) (suc i) e = let behind = list_there f test list i e in omega (arith, behind)

nesting_there : (project : PlainProject) (i other : ℕ) → nests project i other ≡ true → i < length project.comps
nesting_there project i other e =
    list_there (λ (comp : PlainComp). comp.layers) (λ (layer : PlainLayer). list_any (λ nested. eqb nested other) (nested_of layer.source)) project.comps i e

-- ---- paths without repeats

record Simple (project : PlainProject) (i other : ℕ) : Type 0 where
  pub path : List ℕ
  pub distinct : IsDistinct eqb (i ∷ path)
  pub leads : IsPath project i path other

starts_there : (project : PlainProject) (i at : ℕ) (path : List ℕ) (other : ℕ) → IsDistinct eqb (at ∷ path) → IsPath project at path other → eqb i at ≡ true → Simple project i other
starts_there project i at path other distinct leads here =
    let same : at ≡ i = sym (eqb-true i at here) in
    record {
      path = path;
      distinct = subst (λ (n : ℕ). IsDistinct eqb (n ∷ path)) same distinct;
      leads = subst (λ (n : ℕ). IsPath project n path other) same leads;
    }

from_within : (project : PlainProject) (i at : ℕ) (path : List ℕ) (other : ℕ) → IsDistinct eqb (at ∷ path) → IsPath project at path other → IsIn i (at ∷ path) → Simple project i other
from_within project i at [] other distinct leads within =
    elim (or_either (eqb i at) false within) [ inl here ↦ starts_there project i at [] other distinct leads here | inr after ↦ cc ]
from_within project i at (next ∷ rest) other distinct leads within =
    elim (or_either (eqb i at) (list_any (eqb i) (next ∷ rest)) within) [
      | inl here ↦ starts_there project i at (next ∷ rest) other distinct leads here
      | inr after ↦ from_within project i next rest other (IsDistinct-tail eqb at (next ∷ rest) distinct) leads.1 after
    ]

simple_path : (project : PlainProject) (i : ℕ) (path : List ℕ) (other : ℕ) → IsPath project i path other → Simple project i other
simple_path project i [] other leads = record { path = []; distinct = alone i; leads = leads }
simple_path project i (next ∷ rest) other leads =
    let found = simple_path project next rest other leads.1 in
    elim (cases_Bool (list_any (eqb i) (next ∷ found.path))) [
      | inl within ↦ from_within project i next found.path other found.distinct found.leads within
      | inr out ↦ record {
        path = next ∷ found.path;
        distinct = IsDistinct-cons eqb i (next ∷ found.path) (apart i (next ∷ found.path) out) found.distinct;
        leads = (leads.0, found.leads);
      }
    ]

-- all that stands on a path but its end nests something
path_there : (project : PlainProject) (i : ℕ) (path : List ℕ) (other at : ℕ) → IsPath project i path other → IsIn at (i ∷ path) → at < length project.comps
path_there project i [] other at leads within =
    elim (or_either (eqb at i) false within) [
      | inl same ↦ subst (λ (n : ℕ). n < length project.comps) (sym (eqb-true at i same)) (nesting_there project i other leads)
      | inr after ↦ cc
    ]
path_there project i (next ∷ rest) other at leads within =
    elim (or_either (eqb at i) (list_any (eqb at) (next ∷ rest)) within) [
      | inl same ↦ subst (λ (n : ℕ). n < length project.comps) (sym (eqb-true at i same)) (nesting_there project i next leads.0)
      | inr after ↦ path_there project next rest other at leads.1 after
    ]

short_path : (project : PlainProject) (i other : ℕ) (simple : Simple project i other) → suc (length simple.path) ≤ length project.comps
short_path project i other simple =
    let few = length-le_from_distinct_below (i ∷ simple.path) (length project.comps) simple.distinct (λ q within. path_there project i simple.path other q simple.leads within) in
    omega (arith, few)

-- ---- steps

-- the item nests this composition
abbrev nests_item : ℕ → Item → Bool
nests_item next item = list_any (λ nested. eqb nested next) (nested_of item)

-- one of the layers does
abbrev pub nest_in : List PlainLayer → ℕ → Bool
nest_in layers next = list_any (λ layer. nests_item next layer.source) layers

item_leads : (leads : ℕ → Bool) (other next : ℕ) (item : Item) → (eqb next other || leads next) ≡ true → nests_item next item ≡ true → nests_or_leads leads other item ≡ true
item_leads leads other next (Solid width height a r g b) h e = e
item_leads leads other next (Clip index) h e = e
item_leads leads other next (Comp index) h e =
    elim (or_either (eqb index next) false e) [
      | inl here ↦
          let same : next ≡ index = sym (eqb-true index next here) in
          or_left (eqb index other || leads index) false (subst (λ (n : ℕ). (eqb n other || leads n) ≡ true) same h)
      | inr after ↦ cc
    ]

one_step : (leads : ℕ → Bool) (other next : ℕ) (layers : List PlainLayer) → nest_in layers next ≡ true → (eqb next other || leads next) ≡ true → lead_to leads other layers ≡ true
one_step leads other next layers e h =
    any_weaker (λ (layer : PlainLayer). nests_item next layer.source) (λ (layer : PlainLayer). nests_or_leads leads other layer.source)
    (λ layer k. item_leads leads other next layer.source h k) layers e

-- a step that leads on goes by one of the compositions that are nested
record Step (leads : ℕ → Bool) (other : ℕ) (nesting : ℕ → Bool) : Type 0 where
  pub next : ℕ
  pub nested : nesting next ≡ true
  pub onward : (eqb next other || leads next) ≡ true

item_step : (leads : ℕ → Bool) (other : ℕ) (item : Item) → nests_or_leads leads other item ≡ true → Step leads other (λ next. nests_item next item)
item_step leads other (Solid width height a r g b) e = cc
item_step leads other (Clip index) e = cc
item_step leads other (Comp index) e =
    elim (or_either (eqb index other || leads index) false e) [
      | inl on ↦ record { next = index; nested = or_left (eqb index index) false (eq-eqb index index refl); onward = on }
      | inr after ↦ cc
    ]

found_step : (leads : ℕ → Bool) (other : ℕ) (layers : List PlainLayer) → lead_to leads other layers ≡ true → Step leads other (nest_in layers)
found_step leads other [] e = cc
found_step leads other (layer ∷ layers) e =
    elim (or_either (nests_or_leads leads other layer.source) (lead_to leads other layers) e) [
      | inl here ↦
          let step = item_step leads other layer.source here in
          record { next = step.next; nested = or_left (nests_item step.next layer.source) (nest_in layers step.next) step.nested; onward = step.onward }
      | inr after ↦
          let step = found_step leads other layers after in
          record { next = step.next; nested = or_right (nests_item step.next layer.source) (nest_in layers step.next) step.nested; onward = step.onward }
    ]

-- ---- paths and steps

reached_by : (project : PlainProject) (i : ℕ) (path : List ℕ) (other : ℕ) → IsPath project i path other → reaches_in (suc (length path)) project i other ≡ true
reached_by project i [] other leads =
    one_step (λ nested. reaches_in zero project nested other) other other (layers_in project i) leads
    (or_left (eqb other other) false (eq-eqb other other refl))
reached_by project i (next ∷ rest) other leads =
    one_step (λ nested. reaches_in (suc (length rest)) project nested other) other next (layers_in project i) leads.0
    (or_right (eqb next other) (reaches_in (suc (length rest)) project next other) (reached_by project next rest other leads.1))

more_steps : (s t : ℕ) (project : PlainProject) (i other : ℕ) → s ≤ t → reaches_in s project i other ≡ true → reaches_in t project i other ≡ true
more_steps zero t project i other few e = cc
more_steps (suc s) zero project i other few e = absurd (omega (arith, few))
more_steps (suc s) (suc t) project i other few e =
    let step = found_step (λ nested. reaches_in s project nested other) other (layers_in project i) e in
    one_step (λ nested. reaches_in t project nested other) other step.next (layers_in project i) step.nested
    (elim (or_either (eqb step.next other) (reaches_in s project step.next other) step.onward) [
      | inl here ↦ or_left (eqb step.next other) (reaches_in t project step.next other) here
      | inr on ↦ or_right (eqb step.next other) (reaches_in t project step.next other) (more_steps s t project step.next other (omega (arith, few)) on)
    ])

path_of : (s : ℕ) (project : PlainProject) (i other : ℕ) → reaches_in s project i other ≡ true → (path : List ℕ) × IsPath project i path other
path_of zero project i other e = cc
path_of (suc s) project i other e =
    let step = found_step (λ nested. reaches_in s project nested other) other (layers_in project i) e in
    elim (or_either (eqb step.next other) (reaches_in s project step.next other) step.onward) [
      | inl here ↦ ([], subst (λ (n : ℕ). nests project i n ≡ true) (eqb-true step.next other here) step.nested)
      | inr on ↦ let rest = path_of s project step.next other on in (step.next ∷ rest.0, (step.nested, rest.1))
    ]

path_reaches : (project : PlainProject) (i other : ℕ) (path : List ℕ) → IsPath project i path other → reaches project i other ≡ true
path_reaches project i other path leads =
    let simple = simple_path project i path other leads in
    more_steps (suc (length simple.path)) (length project.comps) project i other (short_path project i other simple)
    (reached_by project i simple.path other simple.leads)

pub paths_found : PathsAreFound
paths_found project i other = (
  λ e. path_of (length project.comps) project i other e,
  λ found. path_reaches project i other found.0 found.1,
)

no_loop : (project : PlainProject) → IsAcyclic project → (i : ℕ) (path : List ℕ) → IsPath project i path i → ⊥
no_loop project acyclic i path leads = apart_tests (reaches project i i) (path_reaches project i i path leads) (acyclic i)
  where
    apart_tests : (b : Bool) → b ≡ true → b ≡ false → ⊥
    apart_tests b e f = cc

-- ---- what settles

-- the two agree at the composition that the item nests, if it nests one
abbrev pub AgreeFor : {A : Type 0} → (ℕ → A) → (ℕ → A) → Item → Type 0
AgreeFor f g (Solid width height a r g' b) = Unit {0}
AgreeFor f g (Clip index) = Unit {0}
AgreeFor f g (Comp index) = f index ≡ g index

-- they agree at each composition that the layers nest
abbrev pub AgreeOver : {A : Type 0} → (ℕ → A) → (ℕ → A) → List PlainLayer → Type 0
AgreeOver f g [] = Unit {0}
AgreeOver f g (layer ∷ layers) = AgreeFor f g layer.source × AgreeOver f g layers

pub agree_at : {A : Type 0} (f g : ℕ → A) (layers : List PlainLayer) (at : ℕ) (layer : PlainLayer) → AgreeOver f g layers → slice_get layers at ≡ Some layer → AgreeFor f g layer.source
agree_at f g [] at layer all e = cc
agree_at f g (first ∷ layers) zero layer all e = let same : first ≡ layer = cc in subst (λ (l : PlainLayer). AgreeFor f g l.source) same all.0
agree_at f g (first ∷ layers) (suc at) layer all e = agree_at f g layers at layer all.1 e

-- A step gives each composition something, of what those that it nests have: it does not look at the others, and a
-- composition that is not there has what all have before the first turn.
pub record IsStep {A : Type 0} (project : PlainProject) (start : A) (step : (ℕ → A) → ℕ → A) : Type 0 where
  pub local : (f g : ℕ → A) (i : ℕ) → AgreeOver f g (layers_in project i) → step f i ≡ step g i
  pub absent : (f : ℕ → A) (i : ℕ) → length project.comps ≤ i → step f i ≡ start

-- what each composition has after so many turns
pub record AreTurns {A : Type 0} (start : A) (step : (ℕ → A) → ℕ → A) (turns : ℕ → ℕ → A) : Type 0 where
  pub first : (i : ℕ) → turns 0 i ≡ start
  pub next : (n i : ℕ) → turns (suc n) i ≡ step (turns n) i

agree_for : {A : Type 0} (f g : ℕ → A) (item : Item) → ((k : ℕ) → nests_item k item ≡ true → f k ≡ g k) → AgreeFor f g item
agree_for f g (Solid width height a r g' b) h = tt
agree_for f g (Clip index) h = tt
agree_for f g (Comp index) h = h index (or_left (eqb index index) false (eq-eqb index index refl))

agree_over : {A : Type 0} (f g : ℕ → A) (layers : List PlainLayer) → ((k : ℕ) → nest_in layers k ≡ true → f k ≡ g k) → AgreeOver f g layers
agree_over f g [] h = tt
agree_over f g (layer ∷ layers) h = (
  agree_for f g layer.source (λ k e. h k (or_left (nests_item k layer.source) (nest_in layers k) e)),
  agree_over f g layers (λ k e. h k (or_right (nests_item k layer.source) (nest_in layers k) e)),
)

-- the compositions on the way to this one, no two the same
record Trail (project : PlainProject) (seen : List ℕ) (i : ℕ) : Type 0 where
  pub distinct : IsDistinct eqb seen
  pub there : (q : ℕ) → IsIn q seen → q < length project.comps
  pub leads : (q : ℕ) → IsIn q seen → (path : List ℕ) × IsPath project q path i

no_trail : (project : PlainProject) (i : ℕ) → Trail project [] i
unfolding IsDistinct
no_trail project i = record { distinct = tt; there = λ q e. cc; leads = λ q e. cc }

path_on : (project : PlainProject) (q : ℕ) (path : List ℕ) (i k : ℕ) → IsPath project q path i → nests project i k ≡ true → IsPath project q (path ++ i ∷ []) k
path_on project q [] i k way e = (way, e)
path_on project q (next ∷ rest) i k way e = (way.0, path_on project next rest i k way.1 e)

unseen : (project : PlainProject) → IsAcyclic project → (seen : List ℕ) (i : ℕ) → Trail project seen i → IsDistinct eqb (i ∷ seen)
unseen project acyclic seen i trail =
    elim (cases_Bool (list_any (eqb i) seen)) [
      | inl within ↦ let loop = trail.leads i within in absurd (no_loop project acyclic i loop.0 loop.1)
      | inr out ↦ IsDistinct-cons eqb i seen (apart i seen out) trail.distinct
    ]

there_on : (project : PlainProject) (seen : List ℕ) (i : ℕ) → Trail project seen i → i < length project.comps → (q : ℕ) → IsIn q (i ∷ seen) → q < length project.comps
there_on project seen i trail here q within =
    elim (or_either (eqb q i) (list_any (eqb q) seen) within) [
      | inl same ↦ subst (λ (n : ℕ). n < length project.comps) (sym (eqb-true q i same)) here
      | inr after ↦ trail.there q after
    ]

trail_on : (project : PlainProject) → IsAcyclic project → (seen : List ℕ) (i k : ℕ) → Trail project seen i → nests project i k ≡ true → Trail project (i ∷ seen) k
trail_on project acyclic seen i k trail e = record {
  distinct = unseen project acyclic seen i trail;
  there = there_on project seen i trail (nesting_there project i k e);
  leads = λ q within.
      elim (or_either (eqb q i) (list_any (eqb q) seen) within) [
        | inl same ↦ ([], subst (λ (n : ℕ). nests project n k ≡ true) (sym (eqb-true q i same)) e)
        | inr after ↦ let way = trail.leads q after in (way.0 ++ i ∷ [], path_on project q way.0 i k way.1 e)
      ];
}

turns_absent : {A : Type 0} (project : PlainProject) (start : A) (step : (ℕ → A) → ℕ → A) (turns : ℕ → ℕ → A) → IsStep project start step → AreTurns start step turns → (n i : ℕ) → length project.comps ≤ i → turns n i ≡ start
turns_absent project start step turns is are zero i out = are.first i
turns_absent project start step turns is are (suc n) i out = are.next n i ∙ is.absent (turns n) i out

settled : {A : Type 0} (project : PlainProject) (start : A) (step : (ℕ → A) → ℕ → A) (turns : ℕ → ℕ → A) → IsStep project start step → AreTurns start step turns → IsAcyclic project → (n more : ℕ) (seen : List ℕ) (i : ℕ) → Trail project seen i → length project.comps ≤ n + length seen → turns (n + more) i ≡ turns n i
settled project start step turns is are acyclic zero more seen i trail few =
    elim (cases_lt i (length project.comps)) [
      | inl here ↦
          let most = length-le_from_distinct_below (i ∷ seen) (length project.comps) (unseen project acyclic seen i trail) (there_on project seen i trail here) in
          absurd (omega (arith, most, few))
      | inr out ↦ turns_absent project start step turns is are (0 + more) i out ∙ sym (turns_absent project start step turns is are 0 i out)
    ]
settled project start step turns is are acyclic (suc n) more seen i trail few =
    let all : suc n + more ≡ suc (n + more) = omega arith in
    ap (λ (m : ℕ). turns m i) all
    ∙ are.next (n + more) i
    ∙ is.local (turns (n + more)) (turns n) i
    (agree_over (turns (n + more)) (turns n) (layers_in project i)
    (λ k e. settled project start step turns is are acyclic n more (i ∷ seen) k (trail_on project acyclic seen i k trail e) (omega (arith, few))))
    ∙ sym (are.next n i)

-- Where no composition reaches itself, as many turns as there are compositions are enough.
pub more_turns : {A : Type 0} (project : PlainProject) (start : A) (step : (ℕ → A) → ℕ → A) (turns : ℕ → ℕ → A) → IsStep project start step → AreTurns start step turns → IsAcyclic project → (more i : ℕ) → turns (length project.comps + more) i ≡ turns (length project.comps) i
more_turns project start step turns is are acyclic more i =
    settled project start step turns is are acyclic (length project.comps) more [] i (no_trail project i) (omega arith)

-- one turn more gives the same: what is had then is of itself
pub turns_fixed : {A : Type 0} (project : PlainProject) (start : A) (step : (ℕ → A) → ℕ → A) (turns : ℕ → ℕ → A) → IsStep project start step → AreTurns start step turns → IsAcyclic project → (i : ℕ) → turns (length project.comps) i ≡ step (turns (length project.comps)) i
turns_fixed project start step turns is are acyclic i =
    let one : length project.comps + 1 ≡ suc (length project.comps) = omega arith in
    sym (more_turns project start step turns is are acyclic 1 i)
    ∙ ap (λ (m : ℕ). turns m i) one
    ∙ are.next (length project.comps) i
