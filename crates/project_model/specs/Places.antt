-- The first place where a rule is broken: a composition stands before its layers, and they before the next composition.
use Rattle.std.specs.Prelude.{ℕ, ◌+◌, Bool, List, [], ◌∷◌, Option, Some, None, option_map, if◌then◌else◌}
use Rattle.project_model.specs.declared.place.Place.{Place}
use Rattle.project_model.specs.declared.place.Place.TheVariants as place

-- the first of the two that there is
abbrev pub first_of_two : {A : Type 0} → Option A → Option A → Option A
first_of_two (Some a) other = Some a
first_of_two None other = other

-- the index of the first item that the test accepts with its index, where they are counted from i
abbrev pub first_from : {A : Type 0} → (ℕ → A → Bool) → ℕ → List A → Option ℕ
first_from test i [] = None
first_from test i (a ∷ rest) = if test i a then Some i else first_from test (i + 1) rest

-- the first place in composition number i, where these tests say what is broken in a composition and in each of its layers;
-- each is given the index of what it tests
abbrev pub first_in_comp : {C L : Type 0} → (C → List L) → (ℕ → C → Bool) → (C → ℕ → L → Bool) → ℕ → C → Option Place
first_in_comp layers_of in_comp in_layer i comp =
    if in_comp i comp
    then Some (place.Comp i)
    else option_map (place.Layer i) (first_from (in_layer comp) 0 (layers_of comp))

-- the first place from composition i on
abbrev pub first_in_comps : {C L : Type 0} → (C → List L) → (ℕ → C → Bool) → (C → ℕ → L → Bool) → ℕ → List C → Option Place
first_in_comps layers_of in_comp in_layer i [] = None
first_in_comps layers_of in_comp in_layer i (comp ∷ rest) =
    first_of_two (first_in_comp layers_of in_comp in_layer i comp) (first_in_comps layers_of in_comp in_layer (i + 1) rest)

-- the first place of all
abbrev pub first_place : {C L : Type 0} → (C → List L) → Bool → (ℕ → C → Bool) → (C → ℕ → L → Bool) → List C → Option Place
first_place layers_of in_project in_comp in_layer comps =
    if in_project then Some place.Project else first_in_comps layers_of in_comp in_layer 0 comps
