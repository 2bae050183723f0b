-- The first place, and the first broken rule, where the search for them stops.
use Rattle.std.proofs.Common.{◌≡◌, ℕ, suc, ◌+◌, ◌<◌, Bool, true, false, List, length, drop, refl, sym, ◌∙◌, ap}
use Rattle.std.specs.Prelude.{Option, Some, None, option_map, is_some, slice_index_or}
use Rattle.std.proofs.Math.Seq.{drop-cons}
use Rattle.project_model.specs.Places.{first_of_two, first_from, first_in_comp, first_in_comps}
use Rattle.project_model.specs.declared.place.Place.{Place}
use Rattle.project_model.specs.declared.place.Place.TheVariants as place

pub comp_broken : {C L : Type 0} (layers_of : C → List L) (in_comp : ℕ → C → Bool) (in_layer : C → ℕ → L → Bool) (i : ℕ) (comp : C) → in_comp i comp ≡ true → Some (place.Comp i) ≡ first_in_comp layers_of in_comp in_layer i comp
comp_broken layers_of in_comp in_layer i comp e = rw e refl

pub layer_found : {C L : Type 0} (layers_of : C → List L) (in_comp : ℕ → C → Bool) (in_layer : C → ℕ → L → Bool) (i : ℕ) (comp : C) (layer : Option ℕ) → in_comp i comp ≡ false → layer ≡ first_from (in_layer comp) 0 (layers_of comp) → option_map (place.Layer i) layer ≡ first_in_comp layers_of in_comp in_layer i comp
layer_found layers_of in_comp in_layer i comp layer e f = rw (e, f) refl

first_stays : {A : Type 0} (found other : Option A) → is_some found ≡ true → found ≡ first_of_two found other
first_stays None other e = cc
first_stays (Some a) other e = refl

pub comp_found : {C L : Type 0} (layers_of : C → List L) (in_comp : ℕ → C → Bool) (in_layer : C → ℕ → L → Bool) (i : ℕ) (comps seen : List C) (comp : C) (found : Option Place) → seen ≡ comps → i < length seen → comp ≡ slice_index_or seen i comp → found ≡ first_in_comp layers_of in_comp in_layer i comp → is_some found ≡ true → found ≡ first_in_comps layers_of in_comp in_layer i (drop i comps)
comp_found layers_of in_comp in_layer i comps seen comp found same within is e some =
    let here : found ≡ first_in_comp layers_of in_comp in_layer i (slice_index_or seen i comp) = e ∙ ap (first_in_comp layers_of in_comp in_layer i) is in
    first_stays found (first_in_comps layers_of in_comp in_layer (i + 1) (drop (suc i) seen)) some
    ∙ ap (λ (o : Option Place). first_of_two o (first_in_comps layers_of in_comp in_layer (i + 1) (drop (suc i) seen))) here
    ∙ ap (first_in_comps layers_of in_comp in_layer i) (sym (drop-cons seen i comp within) ∙ ap (drop i) same)
