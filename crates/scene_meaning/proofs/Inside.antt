-- What lies in a scene.
use Rattle.std.proofs.Common.{◌≡◌, ℕ, zero, suc, ◌<◌, List, [], ◌∷◌, length, get_or, refl, sym, ap, subst, ◌∙◌, arith}
use Rattle.std.specs.Prelude.{Some, option_map, slice_get, All}
use Rattle.std.proofs.lemmas.Option.{slice_get-map, slice_get-get_or, slice_get_within, get_or_from_slice_get}
use Rattle.project_model.specs.Plain.{plain_layer, plain_comp, plain_of}
use Rattle.project_model.specs.Nesting.{IsAcyclic, source_rank, stack_rank}
use Rattle.project_model.proofs.Ranked.{source_below}
use Rattle.project_model.specs.declared.layer.Layer.{Layer}
use Rattle.project_model.specs.declared.comp.Comp.{Comp}
use Rattle.project_model.specs.declared.project.Project.{Project}

-- what holds of all holds of the one that is found
pub found_holds : {X : Type 0} (P : X → Type 0) (xs : List X) (i : ℕ) (x : X) → All P xs → slice_get xs i ≡ Some x → P x
found_holds P xs i x all found = subst P (get_or_from_slice_get xs i x x found) (all i x (slice_get_within xs i x found))

-- the one that was read stands there
pub read_at : {X : Type 0} (xs ys : List X) (i : ℕ) (x : X) → ys ≡ xs → i < length ys → x ≡ get_or ys i x → slice_get xs i ≡ Some x
read_at xs ys i x same here is = ap (λ l. slice_get l i) (sym same) ∙ slice_get-get_or ys i x here ∙ ap Some (sym is)

-- what holds of all holds of the one that was read
pub holds_at : {X : Type 0} (P : X → Type 0) (xs ys : List X) (i : ℕ) (x : X) → All P xs → ys ≡ xs → i < length ys → x ≡ get_or ys i x → P x
holds_at P xs ys i x all same here is =
    let within : i < length xs = omega (arith, ap length same) in
    subst P (sym (is ∙ ap (λ l. get_or l i x) same)) (all i x within)

-- there is one at each place within
pub there_is : {A : Type 0} (xs : List A) (i : ℕ) → i < length xs → (x : A) × (slice_get xs i ≡ Some x)
there_is [] i h = absurd (omega (arith, h))
there_is (x ∷ xs) zero h = (x, refl)
there_is (x ∷ xs) (suc i) h = there_is xs i (omega (arith, h))

-- the source of each layer has a rank below that of its composition
pub layer_below : (project : Project) (i : ℕ) (comp : Comp) (k : ℕ) (layer : Layer) → IsAcyclic (plain_of project) → slice_get project.comps i ≡ Some comp → slice_get comp.layers k ≡ Some layer
    → source_rank (stack_rank (plain_of project)) layer.source < stack_rank (plain_of project) i
layer_below project i comp k layer acyclic there here =
    source_below (plain_of project) i (plain_comp comp) k (plain_layer layer) acyclic
    (slice_get-map plain_comp project.comps i ∙ ap (option_map plain_comp) there)
    (slice_get-map plain_layer comp.layers k ∙ ap (option_map plain_layer) here)

-- a composition in plain parts
pub comp_here : (project : Project) (i : ℕ) (comp : Comp) → slice_get project.comps i ≡ Some comp → slice_get (plain_of project).comps i ≡ Some (plain_comp comp)
comp_here project i comp here = slice_get-map plain_comp project.comps i ∙ ap (option_map plain_comp) here
