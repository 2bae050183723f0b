-- What the layers of a sound project show: it is there, and nested compositions have lesser ranks.
use Rattle.std.proofs.Common.{◌≡◌, ℕ, ◌<◌, List, length, ◌∙◌, ap, subst}
use Rattle.std.specs.Prelude.{Some, option_map, slice_get}
use Rattle.std.specs.List.{All}
use Rattle.std.proofs.lemmas.Option.{get_or_from_slice_get, slice_get-map, slice_get_within}
use Rattle.project_model.specs.Bounds.{most_of}
use Rattle.project_model.specs.Nesting.{source_rank, last_rank, stack_rank}
use Rattle.project_model.specs.Plain.{plain_layer, plain_comp, plain_of}
use Rattle.project_model.specs.Sound.{IsSoundItem, IsSoundLayer, IsSoundComp, IsSound}
use Rattle.project_model.specs.declared.comp.Comp.{Comp}
use Rattle.project_model.specs.declared.item.Item.TheVariants.{Comp as CompItem}
use Rattle.project_model.specs.declared.layer.Layer.{Layer}
use Rattle.project_model.specs.declared.project.Project.{Project}
use Rattle.project_model.proofs.Ranked.{last_below, source_below, nested_below}

-- what holds of all holds of the one at an index
pub each_at : {A : Type 0} (P : A → Type 0) (list : List A) (i : ℕ) (a : A) → All P list → slice_get list i ≡ Some a → P a
each_at P list i a all e = subst P (get_or_from_slice_get list i a a e) (all i a (slice_get_within list i a e))

pub comp_sound_at : (project : Project) → IsSound project → (i : ℕ) (comp : Comp) → slice_get project.comps i ≡ Some comp → IsSoundComp project.depth project.base.ticks (length project.clips) (length project.comps) comp
comp_sound_at project sound i comp e =
    each_at (IsSoundComp project.depth project.base.ticks (length project.clips) (length project.comps)) project.comps i comp sound.comps e

pub layer_sound_at : (project : Project) → IsSound project → (i : ℕ) (comp : Comp) (at : ℕ) (layer : Layer) → slice_get project.comps i ≡ Some comp → slice_get comp.layers at ≡ Some layer → IsSoundLayer project.depth project.base.ticks (length project.clips) (length project.comps) layer
layer_sound_at project sound i comp at layer there here =
    each_at (IsSoundLayer project.depth project.base.ticks (length project.clips) (length project.comps)) comp.layers at layer
    (comp_sound_at project sound i comp there).layers here

-- a solid that it shows may be there, a clip or a composition is there
pub item_there : (project : Project) → IsSound project → (i : ℕ) (comp : Comp) (at : ℕ) (layer : Layer) → slice_get project.comps i ≡ Some comp → slice_get comp.layers at ≡ Some layer → IsSoundItem (most_of project.depth) (length project.clips) (length project.comps) layer.source
item_there project sound i comp at layer there here = (layer_sound_at project sound i comp at layer there here).source

-- ---- the same in plain parts

pub plain_at : (project : Project) (i : ℕ) (comp : Comp) → slice_get project.comps i ≡ Some comp → slice_get (plain_of project).comps i ≡ Some (plain_comp comp)
plain_at project i comp e = slice_get-map plain_comp project.comps i ∙ ap (option_map plain_comp) e

pub plain_layer_at : (comp : Comp) (at : ℕ) (layer : Layer) → slice_get comp.layers at ≡ Some layer → slice_get (plain_comp comp).layers at ≡ Some (plain_layer layer)
plain_layer_at comp at layer e = slice_get-map plain_layer comp.layers at ∙ ap (option_map plain_layer) e

-- the last node of a layer is below its composition
pub last_below_at : (project : Project) → IsSound project → (i : ℕ) (comp : Comp) (at : ℕ) (layer : Layer) → slice_get project.comps i ≡ Some comp → slice_get comp.layers at ≡ Some layer → last_rank (stack_rank (plain_of project)) (plain_comp comp).layers (plain_layer layer) < stack_rank (plain_of project) i
last_below_at project sound i comp at layer there here =
    last_below (plain_of project) i (plain_comp comp) at (plain_layer layer) sound.nesting (plain_at project i comp there) (plain_layer_at comp at layer here)

-- so is its source
pub source_below_at : (project : Project) → IsSound project → (i : ℕ) (comp : Comp) (at : ℕ) (layer : Layer) → slice_get project.comps i ≡ Some comp → slice_get comp.layers at ≡ Some layer → source_rank (stack_rank (plain_of project)) layer.source < stack_rank (plain_of project) i
source_below_at project sound i comp at layer there here =
    source_below (plain_of project) i (plain_comp comp) at (plain_layer layer) sound.nesting (plain_at project i comp there) (plain_layer_at comp at layer here)

-- so is a composition that it nests
pub nested_below_at : (project : Project) → IsSound project → (i : ℕ) (comp : Comp) (at : ℕ) (layer : Layer) (k : ℕ) → slice_get project.comps i ≡ Some comp → slice_get comp.layers at ≡ Some layer → layer.source ≡ CompItem k → stack_rank (plain_of project) k < stack_rank (plain_of project) i
nested_below_at project sound i comp at layer k there here nested =
    nested_below (plain_of project) i (plain_comp comp) at (plain_layer layer) k sound.nesting (plain_at project i comp there) (plain_layer_at comp at layer here) nested
