-- What effects draw from through the cache.
use Rattle.std.proofs.Common.{◌≡◌, ℕ, zero, suc, ◌<◌, ◌≤◌, ◌+◌, ◌-◌, ◌*◌, ℤ, length, map, take, refl, sym, ap, subst, ◌∙◌, arith, List, []}
use Rattle.std.specs.Prelude.{slice_get, Some, Option}
use Rattle.std.specs.Option.{option_map_or}
use Rattle.std.proofs.lemmas.List.{length-map}
use Rattle.std.proofs.lemmas.Option.{slice_get_within}
use Rattle.comp_stack.specs.Stack.{Plane}
use Rattle.project_model.specs.Nesting.{layers_in, stack_rank}
use Rattle.project_model.specs.Nodes.{node_behind}
use Rattle.project_model.specs.Plain.{plain_comp, plain_fx, plain_layer, plain_of}
use Rattle.project_model.specs.declared.comp.Comp.{Comp}
use Rattle.project_model.specs.declared.layer.Layer.{Layer}
use Rattle.project_model.specs.declared.node.NodeId.{NodeId}
use Rattle.project_model.specs.declared.plain.PlainComp.{PlainComp}
use Rattle.project_model.specs.declared.plain.PlainLayer.{PlainLayer}
use Rattle.project_model.specs.declared.plain.PlainProject.{PlainProject}
use Rattle.project_model.specs.declared.project.Project.{Project}
use Rattle.effect_api.specs.declared.moment.Want.{Want}
use Rattle.effect_api.specs.Sets.{EffectSet, Drawing}
use Rattle.scene_meaning.specs.Drawn.{input_plane}
use Rattle.scene_meaning.specs.Nodes.{HasNode, IsOfLayer, effects_in}
use Rattle.scene_meaning.specs.Parts.{drawn_from, wanted_by}
use Rattle.scene_meaning.specs.Scene.{SceneParts, plain_scene}
use Rattle.scene_meaning.specs.Shown.{Sources, base_in, named_plane, plane, plane_behind}
use Rattle.scene_meaning.proofs.Extents.{layer_here}
use Rattle.scene_meaning.proofs.Inside.{comp_here}
use Rattle.scene_meaning.proofs.Nodes.{behind_is}
use Rattle.scene_meaning.proofs.Uses.{named_wanted}
use Rattle.scene_cache.specs.Sharing.{class_level, comp_of, effects_behind, level_in}
use Rattle.std.specs.Prelude.{Result, Ok, Err, IfOk}
use Rattle.project_model.specs.Bounds.{most_of}
use Rattle.effect_api.specs.Fits.{IsHeld}
use Rattle.effect_api.specs.declared.checkouts.Value.{Value}
use Rattle.scene_meaning.specs.Planes.{IsBoxedPlane, PlanesAreBoxed}
use Rattle.scene_meaning.specs.Right.{value_of}
use Rattle.frame_draw.specs.Areas.{IsNear}
use Rattle.frame_draw.specs.Levels.{comp_level}

-- ---- nodes by their places

layers_here : (project : Project) (of : ℕ) (comp : Comp) → slice_get project.comps of ≡ Some comp → layers_in (plain_of project) of ≡ (plain_comp comp).layers
layers_here project of comp here = ap (λ (o : Option PlainComp). option_map_or (λ c. c.layers) o []) (comp_here project of comp here)

effects_here : (project : Project) (of index : ℕ) (comp : Comp) (layer : Layer) → slice_get project.comps of ≡ Some comp → slice_get comp.layers index ≡ Some layer → effects_in (plain_of project) of index ≡ map plain_fx layer.effects
effects_here project of index comp layer here there =
    ap (λ (ls : List PlainLayer). option_map_or (λ (l : PlainLayer). l.effects) (slice_get ls index) []) (layers_here project of comp here)
    ∙ ap (λ (o : Option PlainLayer). option_map_or (λ (l : PlainLayer). l.effects) o []) (layer_here comp index layer there)

pub has_behind : (project : Project) (of index count : ℕ) (comp : Comp) (layer : Layer) → slice_get project.comps of ≡ Some comp → slice_get comp.layers index ≡ Some layer → count ≤ length layer.effects → HasNode (plain_of project) (node_behind of index count)
has_behind project of index zero comp layer here there few =
    let within : index < length comp.layers = slice_get_within comp.layers index layer there in
    omega (arith, within, ap length (layers_here project of comp here), length-map comp.layers plain_layer)
has_behind project of index (suc k) comp layer here there few =
    omega (arith, few, ap length (effects_here project of index comp layer here there), length-map layer.effects plain_fx)

pub of_behind : (of index count : ℕ) → IsOfLayer (node_behind of index count)
of_behind of index zero = tt
of_behind of index (suc k) = tt

pub comp_behind : (of index count : ℕ) → comp_of (node_behind of index count) ≡ of
comp_behind of index zero = refl
comp_behind of index (suc k) = refl

pub count_behind : (of index count : ℕ) → effects_behind (node_behind of index count) ≡ count
count_behind of index zero = refl
count_behind of index (suc k) = refl

class_low : (class : ℕ) → class_level class ≤ 7
class_low zero = omega arith
class_low (suc class) = omega arith

pub level_low : (project : PlainProject) (class of number : ℕ) (node : NodeId) → comp_of node ≡ of → effects_behind node ≤ number → level_in project class node ≤ comp_level project of (16 * number + 7)
level_low project class of number node comp behind =
    subst (λ (k : ℕ). 256 * stack_rank project k + 16 * effects_behind node + class_level class ≤ comp_level project of (16 * number + 7)) (sym comp)
    (omega (arith, behind, class_low class))

pub level_falls : (project : PlainProject) (class : ℕ) (node : NodeId) → level_in project class node - 1 < level_in project class node
level_falls project zero node = omega arith
level_falls project (suc class) node = omega arith

-- ---- the planes of nodes

-- the plane of a layer behind the effects before this one
pub input_wanted : (parts : SceneParts) (set : EffectSet) (drawing : Drawing) (of index number : ℕ) (comp : Comp) (layer : Layer) (layers : List ℕ) (want : Want) (t : ℤ) → slice_get parts.project.comps of ≡ Some comp → slice_get comp.layers index ≡ Some layer → number ≤ length layer.effects
    → want.input ≡ 0 → plane (plain_scene parts set drawing) (node_behind of index number) want.tick.0 ≡ wanted_by (drawn_from (plain_scene parts set drawing)) (plain_comp comp) (plain_layer layer) number layers want
input_wanted parts set drawing of index number comp layer layers want t here there few first =
    let scene = plain_scene parts set drawing in
    let sources : Sources = drawn_from scene in
    behind_is scene of index number (plain_comp comp) (plain_layer layer) want.tick.0 (comp_here parts.project of comp here) (layer_here comp index layer there) (omega (arith, few, length-map layer.effects plain_fx))
    ∙ ap (λ (n : ℕ). input_plane n (plane_behind sources (plain_comp comp) (plain_layer layer) (take number (plain_layer layer).effects)) (named_plane sources (plain_comp comp)) layers want.tick.0) (sym first)

-- the plane of the source of a layer that is named
pub source_wanted : (parts : SceneParts) (set : EffectSet) (drawing : Drawing) (of number i named : ℕ) (comp : Comp) (layer other : Layer) (layers : List ℕ) (want : Want) → slice_get parts.project.comps of ≡ Some comp → slice_get comp.layers named ≡ Some other
    → want.input ≡ suc i → slice_get layers i ≡ Some named → plane (plain_scene parts set drawing) (node_behind of named 0) want.tick.0 ≡ wanted_by (drawn_from (plain_scene parts set drawing)) (plain_comp comp) (plain_layer layer) number layers want
source_wanted parts set drawing of number i named comp layer other layers want here there input found =
    let scene = plain_scene parts set drawing in
    let sources : Sources = drawn_from scene in
    behind_is scene of named 0 (plain_comp comp) (plain_layer other) want.tick.0 (comp_here parts.project of comp here) (layer_here comp named other there) (omega arith)
    ∙ named_wanted sources (plain_comp comp) (plane_behind sources (plain_comp comp) (plain_layer layer) (take number (plain_layer layer).effects)) layers want.input i named (plain_layer other) want.tick.0 input found (layer_here comp named other there)

-- a node is a layer behind so many effects
pub behind_plane : (parts : SceneParts) (set : EffectSet) (drawing : Drawing) (of index count : ℕ) (comp : Comp) (layer : Layer) (node : NodeId) (t : ℤ) → node ≡ node_behind of index count → slice_get parts.project.comps of ≡ Some comp → slice_get comp.layers index ≡ Some layer
    → count ≤ length layer.effects → plane (plain_scene parts set drawing) node t ≡ plane_behind (drawn_from (plain_scene parts set drawing)) (plain_comp comp) (plain_layer layer) (take count (plain_layer layer).effects) t
behind_plane parts set drawing of index count comp layer node t is here there few =
    ap (λ (n : NodeId). plane (plain_scene parts set drawing) n t) is
    ∙ behind_is (plain_scene parts set drawing) of index count (plain_comp comp) (plain_layer layer) t (comp_here parts.project of comp here) (layer_here comp index layer there) (omega (arith, few, length-map layer.effects plain_fx))

-- and near
pub behind_near : (most : ℕ) (parts : SceneParts) (set : EffectSet) (drawing : Drawing) (of index count : ℕ) (comp : Comp) (layer : Layer) (node : NodeId) (t : ℤ) → most ≡ most_of parts.project.depth → PlanesAreBoxed parts set drawing → node ≡ node_behind of index count
    → slice_get parts.project.comps of ≡ Some comp → slice_get comp.layers index ≡ Some layer → count ≤ length layer.effects → IsHeld (base_in (plain_of parts.project)) t → IsNear most (plane (plain_scene parts set drawing) node t)
behind_near most parts set drawing of index count comp layer node t depth boxed is here there few held = record {
  count = count;
  few = omega (arith, few, layer.few_effects);
  boxed = subst (λ (m : ℕ). IsBoxedPlane m count (plane (plain_scene parts set drawing) node t)) (sym depth)
      (subst (IsBoxedPlane (most_of parts.project.depth) count) (sym (behind_plane parts set drawing of index count comp layer node t is here there few)) (boxed.behind of index count comp layer t here there few held));
}

-- ---- values

-- what is kept of a plane is kept of the node that shows it
pub plane_made : {most : ℕ} {E : Type 0} (set : EffectSet) (drawing : Drawing) (class ask : ℕ) (plane shown : Plane) (made : Result (Value most) E) → class ≡ 0 → ask ≡ 0 → shown ≡ plane
    → IfOk made (λ v. value_of set drawing 0 0 shown ≡ Some v) → IfOk made (λ v. value_of set drawing class ask plane ≡ Some v)
plane_made set drawing class ask plane shown (Ok v) first none same is =
    ap (λ (k : ℕ). value_of set drawing k ask plane) first ∙ ap (λ (k : ℕ). value_of set drawing 0 k plane) none ∙ ap (value_of set drawing 0 0) (sym same) ∙ is
plane_made set drawing class ask plane shown (Err e) first none same is = tt
