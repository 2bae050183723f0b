-- What the planes of nodes are drawn from.
use Rattle.std.proofs.Common.{◌≡◌, ℕ, zero, suc, ◌<◌, ◌≤◌, ℤ, List, [], ◌∷◌, length, refl, sym, ap, ◌∙◌, arith}
use Rattle.std.specs.Prelude.{Option, Some, None, slice_get, take, Bool, if◌then◌else◌}
use Rattle.std.specs.List.{fold}
use Rattle.std.specs.Option.{option_map_or}
use Rattle.std.proofs.lemmas.Bool.{lt-ltb}
use Rattle.std.proofs.lemmas.Option.{slice_get_within}
use Rattle.rational_time.specs.Times.{tick_of}
use Rattle.comp_stack.specs.Stack.{Plane}
use Rattle.project_model.specs.Nodes.{node_behind, fx_at}
use Rattle.project_model.specs.declared.item.Item.{Item}
use Rattle.project_model.specs.declared.node.NodeId.TheVariants.{Source}
use Rattle.project_model.specs.declared.plain.PlainFx.{PlainFx}
use Rattle.project_model.specs.declared.plain.PlainLayer.{PlainLayer}
use Rattle.project_model.specs.declared.plain.PlainComp.{PlainComp}
use Rattle.effect_api.specs.declared.moment.Want.{Want}
use Rattle.scene_meaning.specs.Drawn.{nothing, use_in, moment_at, input_plane, drawn_plane}
use Rattle.scene_meaning.specs.Nodes.{FxIsDrawn, NestedIsShown, LastNodeIsShown, NodesAreDrawn}
use Rattle.scene_meaning.specs.Shown.{PlainScene, Sources, base_in, sources_of, shown, plane, plane_of_item, source_plane, named_plane, fx_plane, plane_behind, source_node, effect_node, fx_node}

-- a fold over one more
fold_more : {A B : Type 0} (f : B → A → B) (z : B) (xs : List A) (k : ℕ) (x : A) → slice_get xs k ≡ Some x → fold f z (take (suc k) xs) ≡ f (fold f z (take k xs)) x
fold_more f z [] k x e = let wrong : ⊥ = cc in absurd wrong
fold_more f z (y ∷ ys) zero x e = let same : y ≡ x = cc in ap (f z) same
fold_more f z (y ∷ ys) (suc k) x e = fold_more f (f z y) ys k x e

pub take_all : {A : Type 0} (xs : List A) → take (length xs) xs ≡ xs
take_all [] = refl
take_all (x ∷ xs) = ap (λ l. x ∷ l) (take_all xs)

-- one effect more
pub behind_more : (sources : Sources) (comp : PlainComp) (layer : PlainLayer) (effects : List PlainFx) (k : ℕ) (fx : PlainFx) → slice_get effects k ≡ Some fx
    → plane_behind sources comp layer (take (suc k) effects) ≡ fx_plane sources comp (plane_behind sources comp layer (take k effects)) fx
behind_more sources comp layer effects k fx found = fold_more (fx_plane sources comp) (source_plane sources layer) effects k fx found

abbrev from : PlainScene → Sources
from scene = sources_of scene (shown scene)

pub named_is : (scene : PlainScene) (comp other : ℕ) (here : PlainComp) (t : ℤ) → slice_get scene.project.comps comp ≡ Some here → plane scene (Source comp other) t ≡ named_plane (from scene) here other t
named_is scene comp other here t found = ap (λ (o : Option PlainComp). source_node (from scene) o other t) found

pub layer_named : (scene : PlainScene) (layer : ℕ) (here : PlainComp) (it : PlainLayer) (t : ℤ) → slice_get here.layers layer ≡ Some it → named_plane (from scene) here layer t ≡ source_plane (from scene) it t
layer_named scene layer here it t found = ap (λ (o : Option PlainLayer). option_map_or (λ l. source_plane (from scene) l t) o nothing) found

-- the node behind so many effects
pub behind_is : (scene : PlainScene) (comp layer before : ℕ) (here : PlainComp) (it : PlainLayer) (t : ℤ) → slice_get scene.project.comps comp ≡ Some here → slice_get here.layers layer ≡ Some it → before ≤ length it.effects
    → plane scene (node_behind comp layer before) t ≡ plane_behind (from scene) here it (take before it.effects) t
behind_is scene comp layer zero here it t found there few = named_is scene comp layer here t found ∙ layer_named scene layer here it t there
behind_is scene comp layer (suc k) here it t found there few =
    let less : k < length it.effects = omega (arith, few) in
    ap (λ (o : Option PlainComp). fx_node (from scene) o layer k t) found
    ∙ ap (λ (o : Option PlainLayer). effect_node (from scene) here o k t) there
    ∙ ap (λ (b : Bool). if b then plane_behind (from scene) here it (take (suc k) it.effects) t else nothing) (lt-ltb k (length it.effects) less)

-- the effect of these indices
fx_found : (scene : PlainScene) (comp layer index : ℕ) (here : PlainComp) (fx : PlainFx) → slice_get scene.project.comps comp ≡ Some here → fx_at scene.project comp layer index ≡ Some fx
    → (it : PlainLayer) × (slice_get here.layers layer ≡ Some it) × (slice_get it.effects index ≡ Some fx)
fx_found scene comp layer index here fx found at =
    by (slice_get here.layers layer) refl
    (sym (ap (λ (o : Option PlainComp). option_map_or (λ (l : PlainLayer). slice_get l.effects index) (slice_get (option_map_or (λ (c : PlainComp). c.layers) o []) layer) None) found) ∙ at)
  where
    by : (o : Option PlainLayer) → slice_get here.layers layer ≡ o → option_map_or (λ (l : PlainLayer). slice_get l.effects index) o None ≡ Some fx
        → (it : PlainLayer) × (slice_get here.layers layer ≡ Some it) × (slice_get it.effects index ≡ Some fx)
    by None e f = let wrong : ⊥ = cc in absurd wrong
    by (Some it) e f = (it, e, f)

fx_drawn : FxIsDrawn
fx_drawn scene comp layer index here fx t found at =
    let drawn : (Want → Plane) → Plane = drawn_plane scene.set scene.drawing (use_in fx) (moment_at (base_in scene.project) (tick_of (base_in scene.project) here.frame) t) in
    let there = fx_found scene comp layer index here fx found at in
    let it : PlainLayer = there.0 in
    let within : index < length it.effects = slice_get_within it.effects index fx there.2 in
    behind_is scene comp layer (suc index) here it t found there.1 (omega (arith, within))
    ∙ ap (λ (p : ℤ → Plane). p t) (behind_more (from scene) here it it.effects index fx there.2)
    ∙ ap (λ (input : ℤ → Plane). drawn (λ want. input_plane want.input input (named_plane (from scene) here) fx.layers want.tick.0))
    (λ i u. sym (behind_is scene comp layer index here it u found there.1 (omega (arith, within))) i)
    ∙ ap (λ (named : ℕ → ℤ → Plane). drawn (λ want. input_plane want.input (plane scene (node_behind comp layer index)) named fx.layers want.tick.0))
    (λ i other u. sym (named_is scene comp other here u found) i)

nested_shown : NestedIsShown
nested_shown scene comp layer nested here it t found there is =
    named_is scene comp layer here t found
    ∙ layer_named scene layer here it t there
    ∙ ap (λ (item : Item). plane_of_item (from scene) it.start item t) is

last_shown : LastNodeIsShown
last_shown scene comp layer here it t found there =
    behind_is scene comp layer (length it.effects) here it t found there (omega arith)
    ∙ ap (λ (effects : List PlainFx). plane_behind (from scene) here it effects t) (take_all it.effects)

pub nodes_drawn : NodesAreDrawn
nodes_drawn = record { fx = fx_drawn; nested = nested_shown; last = last_shown }
