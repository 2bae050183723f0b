-- What is kept is right.
use Rattle.std.proofs.Common.{◌≡◌, ℕ, zero, suc, ◌+◌, ◌-◌, ◌*◌, ◌/◌, ◌%◌, ◌^◌, ◌<◌, ◌≤◌, ℤ, pos, negsuc, ◌-ℤ◌, Bool, true, false, w64, List, [], ◌∷◌, length, take, refl, sym, ap, subst, ◌∙◌, arith}
use Rattle.std.specs.Prelude.{Option, Some, None, option_map, option_and_then, if◌then◌else◌, nat_le, nat_lt, nat_eq, ◌&&◌, unsigned_abs}
use Rattle.std.specs.Int.RustNames.{FitsSigned}
use Rattle.std.proofs.lemmas.Bool.{and_parts, ltb-true, ltb-false, leb-true, eqb-true}
use Rattle.std.proofs.lemmas.Int.{ints, clamps}
use Rattle.rational_time.specs.declared.time.TheConstants.{MOST_SECONDS}
use Rattle.comp_stack.specs.Stack.{Plane}
use Rattle.project_model.specs.Form.{plain_layer_count}
use Rattle.project_model.specs.Nodes.{node_behind}
use Rattle.project_model.specs.declared.node.NodeId.{NodeId}
use Rattle.project_model.specs.declared.plain.PlainComp.{PlainComp}
use Rattle.project_model.specs.declared.plain.PlainProject.{PlainProject}
use Rattle.effect_api.specs.declared.checkouts.Value.{Value}
use Rattle.effect_api.specs.declared.checkouts.Value.TheVariants as value
use Rattle.effect_api.specs.Fits.{IsHeld}
use Rattle.effect_api.specs.Sets.{EffectSet, Drawing}
use Rattle.scene_meaning.specs.Keys.{IsSpelled, node_number}
use Rattle.scene_meaning.specs.Nodes.{HasNode, IsOfLayer, effects_in}
use Rattle.scene_meaning.specs.Right.{IsRight, KeptIsRight, class_in, node_in, ask_in, tick_in, layer_numbered, node_of_layer, node_numbered, value_of, kept}
use Rattle.scene_meaning.specs.Sizes.{chosen}
use Rattle.scene_meaning.specs.Shown.{PlainScene, base_in, plane}
use Rattle.scene_meaning.proofs.KeyParts.{raised, key_is}
use Rattle.scene_meaning.proofs.Kept.{nodes_kept}
use Rattle.scene_meaning.proofs.Numbers.{layers_of}

-- ---- a number that a layer or a node has

-- the layer is there, and the number is its
abbrev IsLayerAt : List PlainComp → ℕ → (ℕ × ℕ) → Type 0
IsLayerAt comps number place = (place.1 < length (layers_of comps place.0)) × (plain_layer_count (take place.0 comps) + place.1 ≡ number)

layer_back : (comps : List PlainComp) (number : ℕ) (place : ℕ × ℕ) → layer_numbered comps number ≡ Some place → IsLayerAt comps number place
layer_back [] number place e = let wrong : ⊥ = cc in absurd wrong
layer_back (c ∷ cs) number place e = by (layer_back cs (number - length c.layers)) (nat_lt number (length c.layers)) refl (layer_numbered cs (number - length c.layers)) refl e
  where
    by : ((inner : ℕ × ℕ) → layer_numbered cs (number - length c.layers) ≡ Some inner → IsLayerAt cs (number - length c.layers) inner)
        → (b : Bool) → nat_lt number (length c.layers) ≡ b → (o : Option (ℕ × ℕ)) → layer_numbered cs (number - length c.layers) ≡ o
        → (if b then Some (0, number) else option_map (λ (p : ℕ × ℕ). (p.0 + 1, p.1)) o) ≡ Some place → IsLayerAt (c ∷ cs) number place
    by rest true low o is e =
        let here : number < length c.layers = ltb-true number (length c.layers) low in
        let same : (0, number) ≡ place = cc in
        subst (IsLayerAt (c ∷ cs) number) same (here, omega arith)
    by rest false high None is e = let wrong : ⊥ = cc in absurd wrong
    by rest false high (Some inner) is e =
        let past : length c.layers ≤ number = ltb-false number (length c.layers) high in
        let back = rest inner is in
        let one : suc inner.0 ≡ inner.0 + 1 = omega arith in
        let same : (inner.0 + 1, inner.1) ≡ place = cc in
        subst (IsLayerAt (c ∷ cs) number) same
        (subst (λ (k : ℕ). IsLayerAt (c ∷ cs) number (k, inner.1)) one (back.0, omega (arith, back.1, past)))

-- the node is there, and the number is its
abbrev IsNodeAt : PlainProject → ℕ → NodeId → Type 0
IsNodeAt project number node = HasNode project node × IsOfLayer node × (node_number project node ≡ number)

behind_back : (project : PlainProject) (number before comp layer : ℕ) → number ≡ 9 * (plain_layer_count (take comp project.comps) + layer) + before → layer < length (layers_of project.comps comp) → before ≤ length (effects_in project comp layer)
    → IsNodeAt project number (node_behind comp layer before)
behind_back project number zero comp layer is there has = (there, tt, omega (arith, is))
behind_back project number (suc k) comp layer is there has = (omega (arith, has), tt, omega (arith, is))

node_back : (project : PlainProject) (number : ℕ) (node : NodeId) → node_numbered project number ≡ Some node → IsNodeAt project number node
node_back project number node e = by (layer_numbered project.comps (number / 9)) refl e
  where
    by : (o : Option (ℕ × ℕ)) → layer_numbered project.comps (number / 9) ≡ o → option_and_then (node_of_layer project (number % 9)) o ≡ Some node → IsNodeAt project number node
    by None is e = let wrong : ⊥ = cc in absurd wrong
    by (Some place) is e =
        let back = layer_back project.comps (number / 9) place is in
        let found = chosen (nat_le (number % 9) (length (effects_in project place.0 place.1))) (node_behind place.0 place.1 (number % 9)) node e in
        let has : number % 9 ≤ length (effects_in project place.0 place.1) = leb-true (number % 9) (length (effects_in project place.0 place.1)) found.0 in
        subst (IsNodeAt project number) found.1 (behind_back project number (number % 9) place.0 place.1 (omega (arith, back.1)) back.0 has)

-- ---- what a key spells

fits_by : (r : ℕ) (t : ℤ) → r < 2 ^ 64 → t ≡ (pos r -ℤ pos (2 ^ 63)) → FitsSigned w64 t
fits_by r (pos n) low is = record { sfits = omega (arith, ints, low, is) }
fits_by r (negsuc n) low is = record { sfits = omega (arith, ints, low, is) }

tick_fits : (r : ℕ) → r < 2 ^ 64 → FitsSigned w64 (pos r -ℤ pos (2 ^ 63))
tick_fits r low = fits_by r (pos r -ℤ pos (2 ^ 63)) low refl

tick_raised : (r : ℕ) → raised (pos r -ℤ pos (2 ^ 63)) ≡ r
tick_raised r = omega (arith, ints)

near_held : (base : ℕ) (t : ℤ) → unsigned_abs t ≤ MOST_SECONDS * base → IsHeld base t
near_held base (pos n) near = omega (arith, ints, clamps, near)
near_held base (negsuc n) near = omega (arith, ints, clamps, near)

whole_key : (key : ℕ) → key ≡ ((class_in key * 2 ^ 32 + node_in key) * 2 ^ 24 + ask_in key) * 2 ^ 64 + key % 2 ^ 64
whole_key key =
    let one : key ≡ (key / 2 ^ 64) * 2 ^ 64 + key % 2 ^ 64 = omega arith in
    let two : key / 2 ^ 64 ≡ (key / 2 ^ 88) * 2 ^ 24 + ask_in key = omega arith in
    let three : key / 2 ^ 88 ≡ class_in key * 2 ^ 32 + node_in key = omega arith in
    omega (arith, one, two, three)

class_few : {most : ℕ} (set : EffectSet) (drawing : Drawing) (class ask : ℕ) (p : Plane) (v : Value most) → length set.class_names ≤ 255 → value_of set drawing class ask p ≡ Some v → class < 2 ^ 8
class_few set drawing zero ask p v few e = omega arith
class_few set drawing (suc index) ask p v few e =
    let found = chosen (nat_lt index (length set.class_names)) (value.Sums (drawing.sums_of (suc index) ask p)) v e in
    let low : index < length set.class_names = ltb-true index (length set.class_names) found.0 in
    omega (arith, low, few)

right_by : {most : ℕ} (scene : PlainScene) (class key : ℕ) (v : Value most) (node : NodeId) → length scene.set.class_names ≤ 255 → class_in key ≡ class → unsigned_abs (tick_in key) ≤ MOST_SECONDS * base_in scene.project
    → IsNodeAt scene.project (node_in key) node → value_of scene.set scene.drawing class (ask_in key) (plane scene node (tick_in key)) ≡ Some v → IsRight scene class key v
right_by scene class key v node few is near at e =
    let low : key % 2 ^ 64 < 2 ^ 64 = omega arith in
    let spelled : IsSpelled class (node_number scene.project node) (ask_in key) (tick_in key) = record {
      class_fits = class_few scene.set scene.drawing class (ask_in key) (plane scene node (tick_in key)) v few e;
      node_fits = omega (arith, at.2);
      ask_fits = omega arith;
      tick_fits = tick_fits (key % 2 ^ 64) low;
    } in
    record {
      node = node;
      ask = ask_in key;
      tick = tick_in key;
      has = at.0;
      of_layer = at.1;
      spelled = spelled;
      held = near_held (base_in scene.project) (tick_in key) near;
      key_is = whole_key key
          ∙ ap (λ (c : ℕ). ((c * 2 ^ 32 + node_in key) * 2 ^ 24 + ask_in key) * 2 ^ 64 + key % 2 ^ 64) is
          ∙ ap (λ (n : ℕ). ((class * 2 ^ 32 + n) * 2 ^ 24 + ask_in key) * 2 ^ 64 + key % 2 ^ 64) (sym at.2)
          ∙ ap (λ (r : ℕ). ((class * 2 ^ 32 + node_number scene.project node) * 2 ^ 24 + ask_in key) * 2 ^ 64 + r) (sym (tick_raised (key % 2 ^ 64)))
          ∙ sym (key_is class (node_number scene.project node) (ask_in key) (tick_in key) spelled);
      value_is = e;
    }

pub kept_right : KeptIsRight
kept_right most scene class key v formed few = (
  λ e. by (nat_eq (class_in key) class && nat_le (unsigned_abs (tick_in key)) (MOST_SECONDS * base_in scene.project)) refl (node_numbered scene.project (node_in key)) refl e,
  λ is. ap (kept most scene class) is.key_is ∙ nodes_kept most scene class is.ask is.node is.tick formed is.has is.of_layer is.spelled is.held ∙ is.value_is,
)
  where
    by : (b : Bool) → (nat_eq (class_in key) class && nat_le (unsigned_abs (tick_in key)) (MOST_SECONDS * base_in scene.project)) ≡ b → (o : Option NodeId) → node_numbered scene.project (node_in key) ≡ o
        → (if b then option_and_then (λ node. value_of {most = most} scene.set scene.drawing class (ask_in key) (plane scene node (tick_in key))) o else None) ≡ Some v → IsRight scene class key v
    by true t (Some node) at e =
        let tests = and_parts (nat_eq (class_in key) class) (nat_le (unsigned_abs (tick_in key)) (MOST_SECONDS * base_in scene.project)) t in
        right_by scene class key v node few (eqb-true (class_in key) class tests.0) (leb-true (unsigned_abs (tick_in key)) (MOST_SECONDS * base_in scene.project) tests.1)
        (node_back scene.project (node_in key) node at) e
    by true t None at e = let wrong : ⊥ = cc in absurd wrong
    by false t o at e = let wrong : ⊥ = cc in absurd wrong
