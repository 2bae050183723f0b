-- What a cache keeps of a scene.
use Rattle.std.proofs.Common.{◌≡◌, ℕ, zero, suc, ◌+◌, ◌-◌, ◌*◌, ◌/◌, ◌%◌, ◌^◌, ◌<◌, ◌≤◌, ℤ, pos, ◌-ℤ◌, true, w64, List, [], ◌∷◌, length, take, refl, ap, ◌∙◌, arith}
use Rattle.std.specs.Prelude.{Some, None, option_map, option_and_then, if◌then◌else◌, nat_le, ◌&&◌, unsigned_abs}
use Rattle.std.specs.Int.RustNames.{FitsSigned}
use Rattle.std.proofs.lemmas.Bool.{lt-ltb, le-ltb, le-leb, eq-eqb}
use Rattle.std.proofs.lemmas.Int.{ints, clamps}
use Rattle.rational_time.specs.declared.time.TheConstants.{MOST_SECONDS}
use Rattle.project_model.specs.Form.{plain_layer_count}
use Rattle.project_model.specs.Nodes.{node_behind}
use Rattle.project_model.specs.declared.node.NodeId.{NodeId}
use Rattle.project_model.specs.declared.node.NodeId.TheVariants.{Source, Fx, Stack}
use Rattle.project_model.specs.declared.plain.PlainComp.{PlainComp}
use Rattle.project_model.specs.declared.plain.PlainProject.{PlainProject}
use Rattle.effect_api.specs.Fits.{IsHeld}
use Rattle.scene_meaning.specs.Keys.{key_in, layer_number, node_number}
use Rattle.scene_meaning.specs.Nodes.{HasNode, IsOfLayer, effects_in}
use Rattle.scene_meaning.specs.Right.{NodesAreKept, class_in, node_in, ask_in, tick_in, layer_numbered, node_of_layer, node_numbered, value_of}
use Rattle.scene_meaning.specs.Shown.{base_in, plane}
use Rattle.scene_meaning.proofs.KeyParts.{raised, raised_fits, key_is}
use Rattle.scene_meaning.proofs.Numbers.{layers_of, few_in, layer_there}

-- ---- the parts of a key

parts_of : (c n a r : ℕ) → n < 2 ^ 32 → a < 2 ^ 24 → r < 2 ^ 64 → (N : ℕ) → N ≡ ((c * 2 ^ 32 + n) * 2 ^ 24 + a) * 2 ^ 64 + r
    → (class_in N ≡ c) × (node_in N ≡ n) × (ask_in N ≡ a) × (N % 2 ^ 64 ≡ r)
parts_of c n a r nf af rf N is =
    let one : N / 2 ^ 64 ≡ (c * 2 ^ 32 + n) * 2 ^ 24 + a = omega (arith, is, rf) in
    let two : N / 2 ^ 88 ≡ c * 2 ^ 32 + n = omega (arith, is, rf, af) in
    let three : N / 2 ^ 120 ≡ c = omega (arith, is, rf, af, nf) in
    let low : N % 2 ^ 64 ≡ r = omega (arith, is, rf) in
    (three, omega (arith, two, nf), omega (arith, one, af), low)

tick_back : (t : ℤ) → FitsSigned w64 t → (pos (raised t) -ℤ pos (2 ^ 63)) ≡ t
tick_back t fits = omega (arith, ints, fits.sfits)

held_near : (base : ℕ) (t : ℤ) → IsHeld base t → unsigned_abs t ≤ MOST_SECONDS * base
held_near base t held = omega (arith, ints, clamps, held)

-- ---- the node of a number

numbered : (comps : List PlainComp) (comp layer : ℕ) → layer < length (layers_of comps comp) → layer_numbered comps (plain_layer_count (take comp comps) + layer) ≡ Some (comp, layer)
numbered [] comp layer h = absurd (omega (arith, h))
numbered (c ∷ cs) zero layer h =
    ap (layer_numbered (c ∷ cs)) (let e : 0 + layer ≡ layer = omega arith in e)
    ∙ ap (λ b. if b then Some (0, layer) else option_map (λ (place : ℕ × ℕ). (place.0 + 1, place.1)) (layer_numbered cs (layer - length c.layers))) (lt-ltb layer (length c.layers) h)
numbered (c ∷ cs) (suc comp) layer h =
    let before : ℕ = plain_layer_count (take comp cs) + layer in
    let all : ℕ = (length c.layers + plain_layer_count (take comp cs)) + layer in
    let past : length c.layers ≤ all = omega arith in
    let rest : all - length c.layers ≡ before = omega arith in
    let one : comp + 1 ≡ suc comp = omega arith in
    ap (λ b. if b then Some (0, all) else option_map (λ (place : ℕ × ℕ). (place.0 + 1, place.1)) (layer_numbered cs (all - length c.layers))) (le-ltb all (length c.layers) past)
    ∙ ap (λ n. option_map (λ (place : ℕ × ℕ). (place.0 + 1, place.1)) (layer_numbered cs n)) rest
    ∙ ap (option_map (λ (place : ℕ × ℕ). (place.0 + 1, place.1))) (numbered cs comp layer h)
    ∙ ap (λ (k : ℕ). Some (k, layer)) one

behind_numbered : (project : PlainProject) (number g before comp layer : ℕ) → number ≡ 9 * g + before → before ≤ 8 → g ≡ layer_number project comp layer → layer < length (layers_of project.comps comp) → before ≤ length (effects_in project comp layer)
    → node_numbered project number ≡ Some (node_behind comp layer before)
behind_numbered project number g before comp layer is few at there has =
    let whole : number / 9 ≡ g = omega (arith, is, few) in
    let part : number % 9 ≡ before = omega (arith, is, few) in
    ap (λ n. option_and_then (node_of_layer project (number % 9)) (layer_numbered project.comps n)) (whole ∙ at)
    ∙ ap (option_and_then (node_of_layer project (number % 9))) (numbered project.comps comp layer there)
    ∙ ap (λ n. node_of_layer project n (comp, layer)) part
    ∙ ap (λ b. if b then Some (node_behind comp layer before) else None) (le-leb before (length (effects_in project comp layer)) has)

found_again : (project : PlainProject) (node : NodeId) → ((comp layer : ℕ) → length (effects_in project comp layer) ≤ 8) → HasNode project node → IsOfLayer node → node_numbered project (node_number project node) ≡ Some node
found_again project (Source c l) few has of = behind_numbered project (node_number project (Source c l)) (layer_number project c l) 0 c l (omega arith) (omega arith) refl has (omega arith)
found_again project (Fx c l i) few has of =
    let one : i + 1 ≡ suc i = omega arith in
    behind_numbered project (node_number project (Fx c l i)) (layer_number project c l) (suc i) c l (omega arith) (omega (arith, has, few c l)) refl (layer_there project c l i has) (omega (arith, has))
found_again project (Stack c) few has of = absurd of

-- ---- what is kept of a node

pub nodes_kept : NodesAreKept
nodes_kept most scene class ask node t formed has of is held =
    let number : ℕ = node_number scene.project node in
    let key : ℕ = key_in class number ask t in
    let parts = parts_of class number ask (raised t) is.node_fits is.ask_fits (raised_fits t is.tick_fits) key (key_is class number ask t is) in
    let tick : tick_in key ≡ t = ap (λ (n : ℕ). pos n -ℤ pos (2 ^ 63)) parts.3 ∙ tick_back t is.tick_fits in
    let near : nat_le (unsigned_abs (tick_in key)) (MOST_SECONDS * base_in scene.project) ≡ true =
    ap (λ u. nat_le (unsigned_abs u) (MOST_SECONDS * base_in scene.project)) tick ∙ le-leb (unsigned_abs t) (MOST_SECONDS * base_in scene.project) (held_near (base_in scene.project) t held) in
    let here : node_numbered scene.project (node_in key) ≡ Some node = ap (node_numbered scene.project) parts.1 ∙ found_again scene.project node (λ comp layer. few_in scene.project.comps comp layer formed.comps) has of in
    ap (λ b. if b && nat_le (unsigned_abs (tick_in key)) (MOST_SECONDS * base_in scene.project)
    then option_and_then (λ n. value_of {most = most} scene.set scene.drawing class (ask_in key) (plane scene n (tick_in key))) (node_numbered scene.project (node_in key)) else None)
    (eq-eqb (class_in key) class parts.0)
    ∙ ap (λ b. if b then option_and_then (λ n. value_of {most = most} scene.set scene.drawing class (ask_in key) (plane scene n (tick_in key))) (node_numbered scene.project (node_in key)) else None) near
    ∙ ap (option_and_then (λ n. value_of {most = most} scene.set scene.drawing class (ask_in key) (plane scene n (tick_in key)))) here
    ∙ ap (λ a. value_of {most = most} scene.set scene.drawing class a (plane scene node (tick_in key))) parts.2
    ∙ ap (λ u. value_of {most = most} scene.set scene.drawing class ask (plane scene node u)) tick
