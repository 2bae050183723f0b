use Rattle.std.proofs.Common.{◌≡◌, ℕ, suc, ◌<◌, ◌≤◌, ◌-◌, length, Some, subst, sym, ap, ◌∙◌, arith}
use Rattle.std.specs.Prelude.{slice_get, slice_index_or}
use Rattle.std.proofs.lemmas.Option.{slice_get-get_or}
use Rattle.project_model.specs.Plain.{plain_of}
use Rattle.project_model.specs.declared.node.NodeId.{NodeId}
use Rattle.scene_meaning.specs.Nodes.{HasNode}
use Rattle.scene_meaning.specs.Scene.{plain_scene}
use Rattle.scene_meaning.specs.Shown.{plane}
use Rattle.scene_meaning.proofs.Inside.{found_holds, there_is}
use Rattle.frame_draw.proofs.Behind.{has_behind, input_wanted, source_wanted}
use Rattle.frame_draw.proofs.shares.node_of_want.Goals as goal

pub returns-then-want-eq0-clause-wanted : goal.returns-then-want-eq0-clause-wanted
returns-then-want-eq0-clause-wanted c =
    let layer = c.args.layer.now in
    let few : c.args.number ≤ length layer.effects = omega (arith, c.requires.number) in
    λ set drawing.
    ap (λ (n : NodeId). plane (plain_scene c.args.scene.now set drawing) n c.args.want.tick.0) c.node_behind.ensures
    ∙ input_wanted c.args.scene.now set drawing c.args.of c.args.index c.args.number c.args.comp.now layer c.args.fx.now.layers c.args.want c.args.want.tick.0 c.requires.layer.here c.requires.place few c.if-want-eq0.true

pub returns-clause-node : goal.returns-clause-node
returns-clause-node c =
    let comp = c.args.comp.now in
    let i : ℕ = c.args.want.input - 1 in
    let one : c.args.want.input ≡ suc i = omega (arith, c.if-want-eq0.false) in
    let here : i < length c.as_slice.result.now = omega (arith, one, c.requires.want.input_is, ap length c.as_slice.ensures) in
    let named : ℕ = slice_index_or c.as_slice.result.now i 0 in
    let found : slice_get c.args.fx.now.layers i ≡ Some named = ap (λ l. slice_get l i) (sym c.as_slice.ensures) ∙ slice_get-get_or c.as_slice.result.now i 0 here in
    let other = there_is comp.layers named (found_holds (λ (k : ℕ). k < length comp.layers) c.args.fx.now.layers i named c.requires.layers found) in
    subst (HasNode (plain_of c.args.scene.now.project)) (sym c.node_behind-2.ensures)
    (has_behind c.args.scene.now.project c.args.of named 0 comp other.0 c.requires.layer.here other.1 (omega arith))

pub returns-clause-wanted : goal.returns-clause-wanted
returns-clause-wanted c =
    let comp = c.args.comp.now in
    let i : ℕ = c.args.want.input - 1 in
    let one : c.args.want.input ≡ suc i = omega (arith, c.if-want-eq0.false) in
    let here : i < length c.as_slice.result.now = omega (arith, one, c.requires.want.input_is, ap length c.as_slice.ensures) in
    let named : ℕ = slice_index_or c.as_slice.result.now i 0 in
    let found : slice_get c.args.fx.now.layers i ≡ Some named = ap (λ l. slice_get l i) (sym c.as_slice.ensures) ∙ slice_get-get_or c.as_slice.result.now i 0 here in
    let other = there_is comp.layers named (found_holds (λ (k : ℕ). k < length comp.layers) c.args.fx.now.layers i named c.requires.layers found) in
    λ set drawing.
    ap (λ (n : NodeId). plane (plain_scene c.args.scene.now set drawing) n c.args.want.tick.0) c.node_behind-2.ensures
    ∙ source_wanted c.args.scene.now set drawing c.args.of c.args.number i named comp c.args.layer.now other.0 c.args.fx.now.layers c.args.want c.requires.layer.here other.1 one found
