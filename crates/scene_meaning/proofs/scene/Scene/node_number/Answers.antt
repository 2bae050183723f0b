use Rattle.std.proofs.Common.{◌<◌, length, subst, arith}
use Rattle.project_model.specs.Plain.{plain_of}
use Rattle.project_model.specs.declared.node.NodeId.{NodeId}
use Rattle.scene_meaning.specs.Nodes.{HasNode, effects_in}
use Rattle.scene_meaning.proofs.Numbers.{few_effects}
use Rattle.scene_meaning.proofs.scene.Scene.node_number.Goals as goal

pub overflow_add-result : goal.overflow_add-result
overflow_add-result c =
    let project = c.args.self.now.project in
    let has : c.in-Fx.index < length (effects_in (plain_of project) c.in-Fx.comp c.in-Fx.layer) = subst (λ (n : NodeId). HasNode (plain_of project) n) c.in-Fx.is c.requires.node in
    omega (arith, has, few_effects project.comps c.in-Fx.comp c.in-Fx.layer)

pub overflow_add-result-in-Fx : goal.overflow_add-result-in-Fx
overflow_add-result-in-Fx c =
    let project = c.args.self.now.project in
    let has : c.in-Fx.index < length (effects_in (plain_of project) c.in-Fx.comp c.in-Fx.layer) = subst (λ (n : NodeId). HasNode (plain_of project) n) c.in-Fx.is c.requires.node in
    let few = c.number_of_layer-in-Fx.ensures.few in
    omega (arith, has, few_effects project.comps c.in-Fx.comp c.in-Fx.layer, few)
