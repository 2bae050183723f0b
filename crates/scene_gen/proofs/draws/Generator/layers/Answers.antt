use Rattle.std.proofs.Common.{refl}
use Rattle.project_model.specs.Plain.{plain_layer}
use Rattle.project_model.specs.Ready.{IsBasedLayer}
use Rattle.scene_gen.specs.Layers.{drawn_layer}
use Rattle.scene_gen.proofs.Several.{none_said, more_said, none_all, more_all}
use Rattle.scene_gen.proofs.draws.Generator.layers.Goals as goal

pub loop-index-init : goal.loop-index-init
loop-index-init c =
    let all = none_all (IsBasedLayer 30000) c.new-layers.result.items c.new-layers.ensures.items in
    (none_said plain_layer (drawn_layer c.args.most c.args.comp) c.args.self.now.state c.args.self.now.state c.new-layers.result.items c.new-layers.ensures.items refl, all.0, all.1)

pub loop-index-preserved : goal.loop-index-preserved
loop-index-preserved c =
    let grown = c.in_ok-push.ensures.items in
    let all = more_all (IsBasedLayer 30000) c.loop-index.layers.items c.push.new.self.items c.in_ok-layer.field-0 c.loop-index.index
    (c.loop-index.invariant.1, c.loop-index.invariant.2) c.in_ok-layer.ensures.based grown in (
      more_said plain_layer (drawn_layer c.args.most c.args.comp) c.loop-index.index c.args.self.now.state c.loop-index.self.state c.layer.new.self.state c.loop-index.layers.items c.push.new.self.items c.in_ok-layer.field-0
          c.loop-index.invariant.0 c.in_ok-layer.ensures.layer c.in_ok-layer.ensures.state grown,
      all.0,
      all.1,
    )
