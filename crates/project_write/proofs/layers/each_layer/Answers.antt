use Rattle.project_write.specs.Parts.{IsLayer}
use Rattle.project_write.proofs.ListLemmas.{zip_next}
use Rattle.project_write.proofs.layers.each_layer.Goals as goal

pub loop-layer-preserved : goal.loop-layer-preserved
loop-layer-preserved c =
    zip_next (IsLayer c.args.schemas.now) c.args.layers.now c.loop-layer.layer-index c.layer-item.result c.loop-layer.values.items c.push.new.self.items _
    c.loop-layer-test.true c.loop-layer.invariant c.in_ok-push.ensures.items c.layer-item.is c.in_ok-layer_value.ensures
