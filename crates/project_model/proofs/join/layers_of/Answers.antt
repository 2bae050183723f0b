use Rattle.project_model.specs.Plain.{plain_layer}
use Rattle.project_model.specs.Ready.{IsBasedLayer}
use Rattle.project_model.proofs.Joined.{made_more}
use Rattle.project_model.proofs.join.layers_of.Goals as goal

pub loop-layer-preserved : goal.loop-layer-preserved
loop-layer-preserved c =
    made_more plain_layer (IsBasedLayer c.args.base.ticks) c.loop-layer.layers.items _ _ c.in_ok-layer_of.field-0 c.in-Some.layer
    c.loop-layer.invariant.0 c.loop-layer.invariant.1 c.in_ok-push.ensures.items c.in_ok-layer_of.ensures.plain c.in_ok-layer_of.ensures.based
