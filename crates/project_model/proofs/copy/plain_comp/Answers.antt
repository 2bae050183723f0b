use Rattle.std.proofs.Common.{◌≤◌}
use Rattle.std.specs.List.{All}
use Rattle.std.proofs.lemmas.List.Elements.{All-same}
use Rattle.project_model.specs.declared.plain.PlainLayer.{PlainLayer}
use Rattle.project_model.specs.Form.{IsFormedLayer}
use Rattle.project_model.specs.Plain.{plain_layer}
use Rattle.project_model.specs.Times.{layer_times}
use Rattle.project_model.proofs.Copied.{comp_scaled, copied_more}
use Rattle.project_model.proofs.copy.plain_comp.Goals as goal

pub loop-layer-preserved : goal.loop-layer-preserved
loop-layer-preserved c =
    copied_more plain_layer IsFormedLayer (λ layer. All (λ time. 1 ≤ time.scale) (layer_times layer)) c.as_slice-layer-items.result.now c.loop-layer.layer-index c.layer-item.result
    c.loop-layer.layers.items _ c.in_ok-plain_layer.field-0
    c.loop-layer.invariant.0 c.loop-layer.invariant.1 c.loop-layer.invariant.2 c.loop-layer-test.true c.layer-item.is
    c.in_ok-push.ensures.items c.in_ok-plain_layer.ensures.plain c.in_ok-plain_layer.ensures.formed c.in_ok-plain_layer.ensures.scaled

pub returns-clause-scaled : goal.returns-clause-scaled
returns-clause-scaled c =
    let P : PlainLayer → Type 0 = λ layer. All (λ time. 1 ≤ time.scale) (layer_times layer) in
    let comp = c.args.comp.now in
    comp_scaled (record { width = comp.width; height = comp.height; frame = comp.frame; frames = comp.frames; layers = c.from_vec.result }) comp.scaled
    (All-same P c.from_vec.result c.loop-layer.layers.items c.from_vec.ensures c.loop-layer.invariant.2)
