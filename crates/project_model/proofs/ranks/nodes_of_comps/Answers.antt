use Rattle.std.proofs.Common.{map, slice_index_or, ◌∙◌, ap}
use Rattle.project_model.specs.Nesting.{layer_ranks}
use Rattle.project_model.specs.declared.plain.PlainComp.{PlainComp}
use Rattle.project_model.specs.declared.plain.PlainLayer.{PlainLayer}
use Rattle.std.proofs.Common.{List}
use Rattle.project_model.proofs.Pushed.{mapped_more}
use Rattle.project_model.proofs.ranks.nodes_of_comps.Goals as goal

pub loop-comp-preserved : goal.loop-comp-preserved
loop-comp-preserved c =
    mapped_more (λ (comp : PlainComp). map (layer_ranks (λ index. slice_index_or c.args.stacks.now index 1) comp.layers) comp.layers)
    c.args.comps.now c.loop-comp.comp-index c.comp-item.result c.loop-comp.nodes.items _ c.in_ok-nodes_of_layers.field-0
    c.loop-comp.invariant c.loop-comp-test.true c.comp-item.is c.in_ok-push.ensures.items
    (c.in_ok-nodes_of_layers.ensures ∙ ap (λ (layers : List PlainLayer). map (layer_ranks (λ index. slice_index_or c.args.stacks.now index 1) layers) layers) c.as_slice.ensures)
