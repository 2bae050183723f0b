use Rattle.std.proofs.Common.{false, slice_index_or, ◌∙◌, ap}
use Rattle.project_model.specs.Nesting.{lead_to}
use Rattle.project_model.specs.declared.plain.PlainComp.{PlainComp}
use Rattle.project_model.proofs.Pushed.{mapped_more}
use Rattle.project_model.proofs.graph.leading_by_one_more.Goals as goal

pub loop-comp-preserved : goal.loop-comp-preserved
loop-comp-preserved c =
    mapped_more (λ (comp : PlainComp). lead_to (λ nested. slice_index_or c.args.leading.now nested false) c.args.other comp.layers)
    c.args.comps.now c.loop-comp.comp-index c.comp-item.result c.loop-comp.more.items _ c.lead_to.result
    c.loop-comp.invariant c.loop-comp-test.true c.comp-item.is c.in_ok-push.ensures.items
    (c.lead_to.ensures ∙ ap (lead_to (λ nested. slice_index_or c.args.leading.now nested false) c.args.other) c.as_slice.ensures)
