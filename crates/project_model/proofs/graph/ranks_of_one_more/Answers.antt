use Rattle.std.proofs.Common.{slice_index_or, ◌∙◌, ap}
use Rattle.project_model.specs.Nesting.{rank_over}
use Rattle.project_model.specs.declared.plain.PlainComp.{PlainComp}
use Rattle.project_model.proofs.Pushed.{mapped_more}
use Rattle.project_model.proofs.graph.ranks_of_one_more.Goals as goal

pub loop-comp-preserved : goal.loop-comp-preserved
loop-comp-preserved c =
    mapped_more (λ (comp : PlainComp). rank_over (λ index. slice_index_or c.args.ranks.now index 1) comp.layers)
    c.args.comps.now c.loop-comp.comp-index c.comp-item.result c.loop-comp.more.items _ c.rank_over.result
    c.loop-comp.invariant c.loop-comp-test.true c.comp-item.is c.in_ok-push.ensures.items
    (c.rank_over.ensures ∙ ap (rank_over (λ index. slice_index_or c.args.ranks.now index 1)) c.as_slice.ensures)
