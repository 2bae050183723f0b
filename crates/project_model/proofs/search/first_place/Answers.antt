use Rattle.std.proofs.Common.{◌∙◌, sym}
use Rattle.project_model.specs.Rules.{breaks_comp, breaks_layer}
use Rattle.project_model.proofs.Found.{comp_found}
use Rattle.project_model.proofs.search.first_place.Goals as goal

pub returns-then-is_some : goal.returns-then-is_some
returns-then-is_some c =
    comp_found (λ comp. comp.layers) (breaks_comp c.args.project.now c.args.rule) (breaks_layer c.args.schemas.now c.args.project.now c.args.rule) c.loop-index.index c.args.project.now.comps _ c.comp-item.result
    c.place_in_comp-place.result c.as_slice-comp-items.ensures c.loop-index-test.true c.comp-item.is c.place_in_comp-place.ensures
    (sym c.is_some.ensures ∙ c.if-is_some.true)
    ∙ sym c.loop-index.invariant
