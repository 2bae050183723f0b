use Rattle.std.proofs.Common.{◌∙◌, sym}
use Rattle.project_model.specs.Rules.{breaks_comp, breaks_layer}
use Rattle.project_model.proofs.Found.{comp_broken, layer_found}
use Rattle.project_model.proofs.search.place_in_comp.Goals as goal

pub returns-then-breaks_comp : goal.returns-then-breaks_comp
returns-then-breaks_comp c =
    comp_broken (λ comp. comp.layers) (breaks_comp c.args.project.now c.args.rule) (breaks_layer c.args.schemas.now c.args.project.now c.args.rule) c.args.index c.args.comp.now
    (sym c.breaks_comp.ensures ∙ c.if-breaks_comp.true)

pub returns-in-Some : goal.returns-in-Some
returns-in-Some c =
    layer_found (λ comp. comp.layers) (breaks_comp c.args.project.now c.args.rule) (breaks_layer c.args.schemas.now c.args.project.now c.args.rule) c.args.index c.args.comp.now _
    (sym c.breaks_comp.ensures ∙ c.if-breaks_comp.false)
    c.in-Some.ensures

pub returns-in-None : goal.returns-in-None
returns-in-None c =
    layer_found (λ comp. comp.layers) (breaks_comp c.args.project.now c.args.rule) (breaks_layer c.args.schemas.now c.args.project.now c.args.rule) c.args.index c.args.comp.now _
    (sym c.breaks_comp.ensures ∙ c.if-breaks_comp.false)
    c.in-None.ensures
