use Rattle.std.proofs.Common.{◌≤◌}
use Rattle.std.specs.List.{All}
use Rattle.project_model.specs.Form.{IsFormedComp}
use Rattle.project_model.specs.Plain.{plain_comp}
use Rattle.project_model.specs.Times.{comp_times}
use Rattle.project_model.proofs.Copied.{copied_more}
use Rattle.project_model.proofs.copy.plain_comps.Goals as goal

pub loop-comp-preserved : goal.loop-comp-preserved
loop-comp-preserved c =
    copied_more plain_comp IsFormedComp (λ comp. All (λ time. 1 ≤ time.scale) (comp_times comp)) c.args.comps.now c.loop-comp.comp-index c.comp-item.result
    c.loop-comp.plain.items _ c.in_ok-plain_comp.field-0
    c.loop-comp.invariant.0 c.loop-comp.invariant.1 c.loop-comp.invariant.2 c.loop-comp-test.true c.comp-item.is
    c.in_ok-push.ensures.items c.in_ok-plain_comp.ensures.plain c.in_ok-plain_comp.ensures.formed c.in_ok-plain_comp.ensures.scaled
