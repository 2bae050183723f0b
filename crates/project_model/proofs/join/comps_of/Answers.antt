use Rattle.project_model.specs.Plain.{plain_comp}
use Rattle.project_model.specs.Ready.{IsBasedComp}
use Rattle.project_model.proofs.Joined.{made_more}
use Rattle.project_model.proofs.join.comps_of.Goals as goal

pub loop-comp-preserved : goal.loop-comp-preserved
loop-comp-preserved c =
    made_more plain_comp (IsBasedComp c.args.base.ticks) c.loop-comp.comps.items _ _ c.in_ok-comp_of.field-0 c.in-Some.comp
    c.loop-comp.invariant.0 c.loop-comp.invariant.1 c.in_ok-push.ensures.items c.in_ok-comp_of.ensures.plain c.in_ok-comp_of.ensures.based
