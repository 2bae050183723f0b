use Rattle.project_model.specs.Plain.{plain_fx}
use Rattle.project_model.specs.Ready.{IsBasedFx}
use Rattle.project_model.proofs.Joined.{made_more}
use Rattle.project_model.proofs.join.effects_of.Goals as goal

pub loop-fx-preserved : goal.loop-fx-preserved
loop-fx-preserved c =
    made_more plain_fx (IsBasedFx c.args.base.ticks) c.loop-fx.effects.items _ _ c.in_ok-fx_of.field-0 c.in-Some.fx
    c.loop-fx.invariant.0 c.loop-fx.invariant.1 c.in_ok-push.ensures.items c.in_ok-fx_of.ensures.plain c.in_ok-fx_of.ensures.based
