use Rattle.project_write.specs.Parts.{IsFx}
use Rattle.project_write.proofs.ListLemmas.{zip_next}
use Rattle.project_write.proofs.effects.each_effect.Goals as goal

pub loop-fx-preserved : goal.loop-fx-preserved
loop-fx-preserved c =
    zip_next (IsFx c.args.schemas.now) c.args.effects.now c.loop-fx.fx-index c.fx-item.result c.loop-fx.values.items c.push.new.self.items _
    c.loop-fx-test.true c.loop-fx.invariant c.in_ok-push.ensures.items c.fx-item.is c.in_ok-effect_value.ensures
