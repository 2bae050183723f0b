use Rattle.std.proofs.Common.{◌≤◌}
use Rattle.std.specs.List.{All}
use Rattle.std.proofs.lemmas.List.Elements.{All-same}
use Rattle.project_model.specs.Form.{IsFormedFx}
use Rattle.project_model.specs.Plain.{plain_fx}
use Rattle.project_model.specs.Times.{fx_times}
use Rattle.project_model.proofs.Copied.{copied_more}
use Rattle.project_model.proofs.copy.plain_effects.Goals as goal

pub loop-fx-preserved : goal.loop-fx-preserved
loop-fx-preserved c =
    copied_more plain_fx IsFormedFx (λ fx. All (λ time. 1 ≤ time.scale) (fx_times fx)) c.args.effects.now c.loop-fx.fx-index c.fx-item.result
    c.loop-fx.plain.items _ c.in_ok-plain_fx.field-0
    c.loop-fx.invariant.0 c.loop-fx.invariant.1 c.loop-fx.invariant.2 c.loop-fx-test.true c.fx-item.is
    c.in_ok-push.ensures.items c.in_ok-plain_fx.ensures.plain c.in_ok-plain_fx.ensures.formed c.in_ok-plain_fx.ensures.scaled

pub returns-clause-formed : goal.returns-clause-formed
returns-clause-formed c = All-same IsFormedFx c.from_vec.result c.loop-fx.plain.items c.from_vec.ensures c.loop-fx.invariant.1
