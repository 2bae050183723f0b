use Rattle.std.proofs.Common.{refl, ap, ◌∙◌}
use Rattle.std.specs.Prelude.{Err}
use Rattle.cache_core.proofs.Runs.{replay-take_more, first_illegal_from}
use Rattle.cache_core.proofs.history.replay.Goals as goal

pub returns-in-Err-Illegal-clause-cause : goal.returns-in-Err-Illegal-clause-cause
returns-in-Err-Illegal-clause-cause c =
    first_illegal_from c.args.budget c.loop-at.core c.args.entries.now c.loop-at.at _ _ c.loop-at-test.true refl c.loop-at.invariant
    (c.apply.ensures.illegal.0 (c.in-Err-Illegal.is ∙ ap Err c.in-Err-Illegal.field-0-is))

pub loop-at-preserved : goal.loop-at-preserved
loop-at-preserved c =
    replay-take_more c.args.budget c.loop-at.core c.args.entries.now c.loop-at.at _ _ c.loop-at-test.true refl c.loop-at.invariant ∙ c.in-Ok.ensures.ok
