use Rattle.std.proofs.Common.{sym}
use Rattle.project_model.proofs.EffectTests.{other_count}
use Rattle.project_model.proofs.effect_rules.are_in_range.Goals as goal

pub returns-then-params-streams : goal.returns-then-params-streams
returns-then-params-streams c = sym (other_count c.args.params.now c.args.streams.now c.if-params-streams.true)
