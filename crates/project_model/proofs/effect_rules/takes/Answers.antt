use Rattle.sequence_data.specs.Sequence.{Fits, takes}
use Rattle.sequence_data.proofs.Units.{takes_is_fits}
use Rattle.project_model.proofs.EffectTests.{same_tests}
use Rattle.project_model.proofs.effect_rules.takes.Goals as goal

pub returns : goal.returns
returns c =
    same_tests c.takes.result (takes c.args.rule c.args.count) (Fits c.args.rule c.args.count) c.takes.ensures (takes_is_fits c.args.rule c.args.count)
