use Rattle.std.proofs.Common.{sym, subst}
use Rattle.std.specs.Prelude.{◌↔◌, IsTrue}
use Rattle.sequence_data.specs.Sequence.{Fits}
use Rattle.sequence_data.proofs.Units.{takes_is_fits}
use Rattle.sequence_data.proofs.sequence.SeqRule.takes.Goals as goal

pub returns : goal.returns
returns c = subst (λ b. IsTrue b ↔ Fits c.args.self c.args.count) (sym c.takes.ensures) (takes_is_fits c.args.self c.args.count)
