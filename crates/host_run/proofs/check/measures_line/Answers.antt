use Rattle.std.proofs.Common.{rules, append_assoc, arith}
use Rattle.host_run.proofs.check.measures_line.Goals as goal

pub returns : goal.returns
returns c = first_of (search (rules, append_assoc), grind (arith, append_assoc))
