use Rattle.host_run.proofs.Answered.{written_of, answered_of}
use Rattle.host_run.proofs.check.check_run.Goals as goal

pub returns-clause-ran : goal.returns-clause-ran
returns-clause-ran g c = λ all same. record { end = c.check_read-end.result; ended = c.check_read-end.ensures.ended all same; noted = c.tell.ensures }

pub returns-clause-written : goal.returns-clause-written
returns-clause-written g c = λ ok all same. written_of all _ _ _ _ _ _ (returns-clause-ran g c all same) ok

pub returns-clause-answered : goal.returns-clause-answered
returns-clause-answered g c = λ all same. answered_of all _ _ _ _ _ _ (returns-clause-ran g c all same)
