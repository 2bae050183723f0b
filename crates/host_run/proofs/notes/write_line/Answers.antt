use Rattle.std.proofs.Common.{[], ◌∷◌, ◌++◌, refl}
use Rattle.std.specs.Prelude.{codes}
use Rattle.std.proofs.lemmas.List.{append-nil}
use Rattle.std.proofs.lemmas.Result.{on_err_weaker}
use Rattle.host_run.specs.Ending.{line_of}
use Rattle.frame_span.proofs.Known.{on_err, front_of, front_after, appends_more}
use Rattle.host_run.proofs.notes.write_line.Goals as goal

pub returns-in_err-write_whole-clause-front : goal.returns-in_err-write_whole-clause-front
returns-in_err-write_whole-clause-front g c =
    let reason = c.args.reason.now in
    on_err c.from_residual.result _
    (front_of _ _ (codes "afhost: ") (line_of reason) c.in_err-write_whole.ensures.front (reason ++ 10 ∷ [], refl))

pub returns-in_err-write_whole-2-clause-front : goal.returns-in_err-write_whole-2-clause-front
returns-in_err-write_whole-2-clause-front g c =
    let reason = c.args.reason.now in
    on_err c.from_residual-in_err-write_whole-2.result _
    (front_after _ _ _ (codes "afhost: ") reason (line_of reason) c.in_ok-write_whole.ensures.whole c.in_err-write_whole-2.ensures.front
    (10 ∷ [], refl))

pub returns-clause-front : goal.returns-clause-front
returns-clause-front g c =
    let reason = c.args.reason.now in
    on_err_weaker c.write_whole-3.result
    (λ front. front_after _ _ _ (codes "afhost: " ++ reason) (10 ∷ []) (line_of reason)
    (appends_more _ _ _ (codes "afhost: ") reason c.in_ok-write_whole.ensures.whole c.in_ok-write_whole-2.ensures.whole) front
    ([], append-nil (line_of reason)))
    c.write_whole-3.ensures.front
