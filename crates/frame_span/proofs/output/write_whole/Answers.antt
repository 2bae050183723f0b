use Rattle.std.proofs.Common.{◌++◌, take, ap, ◌∙◌, append_assoc, rules}
use Rattle.frame_span.proofs.Known.{appends_more, take-append-rest}
use Rattle.frame_span.proofs.output.write_whole.Goals as goal

pub rest-preserved : goal.rest-preserved
rest-preserved g c =
    let n = c.in_ok-count.count in
    let rest = c.rest.rest.now in
    let front = c.rest.invariant.done.0 in
    record {
      done = (
        front ++ take n rest,
        append_assoc front (take n rest) _ ∙ ap (λ zs. front ++ zs) (take-append-rest n rest c.in_ok-count.ensures.bound) ∙ c.rest.invariant.done.1,
        appends_more _ _ _ front (take n rest) c.rest.invariant.done.2 c.in_ok-count.ensures.appended,
      );
      faults = search rules;
    }
