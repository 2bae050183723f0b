use Rattle.std.proofs.Common.{◌<◌, ◌≤◌, length, arith, rules}
use Rattle.host_run.specs.declared.input.TheConstants.{LONGEST_TEXT}
use Rattle.frame_span.proofs.Known.{on_err}
use Rattle.host_run.proofs.Known.{takes_after, consumes_kept}
use Rattle.host_run.proofs.input.read_to_end.Goals as goal

pub returns-in_err-count-clause-none_lost : goal.returns-in_err-count-clause-none_lost
returns-in_err-count-clause-none_lost g c =
    on_err c.from_residual-in_err-count.result _ (takes_after _ _ _ _ c.pieces.invariant.taken c.in_err-count.ensures.none_lost)

pub returns-clause-too_long : goal.returns-clause-too_long
returns-clause-too_long g c =
    let more : LONGEST_TEXT < length c.pieces.bytes.items = omega (arith, c.pieces.bytes.ok.0) in
    λ _. record { bytes = c.pieces.bytes.items; taken = c.pieces.invariant.taken; more = more }

pub returns-in_err-count-clause-short : goal.returns-in_err-count-clause-short
returns-in_err-count-clause-short g c =
    let bound : length c.pieces.bytes.items ≤ LONGEST_TEXT = omega (arith, c.pieces.bytes.ok.0) in
    λ fault. record {
      bytes = c.pieces.bytes.items;
      taken = consumes_kept _ _ _ c.pieces.bytes.items c.pieces.invariant.taken (c.in_err-count.ensures.kept (search rules));
      bound = bound;
    }
