use Rattle.std.proofs.Common.{◌≤◌, length, Err, subst, sym, arith}
use Rattle.std.specs.Io.KnownBytes.{Consumes}
use Rattle.host_run.specs.Run.{Seen, seen_of}
use Rattle.host_run.specs.Stages.{HasRead, IsWhole}
use Rattle.host_run.specs.declared.input.TheConstants.{LONGEST_TEXT}
use Rattle.host_run.proofs.Ended.{read_refused}
use Rattle.host_run.proofs.ready.read_input.Goals as goal

pub returns : goal.returns
returns g c =
    let bytes = c.deref.result.now in
    let source : Seen = seen_of g.S.Source.left g.S.Source.faults c.args.source.now c.read_to_end.new.source in
    let bound : length c.in-Ok.bytes.items ≤ LONGEST_TEXT = omega (arith, c.in-Ok.bytes.ok.0, c.in-Ok.ensures.bound) in
    let whole : IsWhole c.in-Ok.bytes.items source = record { ended = c.in-Ok.ensures.end; works = c.in-Ok.ensures.cause; bound = bound } in
    subst (λ e. HasRead c.args.schemas.now (Err e) source) (sym c.of_project.ensures)
    (read_refused c.args.schemas.now c.in-Err-read_project.error bytes source
    (subst (Consumes source.before source.now) (sym c.deref.ensures.value) c.in-Ok.ensures.bytes)
    (subst (λ b. IsWhole b source) (sym c.deref.ensures.value) whole)
    c.in-Err-read_project.ensures.refused)
