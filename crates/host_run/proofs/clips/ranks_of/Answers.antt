use Rattle.std.proofs.Common.{subst}
use Rattle.project_model.specs.Checked.{Refuses, breach_in}
use Rattle.host_run.proofs.Ended.{not_refused}
use Rattle.host_run.proofs.clips.ranks_of.Goals as goal

pub unreachable-requires : goal.unreachable-requires
unreachable-requires c =
    let schemas = c.args.schemas.now in
    not_refused schemas c.args.project.now c.in_default.field-0 c.in_default.field-1 c.in_default.field-2 c.requires.passed
    (subst (λ e. Refuses e (breach_in schemas c.args.project.now)) c.in_default.is c.in-Err.ensures.refused)
