use Rattle.std.proofs.Common.{sym, ◌∙◌}
use Rattle.serde_json.specs.View.{view}
use Rattle.project_write.proofs.ProjectLemmas.{read_again, project_kinds}
use Rattle.project_write.proofs.write.write_project.Goals as goal

pub project_value-requires-clause-kinds : goal.project_value-requires-clause-kinds
project_value-requires-clause-kinds c = project_kinds c.args.schemas.now c.args.project.now c.requires.fits

pub returns-clause-read : goal.returns-clause-read
returns-clause-read c =
    let schemas = c.args.schemas.now in
    let project = c.args.project.now in
    read_again schemas project (view c.in_ok-value.value) c.in_ok-to_vec.field-0.items c.in_ok-value.ensures c.in_ok-to_vec.ensures.utf8
    c.in_ok-to_vec.ensures.reads_back (sym (c.sound_is_based.ensures schemas project c.requires.sound) ∙ c.requires.passed)
