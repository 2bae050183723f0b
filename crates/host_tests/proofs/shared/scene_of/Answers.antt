use Rattle.project_model.specs.Plain.{plain_of}
use Rattle.host_run.proofs.Ended.{plain_is_kept}
use Rattle.host_run.proofs.Lengths.{lengths_kept}
use Rattle.host_tests.proofs.shared.scene_of.Goals as goal

pub new-requires-2-clause-lengths : goal.new-requires-2-clause-lengths
new-requires-2-clause-lengths c =
    let schemas = c.deref.result.now in
    let project = c.in-Ok.project in
    lengths_kept schemas project (plain_is_kept schemas c.as_bytes.result.now (plain_of project) c.in-Ok.ensures.project)
