use Rattle.project_tests.proofs.Sets.{no_effects}
use Rattle.project_tests.proofs.plain.checked.Goals as goal

pub check-requires : goal.check-requires
check-requires c = no_effects
