use Rattle.project_tests.proofs.Sets.{no_effects}
use Rattle.project_tests.proofs.plain.of_parts.Goals as goal

pub of_plain-requires-clause-schemas : goal.of_plain-requires-clause-schemas
of_plain-requires-clause-schemas c = no_effects
