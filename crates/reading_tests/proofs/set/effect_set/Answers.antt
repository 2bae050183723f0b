use Rattle.std.proofs.Common.{sym, subst}
use Rattle.project_model.specs.Effects.{AreSchemas}
use Rattle.reading_tests.proofs.Schemas.{are_schemas}
use Rattle.reading_tests.proofs.set.effect_set.Goals as goal

pub returns-clause-schemas : goal.returns-clause-schemas
returns-clause-schemas c = subst AreSchemas (sym c.in_ok-set.ensures) are_schemas
