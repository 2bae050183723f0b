use Rattle.std.proofs.Common.{sym, subst}
use Rattle.project_model.specs.Effects.{AreSchemas}
use Rattle.project_tests.proofs.Sets.{three_effects}
use Rattle.project_tests.proofs.schemas.schemas.Goals as goal

pub returns : goal.returns
returns c =
    subst AreSchemas (sym c.in_ok-vec.ensures.items)
    (three_effects c.in_ok-ranged.field-0 c.in_ok-single.field-0 c.in_ok-mapped.field-0 c.in_ok-ranged.ensures.name c.in_ok-single.ensures.name c.in_ok-mapped.ensures.name
    c.in_ok-ranged.ensures.params c.in_ok-single.ensures.params c.in_ok-mapped.ensures.params)
