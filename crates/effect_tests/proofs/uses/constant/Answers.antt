use Rattle.std.proofs.Common.{w32}
use Rattle.std.specs.Int.RustNames.{FitsSigned}
use Rattle.std.proofs.lemmas.Int.{to_z-of_z}
use Rattle.effect_tests.proofs.Constants.{key_timed}
use Rattle.effect_tests.proofs.uses.constant.Goals as goal

pub new-requires-clause-timed : goal.new-requires-clause-timed
new-requires-clause-timed c =
    let fits : FitsSigned w32 c.args.value = c.ranges.value in
    key_timed c.args.value c.in_ok-keys.keys.items (simp to_z-of_z at c.in_ok-keys.ensures)
