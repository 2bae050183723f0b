use Rattle.std.proofs.Common.{take}
use Rattle.effect_tests.specs.Uses.{AreConstants}
use Rattle.effect_tests.proofs.uses.constants.Given as goal

abbrev pub invariant-loop-value : goal.invariant-loop-value
invariant-loop-value l = AreConstants (take l.value-index l.values) l.streams.items
