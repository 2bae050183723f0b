use Rattle.std.proofs.Common.{◌≡◌}
use Rattle.clip_tests.proofs.pictures.picture.Given as goal

-- the part is the whole extent
abbrev pub invariant-loop-row : goal.invariant-loop-row
invariant-loop-row l = l.world.part ≡ l.world.extent

abbrev pub invariant-loop-column : goal.invariant-loop-column
invariant-loop-column l = l.world.part ≡ l.world.extent
