use Rattle.std.proofs.Common.{◌≡◌, drop}
use Rattle.effect_api.specs.Checked.{world_with}
use Rattle.effect_api.proofs.checkouts.find_world.Given as goal

abbrev pub invariant-loop-pair : goal.invariant-loop-pair
invariant-loop-pair g l = world_with l.id l.pairs ≡ world_with l.id (drop l.pair-index l.pairs)
