use Rattle.scene_cache.proofs.Grids.{sums_are}
use Rattle.scene_cache.proofs.laws.kept_sums_are.Goals as goal

pub returns : goal.returns
returns c = sums_are
