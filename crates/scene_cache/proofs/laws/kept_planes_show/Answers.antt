use Rattle.scene_cache.proofs.Grids.{planes_show}
use Rattle.scene_cache.proofs.laws.kept_planes_show.Goals as goal

pub returns : goal.returns
returns c = planes_show
