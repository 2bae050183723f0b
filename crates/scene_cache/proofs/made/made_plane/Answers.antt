use Rattle.scene_cache.proofs.Grids.{plane_made}
use Rattle.scene_cache.proofs.made.made_plane.Goals as goal

pub returns : goal.returns
returns g c = λ set drawing. plane_made set drawing c.args.world c.new.result c.pixels_fill_part.ensures c.requires.whole c.new.ensures
