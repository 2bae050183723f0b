use Rattle.argb_world.proofs.Points.{points_tell}
use Rattle.argb_world.proofs.laws.points_tell_the_picture.Goals as goal

pub returns : goal.returns
returns c = points_tell
