use Rattle.scene_meaning.proofs.RightKeys.{kept_right}
use Rattle.scene_meaning.proofs.laws.kept_is_right.Goals as goal

pub returns : goal.returns
returns c = kept_right
