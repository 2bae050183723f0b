use Rattle.scene_meaning.proofs.Kept.{nodes_kept}
use Rattle.scene_meaning.proofs.laws.nodes_are_kept.Goals as goal

pub returns : goal.returns
returns c = nodes_kept
