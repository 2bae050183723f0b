use Rattle.scene_meaning.proofs.Nodes.{nodes_drawn}
use Rattle.scene_meaning.proofs.laws.nodes_are_drawn.Goals as goal

pub returns : goal.returns
returns c = nodes_drawn
