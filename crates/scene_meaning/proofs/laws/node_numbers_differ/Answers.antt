use Rattle.scene_meaning.proofs.Numbers.{numbers_differ}
use Rattle.scene_meaning.proofs.laws.node_numbers_differ.Goals as goal

pub returns : goal.returns
returns c = numbers_differ
