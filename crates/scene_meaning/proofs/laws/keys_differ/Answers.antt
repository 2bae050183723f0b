use Rattle.scene_meaning.proofs.KeyParts.{differ}
use Rattle.scene_meaning.proofs.laws.keys_differ.Goals as goal

pub returns : goal.returns
returns c = differ
