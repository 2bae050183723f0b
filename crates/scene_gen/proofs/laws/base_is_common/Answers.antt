use Rattle.scene_gen.proofs.Scales.{base_of_generated}
use Rattle.scene_gen.proofs.laws.base_is_common.Goals as goal

pub returns : goal.returns
returns c = base_of_generated
