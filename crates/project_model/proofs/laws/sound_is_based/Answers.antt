use Rattle.project_model.proofs.Hand.{sound_based}
use Rattle.project_model.proofs.laws.sound_is_based.Goals as goal

pub returns : goal.returns
returns c = sound_based
