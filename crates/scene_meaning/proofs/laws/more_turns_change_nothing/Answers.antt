use Rattle.scene_meaning.proofs.Turns.{more_nothing}
use Rattle.scene_meaning.proofs.laws.more_turns_change_nothing.Goals as goal

pub returns : goal.returns
returns c = more_nothing
