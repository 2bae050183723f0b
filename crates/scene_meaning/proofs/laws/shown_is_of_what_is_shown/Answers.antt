use Rattle.scene_meaning.proofs.Turns.{shown_fixed}
use Rattle.scene_meaning.proofs.laws.shown_is_of_what_is_shown.Goals as goal

pub returns : goal.returns
returns c = shown_fixed
