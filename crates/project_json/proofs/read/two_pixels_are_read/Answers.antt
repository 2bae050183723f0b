use Rattle.project_json.proofs.WorkedLemmas.{two_pixels}
use Rattle.project_json.proofs.read.two_pixels_are_read.Goals as goal

pub returns : goal.returns
returns c = two_pixels
