use Rattle.project_json.proofs.WorkedLemmas.{nested_clip}
use Rattle.project_json.proofs.read.nested_clip_is_read.Goals as goal

pub returns : goal.returns
returns c = nested_clip
