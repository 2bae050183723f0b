use Rattle.std.proofs.Common.{◌∙◌}
use Rattle.project_json.specs.Shapes.{key_has_time}
use Rattle.project_json.proofs.PartLemmas.{all_viewed}
use Rattle.project_json.proofs.shapes.stream_has_times.Goals as goal

pub returns : goal.returns
returns c = c.have_times.ensures ∙ all_viewed key_has_time c.items_in.result.now _ c.items_in.ensures
