use Rattle.std.proofs.Common.{◌∙◌}
use Rattle.project_json.specs.Shapes.{is_stream}
use Rattle.project_json.proofs.PartLemmas.{all_viewed}
use Rattle.project_json.proofs.effects.has_streams.Goals as goal

pub returns : goal.returns
returns c = c.are_streams.ensures ∙ all_viewed is_stream c.items_of.result.now _ c.items_of.ensures
