use Rattle.std.proofs.Common.{◌∙◌}
use Rattle.std.specs.List.{list_all}
use Rattle.project_json.specs.Parts.{items_in}
use Rattle.project_json.specs.Shapes.{key_has_time}
use Rattle.project_json.proofs.PartLemmas.{all_viewed}
use Rattle.project_json.proofs.effects.has_key_times.Goals as goal

pub returns : goal.returns
returns c =
    c.streams_have_times.ensures ∙ all_viewed (λ stream. list_all key_has_time (items_in stream)) c.items_of.result.now _ c.items_of.ensures
