use Rattle.project_json.specs.Counts.{HasFewLayers}
use Rattle.project_json.proofs.PlaceLemmas.{All-viewed}
use Rattle.project_json.proofs.form.FormRule.place.Goals as goal

pub first_in_comps-requires-clause-few_layers : goal.first_in_comps-requires-clause-few_layers
first_in_comps-requires-clause-few_layers c =
    All-viewed (HasFewLayers c.args.self) c.items_of.result.now _ c.items_of.ensures c.requires.few_layers
