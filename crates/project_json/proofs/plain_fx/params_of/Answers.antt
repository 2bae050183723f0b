use Rattle.std.proofs.Common.{◌∙◌}
use Rattle.project_json.specs.Reads.{keys_in}
use Rattle.project_json.proofs.PartLemmas.{mapped}
use Rattle.project_json.proofs.plain_fx.params_of.Goals as goal

pub returns : goal.returns
returns c = c.from_vec.ensures ∙ c.in_ok-params.ensures ∙ mapped keys_in c.items_of.result.now _ c.items_of.ensures
