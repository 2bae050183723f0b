use Rattle.std.proofs.Common.{◌∙◌}
use Rattle.project_json.specs.Reads.{index_in}
use Rattle.project_json.proofs.PartLemmas.{mapped}
use Rattle.project_json.proofs.plain_fx.layers_of.Goals as goal

pub returns : goal.returns
returns c = c.from_vec.ensures ∙ c.in_ok-layers.ensures ∙ mapped index_in c.items_of.result.now _ c.items_of.ensures
