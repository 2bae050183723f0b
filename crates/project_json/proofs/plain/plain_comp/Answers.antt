use Rattle.std.proofs.Common.{◌≡◌, codes, map, ◌∙◌}
use Rattle.serde_json.specs.View.{view}
use Rattle.project_json.specs.PlainData.{items_of, plain_layer_of}
use Rattle.project_json.proofs.PartLemmas.{mapped, same_comp}
use Rattle.project_json.proofs.plain.plain_comp.Goals as goal

pub returns : goal.returns
returns c =
    let layers : c.from_vec.result ≡ map (plain_layer_of c.args.schemas.now) (items_of (codes "layers") (view c.args.comp.now)) =
    c.from_vec.ensures ∙ c.in_ok-layers.ensures ∙ mapped (plain_layer_of c.args.schemas.now) c.items_of.result.now _ c.items_of.ensures in
    same_comp _ _ _ _ _ _ _ _ _ _ c.count_of.ensures c.count_of-2.ensures c.time_of.ensures c.count_of-3.ensures layers
