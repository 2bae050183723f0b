use Rattle.std.proofs.Common.{◌≡◌, codes, map, ◌∙◌}
use Rattle.serde_json.specs.View.{view}
use Rattle.project_json.specs.PlainData.{items_of, plain_clip_of, plain_comp_of}
use Rattle.project_json.proofs.PartLemmas.{mapped, same_project}
use Rattle.project_json.proofs.plain.plain_project.Goals as goal

pub returns : goal.returns
returns c =
    let clips : c.from_vec.result ≡ map plain_clip_of (items_of (codes "clips") (view c.args.top.now)) =
    c.from_vec.ensures ∙ c.in_ok-clips.ensures ∙ mapped plain_clip_of c.items_of.result.now _ c.items_of.ensures in
    let comps : c.from_vec-2.result ≡ map (plain_comp_of c.args.schemas.now) (items_of (codes "comps") (view c.args.top.now)) =
    c.from_vec-2.ensures ∙ c.in_ok-comps.ensures ∙ mapped (plain_comp_of c.args.schemas.now) c.items_of-2.result.now _ c.items_of-2.ensures in
    same_project _ _ _ _ _ _ _ _ c.count_of.ensures c.count_of-2.ensures clips comps
