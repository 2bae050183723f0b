use Rattle.std.proofs.Common.{◌∙◌}
use Rattle.project_json.specs.PlainData.{plain_fx_of}
use Rattle.project_json.proofs.PartLemmas.{mapped}
use Rattle.project_json.proofs.plain.effects_of.Goals as goal

pub returns : goal.returns
returns c =
    c.from_vec.ensures ∙ c.in_ok-effects.ensures ∙ mapped (plain_fx_of c.args.schemas.now) c.items_of.result.now _ c.items_of.ensures
