use Rattle.std.proofs.Common.{ap, ◌∙◌}
use Rattle.project_json.specs.Reads.{fx_named}
use Rattle.project_write.proofs.NameLemmas.{effect_found, same_schema}
use Rattle.project_write.proofs.names.effect_name.Goals as goal

pub returns : goal.returns
returns c =
    let schemas = c.args.schemas.now in
    ap (fx_named schemas) (c.as_str.ensures ∙ same_schema schemas _ _ c.args.kind c.from.ensures c.requires.known)
    ∙ effect_found schemas c.args.kind c.requires.schemas c.requires.known
