use Rattle.std.proofs.Common.{sym, ◌∙◌}
use Rattle.serde_json.specs.View.{view}
use Rattle.project_json.proofs.PartLemmas.{each-texts}
use Rattle.project_json.proofs.parts.has_each.Goals as goal

pub returns : goal.returns
returns c = c.has_names.ensures ∙ sym (each-texts (view c.args.value.now) c.args.names.now)
