use Rattle.std.proofs.Common.{sym, ap, ◌∙◌}
use Rattle.std.specs.List.{list_all}
use Rattle.std.proofs.lemmas.List.Folds.{list_all-map}
use Rattle.serde_json.specs.View.{view}
use Rattle.project_json.specs.Shapes.{key_has_time}
use Rattle.project_json.proofs.shapes.keys_have_times.Goals as goal

pub returns : goal.returns
returns c = c.have_times.ensures ∙ sym (list_all-map key_has_time view c.items_of.result.now) ∙ ap (list_all key_has_time) c.items_of.ensures
