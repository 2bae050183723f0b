use Rattle.std.proofs.Common.{sym, ap, ◌∙◌}
use Rattle.std.specs.List.{list_all}
use Rattle.std.proofs.lemmas.List.Folds.{list_all-map}
use Rattle.serde_json.specs.View.{view}
use Rattle.project_json.specs.Shapes.{has_frame}
use Rattle.project_json.proofs.form.clips_have_frames.Goals as goal

pub returns : goal.returns
returns c = c.have_frames.ensures ∙ sym (list_all-map has_frame view c.items_of.result.now) ∙ ap (list_all has_frame) c.items_of.ensures
