use Rattle.std.proofs.Common.{◌≡◌, ◌&&◌, true, sym, ap, ◌∙◌}
use Rattle.std.specs.List.{list_all}
use Rattle.std.proofs.lemmas.List.Folds.{list_all-map}
use Rattle.serde_json.specs.View.{view}
use Rattle.project_model.specs.Bounds.{most_clips}
use Rattle.project_json.specs.Parts.{items_in, has_exactly, is_list_of_objects}
use Rattle.project_json.specs.FormRules.{clip_names}
use Rattle.project_json.proofs.form.are_clips.Goals as goal

pub returns-then-is_list_of_objects : goal.returns-then-is_list_of_objects
returns-then-is_list_of_objects c =
    let d = view c.args.value.now in
    let listed : is_list_of_objects 0 most_clips d ≡ true = sym c.is_list_of_objects.ensures ∙ c.if-is_list_of_objects.true in
    c.each_is_clip.ensures ∙ sym (list_all-map (has_exactly clip_names) view c.items_in.result.now) ∙ ap (list_all (has_exactly clip_names)) c.items_in.ensures
    ∙ sym (ap (λ b. b && list_all (has_exactly clip_names) (items_in d)) listed)
