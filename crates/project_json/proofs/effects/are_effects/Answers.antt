use Rattle.std.proofs.Common.{◌≡◌, ◌&&◌, true, sym, ap, ◌∙◌}
use Rattle.std.specs.List.{list_all}
use Rattle.serde_json.specs.View.{view}
use Rattle.project_model.specs.Bounds.{most_effects}
use Rattle.project_json.specs.Parts.{items_in, is_list_of_objects}
use Rattle.project_json.specs.EffectForm.{is_effect}
use Rattle.project_json.proofs.PartLemmas.{all_viewed}
use Rattle.project_json.proofs.effects.are_effects.Goals as goal

pub returns-then-is_list_of_objects : goal.returns-then-is_list_of_objects
returns-then-is_list_of_objects c =
    let d = view c.args.value.now in
    let listed : is_list_of_objects 0 most_effects d ≡ true = sym c.is_list_of_objects.ensures ∙ c.if-is_list_of_objects.true in
    c.each_is_effect.ensures ∙ all_viewed is_effect c.items_in.result.now _ c.items_in.ensures
    ∙ sym (ap (λ b. b && list_all is_effect (items_in d)) listed)
