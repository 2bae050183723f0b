use Rattle.std.proofs.Common.{◌≡◌, ◌&&◌, true, sym, ap, ◌∙◌}
use Rattle.std.specs.List.{list_all}
use Rattle.serde_json.specs.View.{view}
use Rattle.project_json.specs.Parts.{items_in, is_array, is_number}
use Rattle.project_json.proofs.PartLemmas.{all_viewed, array_test}
use Rattle.project_json.proofs.effects.are_numbers.Goals as goal

pub returns-then-is_array : goal.returns-then-is_array
returns-then-is_array c =
    let d = view c.args.value.now in
    let listed : is_array d ≡ true = sym (array_test d) ∙ sym c.is_array.ensures ∙ c.if-is_array.true in
    c.each_is_number.ensures ∙ all_viewed is_number c.items_in.result.now _ c.items_in.ensures
    ∙ sym (ap (λ b. b && list_all is_number (items_in d)) listed)
