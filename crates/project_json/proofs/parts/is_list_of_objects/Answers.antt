use Rattle.std.proofs.Common.{◌≡◌, Some, option_map, is_some, length, true, false, refl, sym, ap, ◌∙◌}
use Rattle.std.specs.List.{list_all}
use Rattle.serde_json.specs.Find.{as_array, as_object}
use Rattle.serde_json.specs.View.{view, items_view}
use Rattle.project_model.specs.Bounds.{is_among}
use Rattle.project_json.proofs.PartLemmas.{list_test}
use Rattle.project_json.proofs.parts.is_list_of_objects.Goals as goal

pub returns-then-is_among : goal.returns-then-is_among
returns-then-is_among c =
    let items = c.in-Some.items.now.items in
    let is : as_array (view c.args.value.now) ≡ Some (items_view items) =
    sym c.as_array.ensures ∙ ap (option_map (λ v. items_view v.now.items)) c.in-Some.is in
    let among : is_among c.args.least c.args.most (length items) ≡ true =
    ap (λ xs. is_among c.args.least c.args.most (length xs)) (sym c.as_slice-items.ensures.value) ∙ sym c.is_among.ensures ∙ c.if-is_among.true in
    sym (list_test c.args.least c.args.most (view c.args.value.now) items true _ is among (sym (c.are_objects.ensures ∙ ap (list_all (λ v. is_some (as_object (view v)))) c.as_slice-items.ensures.value)))

pub returns-else-is_among : goal.returns-else-is_among
returns-else-is_among c =
    let items = c.in-Some.items.now.items in
    let is : as_array (view c.args.value.now) ≡ Some (items_view items) =
    sym c.as_array.ensures ∙ ap (option_map (λ v. items_view v.now.items)) c.in-Some.is in
    let among : is_among c.args.least c.args.most (length items) ≡ false =
    ap (λ xs. is_among c.args.least c.args.most (length xs)) (sym c.as_slice-items.ensures.value) ∙ sym c.is_among.ensures ∙ c.if-is_among.false in
    c.if-is_among.false ∙ sym (list_test c.args.least c.args.most (view c.args.value.now) items false _ is among refl)
