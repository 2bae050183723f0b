use Rattle.std.proofs.Common.{◌≡◌, Some, option_map, map, sym, ap, ◌∙◌}
use Rattle.serde_json.specs.Find.{as_array}
use Rattle.serde_json.specs.View.{view, items_view}
use Rattle.project_json.specs.Parts.{items_in}
use Rattle.project_json.proofs.PartLemmas.{list_of-items_view, is_array_of}
use Rattle.project_json.proofs.parts.items_in.Goals as goal

pub returns-in-Some : goal.returns-in-Some
returns-in-Some c =
    let items = c.in-Some.items.now.items in
    let is : as_array (view c.args.value.now) ≡ Some (items_view items) =
    sym c.as_array.ensures ∙ ap (option_map (λ v. items_view v.now.items)) c.in-Some.is in
    ap (map view) c.as_slice.ensures.value ∙ sym (list_of-items_view items)
    ∙ sym (ap items_in (is_array_of (view c.args.value.now) (items_view items) is))
