use Rattle.std.proofs.Common.{◌≡◌, Some, option_map, sym, ap, ◌∙◌}
use Rattle.serde_json.specs.Find.{as_object}
use Rattle.serde_json.specs.View.{view, members_view}
use Rattle.project_json.specs.Parts.{texts_of, has_only}
use Rattle.project_json.proofs.PartLemmas.{only-texts, is_object_of}
use Rattle.project_json.proofs.parts.has_only.Goals as goal

pub returns-in-Some : goal.returns-in-Some
returns-in-Some c =
    let members = c.in-Some.members.now.entries in
    let is : as_object (view c.args.value.now) ≡ Some (members_view members) =
    sym c.as_object.ensures ∙ ap (option_map (λ m. members_view m.now.entries)) c.in-Some.is in
    c.are_among.ensures ∙ sym (only-texts c.args.names.now members)
    ∙ sym (ap (has_only (texts_of c.args.names.now)) (is_object_of (view c.args.value.now) (members_view members) is))
