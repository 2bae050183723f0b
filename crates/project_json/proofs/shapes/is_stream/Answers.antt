use Rattle.std.proofs.Common.{◌≡◌, true, false, length, sym, ◌∙◌}
use Rattle.serde_json.specs.View.{view}
use Rattle.project_model.specs.Bounds.{is_among, most_keys}
use Rattle.project_json.specs.Parts.{is_number}
use Rattle.project_json.proofs.PartLemmas.{number_test, stream_test}
use Rattle.project_json.proofs.shapes.is_stream.Goals as goal

pub returns-then-is_among : goal.returns-then-is_among
returns-then-is_among c =
    let no_number : is_number (view c.args.value.now) ≡ false =
    sym (number_test (view c.args.value.now)) ∙ sym c.is_number.ensures ∙ c.if-is_number.false in
    let among : is_among 1 most_keys (length c.items_in-items.result.now) ≡ true = sym c.is_among.ensures ∙ c.if-is_among.true in
    c.are_keyframes.ensures ∙ sym (stream_test (view c.args.value.now) c.items_in-items.result.now c.items_in-items.ensures no_number among)
