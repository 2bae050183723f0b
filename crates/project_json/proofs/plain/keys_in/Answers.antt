use Rattle.std.proofs.Common.{◌≡◌, false, sym, ◌∙◌}
use Rattle.serde_json.specs.View.{view}
use Rattle.project_json.specs.Parts.{is_number}
use Rattle.project_json.specs.Reads.{key_in}
use Rattle.project_json.proofs.PartLemmas.{number_test, mapped, keys_test}
use Rattle.project_json.proofs.plain.keys_in.Goals as goal

pub returns-in_ok-each_key : goal.returns-in_ok-each_key
returns-in_ok-each_key c =
    let no_number : is_number (view c.args.value.now) ≡ false =
    sym (number_test (view c.args.value.now)) ∙ sym c.is_number.ensures ∙ c.if-is_number.false in
    c.from_vec.ensures ∙ c.in_ok-each_key.ensures ∙ mapped key_in c.items_in.result.now _ c.items_in.ensures ∙ sym (keys_test (view c.args.value.now) no_number)
