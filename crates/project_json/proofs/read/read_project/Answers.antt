use Rattle.std.proofs.Common.{◌≡◌, None, Ok, Err, sym, ap, subst, ◌∙◌, arith}
use Rattle.std.proofs.lemmas.Grind.{common_steps}
use Rattle.serde_json.specs.View.{view}
use Rattle.project_model.specs.Broken.{breach_of}
use Rattle.project_model.specs.Checked.{Refuses}
use Rattle.project_model.specs.Form.{IsFormed}
use Rattle.project_json.specs.FormRules.{form_breach}
use Rattle.project_json.specs.PlainData.{plain_of_data}
use Rattle.project_json.specs.Reading.{error_from}
use Rattle.project_json.proofs.OrderLemmas.{unbroken}
use Rattle.project_json.proofs.FormedLemmas.{formed}
use Rattle.project_json.proofs.ReadLemmas.{project_of-read, form_refusal, number_refusal, refused_as}
use Rattle.project_json.proofs.read.read_project.Goals as goal

pub returns-in_err-check_form-clause-refused : goal.returns-in_err-check_form-clause-refused
returns-in_err-check_form-clause-refused c =
    let given : c.from_residual-in_err-check_form.result ≡ Err c.in_err-check_form.field-0.0 = grind (arith, common_steps) in
    refused_as c.args.schemas.now c.args.bytes.now _ c.in_err-check_form.field-0.0 given
    (form_refusal c.args.schemas.now c.args.bytes.now (view c.in_ok-value.value) c.in_err-check_form.field-0.0 c.in_ok-value.ensures.value
    (sym c.check_form.ensures ∙ c.in_err-check_form.was))

pub of_plain-requires-clause-formed : goal.of_plain-requires-clause-formed
of_plain-requires-clause-formed c =
    let d = view c.in_ok-value.value in
    let form : form_breach c.args.schemas.now d ≡ None = unbroken (form_breach c.args.schemas.now d) c.in_ok-check_form.field-0 (sym c.check_form.ensures ∙ c.in_ok-check_form.was) in
    subst IsFormed (sym c.in_ok-plain.ensures) (formed c.args.schemas.now d form)

pub returns-in_err-of_plain-clause-refused : goal.returns-in_err-of_plain-clause-refused
returns-in_err-of_plain-clause-refused c =
    let d = view c.in_ok-value.value in
    let form : form_breach c.args.schemas.now d ≡ None = unbroken (form_breach c.args.schemas.now d) c.in_ok-check_form.field-0 (sym c.check_form.ensures ∙ c.in_ok-check_form.was) in
    let refused = c.in_err-of_plain.field-0.0 in
    let given : c.from_residual-in_err-of_plain.result ≡ Err (error_from refused) = grind (arith, common_steps) in
    let refuses : Refuses refused (breach_of c.args.schemas.now (plain_of_data c.args.schemas.now d)) =
    subst (λ plain. Refuses refused (breach_of c.args.schemas.now plain)) c.in_ok-plain.ensures c.in_err-of_plain.ensures.refused in
    refused_as c.args.schemas.now c.args.bytes.now _ (error_from refused) given (number_refusal c.args.schemas.now c.args.bytes.now d refused c.in_ok-value.ensures.value form refuses)

pub returns-clause-project : goal.returns-clause-project
returns-clause-project c =
    let d = view c.in_ok-value.value in
    let form : form_breach c.args.schemas.now d ≡ None = unbroken (form_breach c.args.schemas.now d) c.in_ok-check_form.field-0 (sym c.check_form.ensures ∙ c.in_ok-check_form.was) in
    let numbers : breach_of c.args.schemas.now (plain_of_data c.args.schemas.now d) ≡ None = ap (breach_of c.args.schemas.now) (sym c.in_ok-plain.ensures) ∙ c.in_ok-of_plain.ensures.passed in
    project_of-read c.args.schemas.now c.args.bytes.now d c.in_ok-value.ensures.value form numbers ∙ ap Ok (sym (c.in_ok-of_plain.ensures.project ∙ c.in_ok-plain.ensures))
