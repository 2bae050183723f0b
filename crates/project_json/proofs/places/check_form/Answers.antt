use Rattle.std.proofs.Common.{◌≡◌, [], ◌∷◌, None, Err, sym, ap, ◌∙◌, arith}
use Rattle.std.proofs.lemmas.Grind.{common_steps}
use Rattle.serde_json.specs.View.{view}
use Rattle.project_model.specs.Places.{first_of_two}
use Rattle.project_json.specs.FormRules.{place_of}
use Rattle.project_json.specs.Reading.{verdict}
use Rattle.project_json.specs.declared.form.FormRule.TheVariants.{Layers}
use Rattle.project_json.proofs.OrderLemmas.{broken, counted, later, in_parts, unbroken, stays_broken, goes_on, indexed_counted, indexed_one, indexed_rest}
use Rattle.project_json.proofs.places.check_form.Goals as goal

pub check_each-requires : goal.check_each-requires
check_each-requires c = indexed_counted (view c.args.top.now)

pub check_each-requires-2 : goal.check_each-requires-2
check_each-requires-2 c =
    let p = place_of c.args.schemas.now (view c.args.top.now) in
    let first : broken p counted ≡ None = unbroken (broken p counted) c.in_ok-check_each.field-0 (sym c.check_each.ensures ∙ c.in_ok-check_each.was) in
    indexed_one c.args.schemas.now (view c.args.top.now) first

pub returns-in_err-check_each-2 : goal.returns-in_err-check_each-2
returns-in_err-check_each-2 c =
    let p = place_of c.args.schemas.now (view c.args.top.now) in
    let first : broken p counted ≡ None = unbroken (broken p counted) c.in_ok-check_each.field-0 (sym c.check_each.ensures ∙ c.in_ok-check_each.was) in
    let failed : verdict (broken p (Layers ∷ [])) ≡ Err c.in_err-check_each-2.field-0.0 = sym c.check_each-2.ensures ∙ c.in_err-check_each-2.was in
    let given : c.from_residual-in_err-check_each-2.result ≡ Err c.in_err-check_each-2.field-0.0 = grind (arith, common_steps) in
    given ∙ sym (stays_broken (broken p (Layers ∷ [])) (broken p later) c.in_err-check_each-2.field-0.0 failed)
    ∙ sym (goes_on (broken p counted) (first_of_two (broken p (Layers ∷ [])) (broken p later)) first)
    ∙ sym (ap verdict (in_parts p))

pub check_each-requires-3 : goal.check_each-requires-3
check_each-requires-3 c =
    let p = place_of c.args.schemas.now (view c.args.top.now) in
    let first : broken p counted ≡ None = unbroken (broken p counted) c.in_ok-check_each.field-0 (sym c.check_each.ensures ∙ c.in_ok-check_each.was) in
    let second : broken p (Layers ∷ []) ≡ None =
    unbroken (broken p (Layers ∷ [])) c.in_ok-check_each-2.field-0 (sym c.check_each-2.ensures ∙ c.in_ok-check_each-2.was) in
    indexed_rest c.args.schemas.now (view c.args.top.now) first second

pub returns : goal.returns
returns c =
    let p = place_of c.args.schemas.now (view c.args.top.now) in
    let first : broken p counted ≡ None = unbroken (broken p counted) c.in_ok-check_each.field-0 (sym c.check_each.ensures ∙ c.in_ok-check_each.was) in
    let second : broken p (Layers ∷ []) ≡ None =
    unbroken (broken p (Layers ∷ [])) c.in_ok-check_each-2.field-0 (sym c.check_each-2.ensures ∙ c.in_ok-check_each-2.was) in
    c.check_each-3.ensures
    ∙ sym (goes_on (broken p (Layers ∷ [])) (broken p later) second)
    ∙ sym (goes_on (broken p counted) (first_of_two (broken p (Layers ∷ [])) (broken p later)) first)
    ∙ sym (ap verdict (in_parts p))
