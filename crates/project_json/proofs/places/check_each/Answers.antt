use Rattle.std.proofs.Common.{◌≡◌, ◌+◌, drop, get_or, Err, sym, ap, ◌∙◌, arith}
use Rattle.std.proofs.lemmas.Grind.{common_steps}
use Rattle.serde_json.specs.View.{view}
use Rattle.project_json.specs.FormRules.{place_of, breach_at}
use Rattle.project_json.specs.Reading.{verdict}
use Rattle.project_json.specs.declared.form.FormRule.TheVariants.{Whole}
use Rattle.project_json.proofs.OrderLemmas.{broken, broken_first, stays_broken}
use Rattle.project_json.proofs.places.check_each.Goals as goal

pub returns-in_err-check : goal.returns-in_err-check
returns-in_err-check c =
    let p = place_of c.args.schemas.now (view c.args.top.now) in
    let rest = broken p (drop (c.loop-rule.rule-index + 1) c.args.rules.now) in
    let failed : c.check.result ≡ Err c.in_err-check.field-0.0 = grind (arith, common_steps) in
    let given : c.from_residual.result ≡ Err c.in_err-check.field-0.0 = grind (arith, common_steps) in
    let first = breach_at c.args.schemas.now (view c.args.top.now) (get_or c.args.rules.now c.loop-rule.rule-index Whole) in
    given ∙ sym (stays_broken first rest c.in_err-check.field-0.0 (sym c.check.ensures ∙ failed))
    ∙ sym (ap verdict (c.loop-rule.invariant ∙ broken_first p c.args.rules.now c.loop-rule.rule-index (omega arith)))
