use Rattle.std.proofs.Common.{rules, get_or, w32, ℤ, pos, ◌+◌, List, ◌++◌, ◌∷◌, [], ◌≡◌, take, subst, sym}
use Rattle.std.proofs.lemmas.List.{take_more}
use Rattle.param_stream.specs.Curve.{Curve}
use Rattle.std.specs.Int.RustNames.{FitsSigned}
use Rattle.std.proofs.lemmas.Int.{to_z-of_z}
use Rattle.effect_tests.specs.Uses.{IsConstant, AreConstants}
use Rattle.effect_tests.proofs.Constants.{constants_push}
use Rattle.effect_tests.proofs.uses.constants.Goals as goal

pub loop-value-preserved : goal.loop-value-preserved
loop-value-preserved c =
    let value : ℤ = get_or c.args.values.now c.loop-value.value-index (pos 0) in
    let fits : FitsSigned w32 value = search rules in
    let constant : IsConstant value c.in_ok-constant.field-0 = simp to_z-of_z at c.in_ok-constant.ensures in
    subst (λ (curves : List Curve). AreConstants (take (c.loop-value.value-index + 1) c.args.values.now) curves) (sym c.in_ok-push.ensures.items)
    (subst (λ (values : List ℤ). AreConstants values (c.loop-value.streams.items ++ c.in_ok-constant.field-0 ∷ [])) (sym (take_more c.args.values.now c.loop-value.value-index (pos 0) c.loop-value-test.true))
    (constants_push _ _ _ _ c.loop-value.invariant constant))
