-- The test of a count of bytes is the relation.
use Rattle.std.proofs.Common.{◌≡◌, ◌↔◌, ℕ, ◌+◌, ◌*◌, ◌/◌, ◌%◌, ◌≤◌, ◌<◌, Bool, true, false, IsTrue, refl, sym, ap, ◌∙◌, subst, cond, arith}
use Rattle.std.specs.Prelude.{◌&&◌, ◌==◌, nat_le}
use Rattle.std.proofs.lemmas.Bool.{eqb-true, leb-true, false≢true}
use Rattle.std.proofs.lemmas.Bool.Decides.{nat_tests}
use Rattle.std.proofs.Math.Nat.{mul-mod_right, mul-div_cancel_left, div-add-mod, zero-mul}
use Rattle.sequence_data.specs.declared.sequence.SeqRule.{SeqRule}
use Rattle.sequence_data.specs.Sequence.{Fits, takes}

both : (a b : Bool) → IsTrue (a && b) → IsTrue a × IsTrue b
both true true h = (refl, refl)
both true false h = absurd (false≢true h)
both false b h = absurd (false≢true h)

abbrev Whole : SeqRule → ℕ → Bool
Whole rule count = (count % rule.unit == 0) && nat_le rule.least (count / rule.unit) && nat_le (count / rule.unit) rule.most

of_no_unit : (rule : SeqRule) (count : ℕ) → rule.unit ≡ 0 → IsTrue ((count == 0) && nat_le rule.least rule.most) ↔ Fits rule count
of_no_unit rule count none = (to, from)
  where
    to : IsTrue ((count == 0) && nat_le rule.least rule.most) → Fits rule count
    to h =
        let parts = both (count == 0) (nat_le rule.least rule.most) h in
        let zero_is : count ≡ 0 = eqb-true count 0 parts.0 in
        record {
          units = rule.least;
          whole = zero_is ∙ sym (ap (λ u. u * rule.least) none ∙ zero-mul rule.least);
          some = omega arith;
          few = leb-true rule.least rule.most parts.1;
        }

    from : Fits rule count → IsTrue ((count == 0) && nat_le rule.least rule.most)
    from fits =
        let zero_is : count ≡ 0 = fits.whole ∙ ap (λ u. u * fits.units) none ∙ zero-mul fits.units in
        let some : rule.least ≤ fits.units = fits.some in
        let few : fits.units ≤ rule.most = fits.few in
        let order : rule.least ≤ rule.most = omega (arith, some, few) in
        grind (arith, nat_tests)

of_unit : (rule : SeqRule) (count : ℕ) → 0 < rule.unit → IsTrue (Whole rule count) ↔ Fits rule count
of_unit rule count some_unit = (to, from)
  where
    to : IsTrue (Whole rule count) → Fits rule count
    to h =
        let parts = both ((count % rule.unit == 0) && nat_le rule.least (count / rule.unit)) (nat_le (count / rule.unit) rule.most) h in
        let front = both (count % rule.unit == 0) (nat_le rule.least (count / rule.unit)) parts.0 in
        let rest : count % rule.unit ≡ 0 = eqb-true (count % rule.unit) 0 front.0 in
        let sum : rule.unit * (count / rule.unit) + count % rule.unit ≡ count = div-add-mod count rule.unit in
        let product : rule.unit * (count / rule.unit) + 0 ≡ count = subst (λ r. rule.unit * (count / rule.unit) + r ≡ count) rest sum in
        record {
          units = count / rule.unit;
          whole = omega (arith, product);
          some = leb-true rule.least (count / rule.unit) front.1;
          few = leb-true (count / rule.unit) rule.most parts.1;
        }

    from : Fits rule count → IsTrue (Whole rule count)
    from fits =
        let quotient : count / rule.unit ≡ fits.units = ap (λ c. c / rule.unit) fits.whole ∙ mul-div_cancel_left fits.units some_unit in
        let rest : count % rule.unit ≡ 0 = ap (λ c. c % rule.unit) fits.whole ∙ mul-mod_right rule.unit fits.units in
        let some : rule.least ≤ count / rule.unit = subst (λ q. rule.least ≤ q) (sym quotient) fits.some in
        let few : count / rule.unit ≤ rule.most = subst (λ q. q ≤ rule.most) (sym quotient) fits.few in
        grind (arith, nat_tests)

pub takes_is_fits : (rule : SeqRule) (count : ℕ) → IsTrue (takes rule count) ↔ Fits rule count
takes_is_fits rule count = by_unit (rule.unit == 0) refl
  where
    by_unit : (none : Bool) → (rule.unit == 0) ≡ none
        → IsTrue (cond none ((count == 0) && nat_le rule.least rule.most) (Whole rule count)) ↔ Fits rule count
    by_unit true is = of_no_unit rule count (eqb-true rule.unit 0 is)
    by_unit false is = of_unit rule count (grind (arith, nat_tests))
