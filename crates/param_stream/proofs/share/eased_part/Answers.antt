use Rattle.std.proofs.Common.{◌≡◌, ℕ, ◌*◌, ◌/◌, ◌≤◌, arith, refl, subst, sym}
use Rattle.param_stream.proofs.Shares.{eased_small, eased_most, parts_over}
use Rattle.param_stream.proofs.share.eased_part.Goals as goal

-- the parts that would be over in proportion
over : (c : goal.After-from-3) → c.from.result * c.from-2.result / c.from-3.result ≤ 65536
over c =
    let is : c.from.result * c.from-2.result / c.from-3.result ≡ 65536 * c.args.run / c.args.span = rw (c.from.ensures, c.from-2.ensures, c.from-3.ensures) refl in
    subst (λ (n : ℕ). n ≤ 65536) (sym is) (parts_over c.args.run c.args.span c.requires.inside)

pub overflow_mul-result-4 : goal.overflow_mul-result-4
overflow_mul-result-4 c = omega (arith, eased_small _ (over c))

pub returns-clause-most : goal.returns-clause-most
returns-clause-most c = eased_most _ (over c)
