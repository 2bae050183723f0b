use Rattle.std.proofs.Common.{◌≤◌, ◌/◌, ◌*ℤ◌, ◌≡◌, ◌*◌, ℤ, pos, arith, rules, FitsSigned, w32, sym, subst}
use Rattle.std.specs.Prelude.{unsigned_abs}
use Rattle.std.proofs.lemmas.Int.{ints}
use Rattle.std.proofs.Math.Nat.{div-le_self}
use Rattle.rational_time.proofs.Numbers.{wide_product, abs-product, scaled_up, scaled_near}
use Rattle.rational_time.proofs.time.to_tick.Goals as goal

pub returns-clause-value : goal.returns-clause-value
returns-clause-value c =
    let fits : FitsSigned w32 c.args.time.value = search rules in
    let few = div-le_self c.args.base.ticks c.args.time.scale in
    wide_product c.args.time.value (c.args.base.ticks / c.args.time.scale) c.from.result c.from-2.result (omega (arith, ints)) c.from-2.ensures (omega (arith, ints)) (omega arith)

pub returns-clause-seconds : goal.returns-clause-seconds
returns-clause-seconds c =
    subst
    (λ (z : ℤ). (z *ℤ pos c.args.time.scale) ≡ (c.args.time.value *ℤ pos c.args.base.ticks))
    (sym (returns-clause-value c))
    (scaled_up c.args.time.value c.args.base.ticks c.args.time.scale c.requires.divides)

pub returns-clause-near : goal.returns-clause-near
returns-clause-near c =
    subst
    (λ (z : ℤ). unsigned_abs z ≤ 36000 * c.args.base.ticks)
    (sym (returns-clause-value c))
    (rw abs-product (scaled_near _ _ _ c.requires.divides c.requires.near))
