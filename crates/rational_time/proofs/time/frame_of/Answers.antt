use Rattle.std.proofs.Common.{◌≡◌, arith, rules, subst, sym, ◌∙◌, ℤ, FitsSigned, to_z, of_z, w64}
use Rattle.std.proofs.lemmas.Int.{ints, to_z-of_z}
use Rattle.rational_time.specs.Times.{IsFloor, frame_at}
use Rattle.rational_time.proofs.Numbers.{floor_lem}
use Rattle.rational_time.proofs.time.frame_of.Goals as goal

pub returns-clause-floor : goal.returns-clause-floor
returns-clause-floor c =
    let held : to_z w64 (of_z w64 c.div_euclid.result) ≡ c.div_euclid.result = omega (arith, ints) in
    let fits : FitsSigned w64 c.args.tick.0 = search rules in
    let is : c.div_euclid.result ≡ frame_at c.args.tick.0 c.args.ticks = rw c.div_euclid.ensures (grind (arith, to_z-of_z)) in
    subst (λ (q : ℤ). IsFloor c.args.tick.0 c.args.ticks q) (sym (held ∙ is)) (floor_lem c.args.tick.0 c.args.ticks c.requires)
