use Rattle.std.proofs.Common.{◌≡◌, ℤ, pos, ◌*ℤ◌, ◌≤◌, ◌^◌, arith, subst, sym, ◌∙◌, to_z, of_z, w64}
use Rattle.std.specs.Prelude.{unsigned_abs}
use Rattle.std.specs.Int.{w128}
use Rattle.std.proofs.lemmas.Int.{ints}
use Rattle.rational_time.specs.Times.{floor_of}
use Rattle.param_stream.specs.Share.{IsShare}
use Rattle.param_stream.proofs.Shares.{share_lem, share_small, wide_floor}
use Rattle.param_stream.proofs.share.share.Goals as goal

quotient : (c : goal.After-div_euclid) → c.div_euclid.result ≡ floor_of (c.args.change *ℤ pos c.args.part) (pos c.args.whole)
quotient c =
    wide_floor c.args.change c.args.part c.args.whole c.from.result c.from-2.result c.from-3.result c.div_euclid.result
    (omega (arith, ints)) c.from-2.ensures c.from-3.ensures c.requires.change (omega arith) c.requires.whole c.div_euclid.ensures

is_share : (c : goal.After-div_euclid) → IsShare c.args.change c.div_euclid.result
is_share c =
    subst (λ (z : ℤ). IsShare c.args.change z) (sym (quotient c)) (share_lem c.args.change c.args.part c.args.whole c.requires.some c.requires.part)

small : (c : goal.After-div_euclid) → unsigned_abs c.div_euclid.result ≤ 2 ^ 41
small c = share_small c.args.change c.div_euclid.result (2 ^ 41) (is_share c) c.requires.change

held : (c : goal.After-div_euclid) → to_z w64 (of_z w64 (to_z w128 (of_z w128 c.div_euclid.result))) ≡ c.div_euclid.result
held c = omega (arith, ints, small c)

pub overflow_cast-result : goal.overflow_cast-result
overflow_cast-result c = omega (arith, ints, small c)

pub returns-clause-share : goal.returns-clause-share
returns-clause-share c = subst (λ (z : ℤ). IsShare c.args.change z) (sym (held c)) (is_share c)

pub returns-clause-value : goal.returns-clause-value
returns-clause-value c = held c ∙ quotient c
