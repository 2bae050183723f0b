use Rattle.std.proofs.Common.{◌*◌, ◌≤◌, ap, ◌∙◌, arith}
use Rattle.std.proofs.Math.Nat.{mul-pos, mul-le-mul_left}
use Rattle.fx_blur.specs.Sums.{mean_of}
use Rattle.fx_blur.proofs.Adding.{sum_from, square_within, written_more}
use Rattle.fx_blur.proofs.means.write_means.Goals as goal

pub mean_by-requires : goal.mean_by-requires
mean_by-requires g c =
    let few : c.args.across * c.args.across ≤ c.args.across * 257 = mul-le-mul_left c.args.across (omega (arith, c.requires.few)) in (
      omega arith,
      (
        c.requires.depth,
        (
          mul-pos c.requires.some c.requires.some,
          (
            omega (arith, few, c.requires.few),
            (
              c.part_of-part.ensures,
              square_within g.row.MAX c.args.across c.args.columns.now c.loop-i.i c.loop-i.sum c.requires.within (omega (arith, c.requires.long, c.loop-i-test.true, c.loop-i.auto.into)) c.loop-i.invariant.sum,
            ),
          ),
        ),
      ),
    )

pub loop-i-preserved : goal.loop-i-preserved
loop-i-preserved g c = record {
  sum = c.next_sum-sum.ensures;
  done = written_more (λ i. mean_of (c.args.across * c.args.across) (sum_from c.args.columns.now i c.args.across)) c.loop-i.into c.loop-i.i c.mean_by.result
      (omega (arith, c.loop-i-test.true, c.loop-i.auto.into)) c.loop-i.invariant.done
      (c.mean_by.ensures ∙ ap (mean_of (c.args.across * c.args.across)) c.loop-i.invariant.sum);
}
