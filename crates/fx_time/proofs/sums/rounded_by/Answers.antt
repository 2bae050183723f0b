use Rattle.std.proofs.Common.{◌+◌, ◌/◌, arith}
use Rattle.fx_blur.proofs.Quotient.{quotient_is}
use Rattle.fx_time.proofs.Shares.{share_within}
use Rattle.fx_time.proofs.sums.rounded_by.Goals as goal

pub overflow_mul-result : goal.overflow_mul-result
overflow_mul-result c =
    let is = share_within c.args.sum c.args.count c.args.part c.requires.some c.requires.few c.requires.part c.requires.within in
    omega (arith, is.1, is.0.high)

pub overflow_cast-result : goal.overflow_cast-result
overflow_cast-result c =
    let is = share_within c.args.sum c.args.count c.args.part c.requires.some c.requires.few c.requires.part c.requires.within in
    omega (arith, is.1, quotient_is 4294967296 (c.args.sum + c.args.count / 2) c.args.count c.args.part is.0)

pub returns : goal.returns
returns c =
    let is = share_within c.args.sum c.args.count c.args.part c.requires.some c.requires.few c.requires.part c.requires.within in
    quotient_is 4294967296 (c.args.sum + c.args.count / 2) c.args.count c.args.part is.0
