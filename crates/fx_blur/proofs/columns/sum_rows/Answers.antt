use Rattle.std.proofs.Common.{◌≡◌, w64, subst, arith}
use Rattle.std.specs.Int.RustNames.{FitsSigned}
use Rattle.std.proofs.lemmas.Int.{to_z-of_z}
use Rattle.argb_world.specs.Picture.{at}
use Rattle.fx_blur.specs.Columns.{AreColumns}
use Rattle.fx_blur.proofs.columns.sum_rows.Goals as goal

pub returns : goal.returns
returns g c =
    let x_fits : FitsSigned w64 c.args.x = c.ranges.x in
    let y_fits : FitsSigned w64 c.args.y = c.ranges.y in
    let all : c.loop-j.j ≡ c.args.rows = omega (arith, c.loop-j.auto.j-end, c.loop-j-test.false) in
    subst (λ n. AreColumns g.row.MAX (at c.args.from.now) c.args.x c.args.y n c.loop-j.columns) all (simp to_z-of_z at c.loop-j.invariant.sums)
