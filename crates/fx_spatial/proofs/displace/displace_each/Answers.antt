use Rattle.std.proofs.Common.{rules, ◌∙◌, refl, w32, arith}
use Rattle.std.specs.Int.RustNames.{FitsSigned}
use Rattle.std.proofs.lemmas.Int.{to_z-of_z}
use Rattle.std.proofs.lemmas.List.{get_or_default}
use Rattle.argb_pixel.specs.Pixel.{clear}
use Rattle.fx_spatial.proofs.Drawn.{displaced_more, displaced_all}
use Rattle.fx_spatial.proofs.displace.displace_each.Goals as goal

pub points-preserved : goal.points-preserved
points-preserved g c =
    let rule = c.args.rule.now in
    let x_fits : FitsSigned w32 c.args.x = c.ranges.x in
    let y_fits : FitsSigned w32 c.args.y = c.ranges.y in
    let column_fits : FitsSigned w32 c.column.result = search rules in
    let drawn = simp to_z-of_z at c.displace_point.ensures in
    let place = simp to_z-of_z at c.column.ensures in
    let front = simp to_z-of_z at c.points.invariant.row in
    record {
      row = simp to_z-of_z (displaced_more g.row.MAX rule.max_x rule.max_y rule.input.now rule.map.now c.args.x c.args.y c.args.into.now c.points.into c.points.k c.column.result c.index-into-k.result c.displace_point.result
          c.requires.map c.points-test.true front (c.index-into-k.is ∙ get_or_default c.points.into c.points.k c.index-into-k.result clear (omega (arith, c.points-test.true, c.points.auto.into))) place drawn);
      end = refl;
    }

pub returns : goal.returns
returns g c =
    let rule = c.args.rule.now in
    let x_fits : FitsSigned w32 c.args.x = c.ranges.x in
    let y_fits : FitsSigned w32 c.args.y = c.ranges.y in
    displaced_all g.row.MAX rule.max_x rule.max_y rule.input.now rule.map.now c.args.x c.args.y c.args.into.now c.points.into c.points.k c.points-test.false (simp to_z-of_z at c.points.invariant.row)
