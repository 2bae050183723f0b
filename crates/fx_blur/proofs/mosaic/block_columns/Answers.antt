use Rattle.std.proofs.Common.{◌≡◌, ℤ, w32, ap, ◌∙◌, rules}
use Rattle.std.specs.Int.RustNames.{FitsSigned}
use Rattle.std.proofs.lemmas.Int.{to_z-of_z}
use Rattle.geom_rect.specs.Rect.{count_between}
use Rattle.fx_blur.specs.Mosaic.{block_start, block_end}
use Rattle.fx_blur.proofs.mosaic.block_columns.Goals as goal

pub returns-clause-place : goal.returns-clause-place
returns-clause-place c =
    let x_fits : FitsSigned w32 c.args.x = c.ranges.x in
    let start_fits : FitsSigned w32 c.args.start = c.ranges.start in
    let low_fits : FitsSigned w32 c.args.sides.low = search rules in
    let left_fits : FitsSigned w32 c.block_start-left.result = search rules in
    let left : c.block_start-left.result ≡ block_start c.args.size c.args.sides.low c.args.x = simp to_z-of_z at c.block_start-left.ensures in
    let counted : c.count.result ≡ count_between c.args.start c.block_start-left.result = simp to_z-of_z at c.count.ensures in
    counted ∙ ap (count_between c.args.start) left

pub returns-clause-wide : goal.returns-clause-wide
returns-clause-wide c =
    let x_fits : FitsSigned w32 c.args.x = c.ranges.x in
    let low_fits : FitsSigned w32 c.args.sides.low = search rules in
    let high_fits : FitsSigned w32 c.args.sides.high = search rules in
    let left_fits : FitsSigned w32 c.block_start-left.result = search rules in
    let right_fits : FitsSigned w32 c.block_end-right.result = search rules in
    let left : c.block_start-left.result ≡ block_start c.args.size c.args.sides.low c.args.x = simp to_z-of_z at c.block_start-left.ensures in
    let right : c.block_end-right.result ≡ block_end c.args.size c.args.sides.low c.args.sides.high c.args.x = simp to_z-of_z at c.block_end-right.ensures in
    let counted : c.count-2.result ≡ count_between c.block_start-left.result c.block_end-right.result = simp to_z-of_z at c.count-2.ensures in
    counted ∙ ap (λ (s : ℤ). count_between s c.block_end-right.result) left ∙ ap (count_between (block_start c.args.size c.args.sides.low c.args.x)) right
