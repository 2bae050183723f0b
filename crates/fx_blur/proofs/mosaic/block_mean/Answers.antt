use Rattle.std.proofs.Common.{◌≡◌, ◌*◌, ◌<◌, ◌≤◌, ◌-ℤ◌, w32, ap, sym, ◌∙◌, arith, rules, length}
use Rattle.std.specs.Int.RustNames.{FitsSigned}
use Rattle.std.proofs.lemmas.Int.{to_z-of_z}
use Rattle.std.proofs.lemmas.Nat.{mul-le}
use Rattle.std.proofs.Math.Nat.{mul-pos}
use Rattle.geom_rect.specs.Rect.{count_between, positive_part}
use Rattle.fx_blur.specs.Sums.{mean_of}
use Rattle.fx_blur.specs.Mosaic.{block_start, block_end}
use Rattle.fx_blur.proofs.Adding.{sum_from}
use Rattle.fx_blur.proofs.BlockMeans.{block_wide, summed_within, block_within, mean_inside}
use Rattle.fx_blur.proofs.mosaic.block_mean.Goals as goal

pub sum_columns-sum-requires-clause-few : goal.sum_columns-sum-requires-clause-few
sum_columns-sum-requires-clause-few g c =
    let x_fits : FitsSigned w32 c.args.x = c.ranges.x in
    let start_fits : FitsSigned w32 c.args.start = c.ranges.start in
    let low_fits : FitsSigned w32 c.args.sides.low = search rules in
    let high_fits : FitsSigned w32 c.args.sides.high = search rules in
    let place : c.block_columns-place.result.0 ≡ positive_part (block_start c.args.size c.args.sides.low c.args.x -ℤ c.args.start) = simp to_z-of_z at c.block_columns-place.ensures.place in
    let wide : c.block_columns-place.result.1 ≡ count_between (block_start c.args.size c.args.sides.low c.args.x) (block_end c.args.size c.args.sides.low c.args.sides.high c.args.x) = simp to_z-of_z at c.block_columns-place.ensures.wide in
    let is = block_wide c.args.size c.args.sides.low c.args.sides.high c.args.start (length c.args.columns.now) c.args.x c.requires.summed.some c.requires.low c.requires.high c.requires.there in
    omega (arith, wide, is.few, c.requires.summed.few)

pub sum_columns-sum-requires-clause-there : goal.sum_columns-sum-requires-clause-there
sum_columns-sum-requires-clause-there g c =
    let x_fits : FitsSigned w32 c.args.x = c.ranges.x in
    let start_fits : FitsSigned w32 c.args.start = c.ranges.start in
    let low_fits : FitsSigned w32 c.args.sides.low = search rules in
    let high_fits : FitsSigned w32 c.args.sides.high = search rules in
    let place : c.block_columns-place.result.0 ≡ positive_part (block_start c.args.size c.args.sides.low c.args.x -ℤ c.args.start) = simp to_z-of_z at c.block_columns-place.ensures.place in
    let wide : c.block_columns-place.result.1 ≡ count_between (block_start c.args.size c.args.sides.low c.args.x) (block_end c.args.size c.args.sides.low c.args.sides.high c.args.x) = simp to_z-of_z at c.block_columns-place.ensures.wide in
    let is = block_wide c.args.size c.args.sides.low c.args.sides.high c.args.start (length c.args.columns.now) c.args.x c.requires.summed.some c.requires.low c.requires.high c.requires.there in
    omega (arith, place, wide, is.there)

pub sum_columns-sum-requires-clause-within : goal.sum_columns-sum-requires-clause-within
sum_columns-sum-requires-clause-within g c = summed_within g.row.MAX c.args.size c.args.rows c.args.columns.now c.requires.summed

pub mean-requires : goal.mean-requires
mean-requires g c =
    let x_fits : FitsSigned w32 c.args.x = c.ranges.x in
    let start_fits : FitsSigned w32 c.args.start = c.ranges.start in
    let low_fits : FitsSigned w32 c.args.sides.low = search rules in
    let high_fits : FitsSigned w32 c.args.sides.high = search rules in
    let place : c.block_columns-place.result.0 ≡ positive_part (block_start c.args.size c.args.sides.low c.args.x -ℤ c.args.start) = simp to_z-of_z at c.block_columns-place.ensures.place in
    let wide : c.block_columns-place.result.1 ≡ count_between (block_start c.args.size c.args.sides.low c.args.x) (block_end c.args.size c.args.sides.low c.args.sides.high c.args.x) = simp to_z-of_z at c.block_columns-place.ensures.wide in
    let is = block_wide c.args.size c.args.sides.low c.args.sides.high c.args.start (length c.args.columns.now) c.args.x c.requires.summed.some c.requires.low c.requires.high c.requires.there in
    let some : 0 < c.block_columns-place.result.1 = omega (arith, wide, is.some) in
    let few : c.block_columns-place.result.1 * c.args.rows ≤ 1024 * 1024 = mul-le c.block_columns-place.result.1 c.args.rows 1024 1024 (omega (arith, wide, is.few, c.requires.summed.few)) c.requires.summed.short in (
      omega arith,
      (
        c.requires.summed.depth,
        (
          mul-pos some c.requires.summed.any,
          (
            omega (arith, few),
            block_within g.row.MAX c.args.rows c.args.columns.now c.block_columns-place.result.0 c.block_columns-place.result.1 c.sum_columns-sum.result c.requires.summed.within (omega (arith, place, wide, is.there)) c.sum_columns-sum.ensures,
          ),
        ),
      ),
    )

pub returns : goal.returns
returns g c =
    let x_fits : FitsSigned w32 c.args.x = c.ranges.x in
    let start_fits : FitsSigned w32 c.args.start = c.ranges.start in
    let low_fits : FitsSigned w32 c.args.sides.low = search rules in
    let high_fits : FitsSigned w32 c.args.sides.high = search rules in
    let place : c.block_columns-place.result.0 ≡ positive_part (block_start c.args.size c.args.sides.low c.args.x -ℤ c.args.start) = simp to_z-of_z at c.block_columns-place.ensures.place in
    let wide : c.block_columns-place.result.1 ≡ count_between (block_start c.args.size c.args.sides.low c.args.x) (block_end c.args.size c.args.sides.low c.args.sides.high c.args.x) = simp to_z-of_z at c.block_columns-place.ensures.wide in
    c.mean.ensures ∙ ap (mean_of (c.block_columns-place.result.1 * c.args.rows)) c.sum_columns-sum.ensures
    ∙ ap (λ p. mean_of (c.block_columns-place.result.1 * c.args.rows) (sum_from c.args.columns.now p c.block_columns-place.result.1)) place
    ∙ ap (λ w. mean_of (w * c.args.rows) (sum_from c.args.columns.now (positive_part (block_start c.args.size c.args.sides.low c.args.x -ℤ c.args.start)) w)) wide
    ∙ sym (mean_inside c.args.size c.args.sides.low c.args.sides.high c.args.start c.args.rows c.args.columns.now c.args.x c.requires.low c.requires.high)
