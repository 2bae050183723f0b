use Rattle.std.proofs.Common.{◌≡◌, ◌≤ℤ◌, ◌<ℤ◌, w32, ap, sym, ◌∙◌, arith, rules}
use Rattle.std.specs.Int.RustNames.{FitsSigned}
use Rattle.std.proofs.lemmas.Int.{ints, to_z-of_z}
use Rattle.fx_blur.specs.Mosaic.{block_start, block_end}
use Rattle.fx_blur.specs.Columns.{block_mean}
use Rattle.fx_blur.specs.Blocks.{around}
use Rattle.fx_blur.proofs.BlockMeans.{mean_alike, mean_outside}
use Rattle.fx_blur.proofs.mosaic.stripe_at.Goals as goal

pub block_mean-requires : goal.block_mean-requires
block_mean-requires g c =
    let x_fits : FitsSigned w32 c.args.x = c.ranges.x in
    let start_fits : FitsSigned w32 c.args.start = c.ranges.start in
    let low_fits : FitsSigned w32 c.args.sides.low = search rules in
    let high_fits : FitsSigned w32 c.args.sides.high = search rules in
    let inside : (c.args.sides.low ≤ℤ c.args.x) × (c.args.x <ℤ c.args.sides.high) = (simp to_z-of_z at c.has.ensures).0 c.if-has.true in
    let block = c.requires.there inside.0 inside.1 in
    (omega arith, (c.requires.summed, (simp to_z-of_z inside.0, (simp to_z-of_z inside.1, simp to_z-of_z block))))

pub returns-then-has-clause-low : goal.returns-then-has-clause-low
returns-then-has-clause-low g c =
    let x_fits : FitsSigned w32 c.args.x = c.ranges.x in
    let start_fits : FitsSigned w32 c.args.start = c.ranges.start in
    let low_fits : FitsSigned w32 c.args.sides.low = search rules in
    let high_fits : FitsSigned w32 c.args.sides.high = search rules in
    let inside : (c.args.sides.low ≤ℤ c.args.x) × (c.args.x <ℤ c.args.sides.high) = (simp to_z-of_z at c.has.ensures).0 c.if-has.true in
    let is = around c.args.size c.args.sides.low c.args.sides.high c.args.x c.requires.summed.some inside.0 inside.1 in
    let left : c.block_start.result ≡ block_start c.args.size c.args.sides.low c.args.x = simp to_z-of_z at c.block_start.ensures in
    let right : c.block_end.result ≡ block_end c.args.size c.args.sides.low c.args.sides.high c.args.x = simp to_z-of_z at c.block_end.ensures in
    let left_fits : FitsSigned w32 c.block_start.result = search rules in
    let right_fits : FitsSigned w32 c.block_end.result = search rules in
    omega (arith, ints, left, is.start)

pub returns-then-has-clause-high : goal.returns-then-has-clause-high
returns-then-has-clause-high g c =
    let x_fits : FitsSigned w32 c.args.x = c.ranges.x in
    let start_fits : FitsSigned w32 c.args.start = c.ranges.start in
    let low_fits : FitsSigned w32 c.args.sides.low = search rules in
    let high_fits : FitsSigned w32 c.args.sides.high = search rules in
    let inside : (c.args.sides.low ≤ℤ c.args.x) × (c.args.x <ℤ c.args.sides.high) = (simp to_z-of_z at c.has.ensures).0 c.if-has.true in
    let is = around c.args.size c.args.sides.low c.args.sides.high c.args.x c.requires.summed.some inside.0 inside.1 in
    let left : c.block_start.result ≡ block_start c.args.size c.args.sides.low c.args.x = simp to_z-of_z at c.block_start.ensures in
    let right : c.block_end.result ≡ block_end c.args.size c.args.sides.low c.args.sides.high c.args.x = simp to_z-of_z at c.block_end.ensures in
    let left_fits : FitsSigned w32 c.block_start.result = search rules in
    let right_fits : FitsSigned w32 c.block_end.result = search rules in
    omega (arith, ints, right, is.end)

pub returns-then-has-clause-pixel : goal.returns-then-has-clause-pixel
returns-then-has-clause-pixel g c =
    let x_fits : FitsSigned w32 c.args.x = c.ranges.x in
    let start_fits : FitsSigned w32 c.args.start = c.ranges.start in
    let low_fits : FitsSigned w32 c.args.sides.low = search rules in
    let high_fits : FitsSigned w32 c.args.sides.high = search rules in
    let inside : (c.args.sides.low ≤ℤ c.args.x) × (c.args.x <ℤ c.args.sides.high) = (simp to_z-of_z at c.has.ensures).0 c.if-has.true in
    let is = around c.args.size c.args.sides.low c.args.sides.high c.args.x c.requires.summed.some inside.0 inside.1 in
    let left : c.block_start.result ≡ block_start c.args.size c.args.sides.low c.args.x = simp to_z-of_z at c.block_start.ensures in
    let right : c.block_end.result ≡ block_end c.args.size c.args.sides.low c.args.sides.high c.args.x = simp to_z-of_z at c.block_end.ensures in
    let left_fits : FitsSigned w32 c.block_start.result = search rules in
    let right_fits : FitsSigned w32 c.block_end.result = search rules in
    let pixel : c.block_mean.result ≡ block_mean c.args.size c.args.sides.low c.args.sides.high c.args.start c.args.rows c.args.columns.now c.args.x = simp to_z-of_z at c.block_mean.ensures in
    λ u first last. pixel ∙ mean_alike c.args.size c.args.sides.low c.args.sides.high c.args.start c.args.rows c.args.columns.now c.args.x u c.requires.summed.some inside.0 inside.1 (omega (arith, ints, left, first)) (omega (arith, ints, right, last))

pub returns-else-has-clause-pixel : goal.returns-else-has-clause-pixel
returns-else-has-clause-pixel g c =
    let x_fits : FitsSigned w32 c.args.x = c.ranges.x in
    let start_fits : FitsSigned w32 c.args.start = c.ranges.start in
    let low_fits : FitsSigned w32 c.args.sides.low = search rules in
    let high_fits : FitsSigned w32 c.args.sides.high = search rules in
    let outside : (c.args.sides.low ≤ℤ c.args.x) × (c.args.x <ℤ c.args.sides.high) → ⊥ = λ h. absurd (let there = (simp to_z-of_z at c.has.ensures).1 h in cc) in
    λ u first last.
    let same : c.args.x ≡ u = omega (arith, ints, first, last, c.requires.right) in
    c.CLEAR.ensures ∙ sym (mean_outside c.args.size c.args.sides.low c.args.sides.high c.args.start c.args.rows c.args.columns.now c.args.x outside) ∙ ap (block_mean c.args.size c.args.sides.low c.args.sides.high c.args.start c.args.rows c.args.columns.now) same
