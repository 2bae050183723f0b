use Rattle.std.proofs.Common.{◌≡◌, ℕ, ◌<◌, pos, ◌+ℤ◌, length, get_or, arith, ◌∙◌, w32}
use Rattle.std.specs.Int.RustNames.{FitsSigned}
use Rattle.std.proofs.lemmas.Int.{to_z-of_z}
use Rattle.argb_pixel.specs.Pixel.{clear}
use Rattle.argb_pixel.specs.Packed.{pixels_of}
use Rattle.effect_api.specs.Planes.{plane_at}
use Rattle.fx_blur.specs.Sums.{total}
use Rattle.fx_time.specs.Worlds.{planes_in}
use Rattle.fx_time.proofs.Summed.{mean_row}
use Rattle.fx_time.proofs.mean.TimeMeansDrawRowSums.draw_row.Goals as goal

pub returns-clause-pixels : goal.returns-clause-pixels
returns-clause-pixels g c =
    let s = c.args.self.now in
    let x_fits : FitsSigned w32 c.args.x = c.ranges.x in
    let y_fits : FitsSigned w32 c.args.y = c.ranges.y in
    let sums : (k : ℕ) → k < length c.args.spare.now → get_or c.sum_rows.new.sums k clear ≡ total (λ i. (plane_at (planes_in s.worlds.now) i).at (c.args.x +ℤ pos k) c.args.y) (length s.worlds.now) = simp to_z-of_z at c.sum_rows.ensures.sums in
    mean_row g.row.MAX (planes_in s.worlds.now) c.args.x c.args.y (length s.worlds.now) c.args._count c.sum_rows.new.sums (pixels_of g.row.MAX c.write_means.new.into)
    (c.sum_rows.auto.sums ∙ c.requires.more) (λ k l. sums k (omega (arith, l, c.sum_rows.auto.sums))) c.write_means.ensures.pixels
