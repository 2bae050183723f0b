use Rattle.std.proofs.Common.{◌≡◌, ◌*◌, ◌<◌, ℕ, pos, ◌-ℤ◌, w32, w64, ap, sym, subst, ◌∙◌, arith, rules, get_or}
use Rattle.std.specs.Int.RustNames.{FitsSigned}
use Rattle.std.proofs.lemmas.Int.{ints, to_z-of_z}
use Rattle.geom_rect.specs.declared.rect.Rect.{Rect}
use Rattle.geom_rect.specs.Rect.{width_of}
use Rattle.argb_pixel.specs.Pixel.{clear}
use Rattle.argb_world.specs.Picture.{at, row_of}
use Rattle.fx_blur.specs.Sums.{mean_of}
use Rattle.fx_blur.specs.Blur.{across}
use Rattle.fx_blur.proofs.Adding.{AreWithin, sum_from}
use Rattle.fx_blur.proofs.Moving.{column_within, columns_at}
use Rattle.fx_blur.proofs.Drawn.{blur_shown}
use Rattle.fx_blur.proofs.blur.blur_row.Goals as goal

pub write_means-requires : goal.write_means-requires
write_means-requires g c =
    let wide : c.across-across.result ≡ across c.args.radius = c.across-across.ensures in
    let within : AreWithin (g.row.MAX * c.across-across.result) c.args.columns.now =
    subst (λ n. AreWithin (g.row.MAX * n) c.args.columns.now) (sym wide)
    (column_within g.row.MAX (at c.args.input.now) (c.args.target.now.part.left -ℤ pos c.args.radius) (c.args.y -ℤ pos c.args.radius) (across c.args.radius) c.args.columns.now c.requires.sums) in
    (omega arith, (c.requires.depth, (omega (arith, wide), (omega (arith, wide, c.requires.near), (omega (arith, wide, c.requires.long, c.requires.pixels), within)))))

pub move_down-requires : goal.move_down-requires
move_down-requires g c =
    let y_fits : FitsSigned w32 c.args.y = c.ranges.y in
    let side_fits : FitsSigned w32 c.part.result.left = search rules in
    let left_fits : FitsSigned w64 c.number_below-left.result = search rules in
    let top_fits : FitsSigned w64 c.number_below-top.result = search rules in
    let low : c.number_below-left.result ≡ c.part.result.left -ℤ pos c.args.radius = simp to_z-of_z at c.number_below-left.ensures in
    let left : c.number_below-left.result ≡ c.args.target.now.part.left -ℤ pos c.args.radius = low ∙ ap (λ (r : Rect). r.left -ℤ pos c.args.radius) c.part.ensures.value in
    let top : c.number_below-top.result ≡ c.args.y -ℤ pos c.args.radius = simp to_z-of_z at c.number_below-top.ensures in
    let sums = columns_at g.row.MAX (at c.args.input.now) c.number_below-left.result (c.args.target.now.part.left -ℤ pos c.args.radius) c.number_below-top.result (c.args.y -ℤ pos c.args.radius)
    c.across-across.result (across c.args.radius) c.args.columns.now left top c.across-across.ensures c.requires.sums in (
      omega arith,
      (
        c.requires.depth,
        (
          (omega (arith, ints, low, c.requires.near), omega (arith, ints, low)),
          (
            (omega (arith, ints, top, c.requires.near), omega (arith, ints, top)),
            (omega (arith, c.across-across.ensures, c.requires.near), (c.requires.bytes, simp to_z-of_z sums)),
          ),
        ),
      ),
    )

pub returns-clause-drawn : goal.returns-clause-drawn
returns-clause-drawn g c =
    let y_fits : FitsSigned w32 c.args.y = c.ranges.y in
    let set : row_of c.set_row.new.self c.args.y ≡ c.write_means.new.into = simp to_z-of_z at c.set_row.ensures.row in
    let means : (i : ℕ) → i < width_of c.args.target.now.part → get_or c.write_means.new.into i clear ≡ mean_of (across c.args.radius * across c.args.radius) (sum_from c.args.columns.now i (across c.args.radius)) =
    λ i l. c.write_means.ensures i (omega (arith, l, c.requires.pixels)) ∙ ap (λ n. mean_of (n * n) (sum_from c.args.columns.now i n)) c.across-across.ensures in
    blur_shown g.row.MAX c.args.radius c.args.input.now c.set_row.new.self c.args.target.now.part c.args.y c.args.columns.now c.write_means.new.into
    c.set_row.ensures.frame.1 set c.requires.long c.requires.sums means

pub returns-clause-others : goal.returns-clause-others
returns-clause-others g c =
    let y_fits : FitsSigned w32 c.args.y = c.ranges.y in
    simp to_z-of_z at c.set_row.ensures.others
