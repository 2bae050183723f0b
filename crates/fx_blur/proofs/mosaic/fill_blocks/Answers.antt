use Rattle.std.proofs.Common.{◌≡◌, ℕ, ◌<◌, ℤ, pos, ◌+ℤ◌, ◌≤ℤ◌, ◌<ℤ◌, w32, w64, refl, sym, subst, ap, ◌∙◌, arith, rules, length, get_or}
use Rattle.std.specs.Int.RustNames.{FitsSigned}
use Rattle.std.proofs.lemmas.Int.{ints, to_z-of_z}
use Rattle.geom_rect.specs.declared.rect.Rect.{Rect}
use Rattle.geom_rect.specs.Rect.{Has, count_between}
use Rattle.argb_pixel.specs.Pixel.{clear}
use Rattle.argb_world.specs.Picture.{at}
use Rattle.argb_world.proofs.Rows.{column_above, column_below}
use Rattle.fx_blur.specs.Mosaic.{block_start, block_end}
use Rattle.fx_blur.specs.Columns.{AreColumns, HasBlock, block_mean}
use Rattle.fx_blur.specs.Blocks.{around}
use Rattle.fx_blur.proofs.Moving.{column_within, columns_at}
use Rattle.fx_blur.proofs.BlockMeans.{block_long, mean_is_mosaic}
use Rattle.fx_blur.proofs.mosaic.fill_blocks.Goals as goal

pub sum_rows-requires : goal.sum_rows-requires
sum_rows-requires g c =
    let y_fits : FitsSigned w32 c.args.y = c.ranges.y in
    let start_fits : FitsSigned w32 c.args.start = c.ranges.start in
    let start_wide : FitsSigned w64 c.args.start = search rules in
    let left_fits : FitsSigned w32 c.extent-extent.result.left = search rules in
    let right_fits : FitsSigned w32 c.extent-extent.result.right = search rules in
    let high_fits : FitsSigned w32 c.extent-extent.result.top = search rules in
    let low_fits : FitsSigned w32 c.extent-extent.result.bottom = search rules in
    let top_fits : FitsSigned w32 c.block_start-top.result = search rules in
    let top_wide : FitsSigned w64 c.block_start-top.result = search rules in
    let bottom_fits : FitsSigned w32 c.block_end-bottom.result = search rules in
    let begun : c.block_start-top.result ≡ block_start c.args.size c.extent-extent.result.top c.args.y = simp to_z-of_z at c.block_start-top.ensures in
    let top : c.block_start-top.result ≡ block_start c.args.size c.args.input.now.extent.top c.args.y = begun ∙ ap (λ (r : Rect). block_start c.args.size r.top c.args.y) c.extent-extent.ensures in
    let ended : c.block_end-bottom.result ≡ block_end c.args.size c.extent-extent.result.top c.extent-extent.result.bottom c.args.y = simp to_z-of_z at c.block_end-bottom.ensures in
    let bottom : c.block_end-bottom.result ≡ block_end c.args.size c.args.input.now.extent.top c.args.input.now.extent.bottom c.args.y = ended ∙ ap (λ (r : Rect). block_end c.args.size r.top r.bottom c.args.y) c.extent-extent.ensures in
    let is = around c.args.size c.args.input.now.extent.top c.args.input.now.extent.bottom c.args.y c.requires.some c.requires.inside.0 c.requires.inside.1 in
    let counted : c.count-rows.result ≡ count_between c.block_start-top.result c.block_end-bottom.result = simp to_z-of_z at c.count-rows.ensures in
    let rows : c.count-rows.result ≡ count_between (block_start c.args.size c.args.input.now.extent.top c.args.y) (block_end c.args.size c.args.input.now.extent.top c.args.input.now.extent.bottom c.args.y) =
    counted ∙ ap (λ (s : ℤ). count_between s c.block_end-bottom.result) top ∙ ap (count_between (block_start c.args.size c.args.input.now.extent.top c.args.y)) bottom in
    let long = block_long c.args.size c.args.input.now.extent.top c.args.input.now.extent.bottom c.args.y is in
    (omega arith, (c.requires.depth, ((omega (arith, ints), omega (arith, ints)), ((omega (arith, ints), omega (arith, ints)), (omega (arith, rows, long.1, c.requires.few), c.requires.bytes)))))

pub write_blocks-requires : goal.write_blocks-requires
write_blocks-requires g c =
    let y_fits : FitsSigned w32 c.args.y = c.ranges.y in
    let start_fits : FitsSigned w32 c.args.start = c.ranges.start in
    let start_wide : FitsSigned w64 c.args.start = search rules in
    let left_fits : FitsSigned w32 c.extent-extent.result.left = search rules in
    let right_fits : FitsSigned w32 c.extent-extent.result.right = search rules in
    let high_fits : FitsSigned w32 c.extent-extent.result.top = search rules in
    let low_fits : FitsSigned w32 c.extent-extent.result.bottom = search rules in
    let top_fits : FitsSigned w32 c.block_start-top.result = search rules in
    let top_wide : FitsSigned w64 c.block_start-top.result = search rules in
    let bottom_fits : FitsSigned w32 c.block_end-bottom.result = search rules in
    let begun : c.block_start-top.result ≡ block_start c.args.size c.extent-extent.result.top c.args.y = simp to_z-of_z at c.block_start-top.ensures in
    let top : c.block_start-top.result ≡ block_start c.args.size c.args.input.now.extent.top c.args.y = begun ∙ ap (λ (r : Rect). block_start c.args.size r.top c.args.y) c.extent-extent.ensures in
    let ended : c.block_end-bottom.result ≡ block_end c.args.size c.extent-extent.result.top c.extent-extent.result.bottom c.args.y = simp to_z-of_z at c.block_end-bottom.ensures in
    let bottom : c.block_end-bottom.result ≡ block_end c.args.size c.args.input.now.extent.top c.args.input.now.extent.bottom c.args.y = ended ∙ ap (λ (r : Rect). block_end c.args.size r.top r.bottom c.args.y) c.extent-extent.ensures in
    let is = around c.args.size c.args.input.now.extent.top c.args.input.now.extent.bottom c.args.y c.requires.some c.requires.inside.0 c.requires.inside.1 in
    let counted : c.count-rows.result ≡ count_between c.block_start-top.result c.block_end-bottom.result = simp to_z-of_z at c.count-rows.ensures in
    let rows : c.count-rows.result ≡ count_between (block_start c.args.size c.args.input.now.extent.top c.args.y) (block_end c.args.size c.args.input.now.extent.top c.args.input.now.extent.bottom c.args.y) =
    counted ∙ ap (λ (s : ℤ). count_between s c.block_end-bottom.result) top ∙ ap (count_between (block_start c.args.size c.args.input.now.extent.top c.args.y)) bottom in
    let long = block_long c.args.size c.args.input.now.extent.top c.args.input.now.extent.bottom c.args.y is in
    let sums : AreColumns g.row.MAX (at c.args.input.now) c.args.start c.block_start-top.result c.count-rows.result c.sum_rows.new.columns = simp to_z-of_z at c.sum_rows.ensures in
    let there : (u : ℤ) → c.args.part.left ≤ℤ u → u <ℤ c.args.part.right → c.extent-extent.result.left ≤ℤ u → u <ℤ c.extent-extent.result.right
    → HasBlock c.args.size c.extent-extent.result.left c.extent-extent.result.right c.args.start (length c.sum_rows.new.columns) u = λ u near far first last.
    let left = ap (λ (r : Rect). r.left) c.extent-extent.ensures in
    let right = ap (λ (r : Rect). r.right) c.extent-extent.ensures in
    subst (λ (r : Rect). HasBlock c.args.size r.left r.right c.args.start (length c.sum_rows.new.columns) u) (sym c.extent-extent.ensures)
    (subst (λ n. HasBlock c.args.size c.args.input.now.extent.left c.args.input.now.extent.right c.args.start n u) (sym c.sum_rows.auto.columns)
    (c.requires.there u (near, far, c.requires.height.0, c.requires.height.1) (omega (arith, ints, left, first), omega (arith, ints, right, last), c.requires.inside.0, c.requires.inside.1))) in (
      omega arith,
      (
        record {
          depth = c.requires.depth;
          some = c.requires.some;
          few = c.requires.few;
          any = omega (arith, rows, long.0);
          short = omega (arith, rows, long.1, c.requires.few);
          within = column_within g.row.MAX (at c.args.input.now) c.args.start c.block_start-top.result c.count-rows.result c.sum_rows.new.columns sums;
        },
        (c.requires.room, simp to_z-of_z there),
      ),
    )

pub returns-clause-low : goal.returns-clause-low
returns-clause-low g c =
    let y_fits : FitsSigned w32 c.args.y = c.ranges.y in
    let start_fits : FitsSigned w32 c.args.start = c.ranges.start in
    let start_wide : FitsSigned w64 c.args.start = search rules in
    let left_fits : FitsSigned w32 c.extent-extent.result.left = search rules in
    let right_fits : FitsSigned w32 c.extent-extent.result.right = search rules in
    let high_fits : FitsSigned w32 c.extent-extent.result.top = search rules in
    let low_fits : FitsSigned w32 c.extent-extent.result.bottom = search rules in
    let top_fits : FitsSigned w32 c.block_start-top.result = search rules in
    let top_wide : FitsSigned w64 c.block_start-top.result = search rules in
    let bottom_fits : FitsSigned w32 c.block_end-bottom.result = search rules in
    let begun : c.block_start-top.result ≡ block_start c.args.size c.extent-extent.result.top c.args.y = simp to_z-of_z at c.block_start-top.ensures in
    let top : c.block_start-top.result ≡ block_start c.args.size c.args.input.now.extent.top c.args.y = begun ∙ ap (λ (r : Rect). block_start c.args.size r.top c.args.y) c.extent-extent.ensures in
    let ended : c.block_end-bottom.result ≡ block_end c.args.size c.extent-extent.result.top c.extent-extent.result.bottom c.args.y = simp to_z-of_z at c.block_end-bottom.ensures in
    let bottom : c.block_end-bottom.result ≡ block_end c.args.size c.args.input.now.extent.top c.args.input.now.extent.bottom c.args.y = ended ∙ ap (λ (r : Rect). block_end c.args.size r.top r.bottom c.args.y) c.extent-extent.ensures in
    let is = around c.args.size c.args.input.now.extent.top c.args.input.now.extent.bottom c.args.y c.requires.some c.requires.inside.0 c.requires.inside.1 in
    omega (arith, ints, top, is.start)

pub returns-clause-high : goal.returns-clause-high
returns-clause-high g c =
    let y_fits : FitsSigned w32 c.args.y = c.ranges.y in
    let start_fits : FitsSigned w32 c.args.start = c.ranges.start in
    let start_wide : FitsSigned w64 c.args.start = search rules in
    let left_fits : FitsSigned w32 c.extent-extent.result.left = search rules in
    let right_fits : FitsSigned w32 c.extent-extent.result.right = search rules in
    let high_fits : FitsSigned w32 c.extent-extent.result.top = search rules in
    let low_fits : FitsSigned w32 c.extent-extent.result.bottom = search rules in
    let top_fits : FitsSigned w32 c.block_start-top.result = search rules in
    let top_wide : FitsSigned w64 c.block_start-top.result = search rules in
    let bottom_fits : FitsSigned w32 c.block_end-bottom.result = search rules in
    let begun : c.block_start-top.result ≡ block_start c.args.size c.extent-extent.result.top c.args.y = simp to_z-of_z at c.block_start-top.ensures in
    let top : c.block_start-top.result ≡ block_start c.args.size c.args.input.now.extent.top c.args.y = begun ∙ ap (λ (r : Rect). block_start c.args.size r.top c.args.y) c.extent-extent.ensures in
    let ended : c.block_end-bottom.result ≡ block_end c.args.size c.extent-extent.result.top c.extent-extent.result.bottom c.args.y = simp to_z-of_z at c.block_end-bottom.ensures in
    let bottom : c.block_end-bottom.result ≡ block_end c.args.size c.args.input.now.extent.top c.args.input.now.extent.bottom c.args.y = ended ∙ ap (λ (r : Rect). block_end c.args.size r.top r.bottom c.args.y) c.extent-extent.ensures in
    let is = around c.args.size c.args.input.now.extent.top c.args.input.now.extent.bottom c.args.y c.requires.some c.requires.inside.0 c.requires.inside.1 in
    omega (arith, ints, bottom, is.end)

pub returns-clause-serves : goal.returns-clause-serves
returns-clause-serves g c =
    let y_fits : FitsSigned w32 c.args.y = c.ranges.y in
    let start_fits : FitsSigned w32 c.args.start = c.ranges.start in
    let start_wide : FitsSigned w64 c.args.start = search rules in
    let left_fits : FitsSigned w32 c.extent-extent.result.left = search rules in
    let right_fits : FitsSigned w32 c.extent-extent.result.right = search rules in
    let high_fits : FitsSigned w32 c.extent-extent.result.top = search rules in
    let low_fits : FitsSigned w32 c.extent-extent.result.bottom = search rules in
    let top_fits : FitsSigned w32 c.block_start-top.result = search rules in
    let top_wide : FitsSigned w64 c.block_start-top.result = search rules in
    let bottom_fits : FitsSigned w32 c.block_end-bottom.result = search rules in
    let begun : c.block_start-top.result ≡ block_start c.args.size c.extent-extent.result.top c.args.y = simp to_z-of_z at c.block_start-top.ensures in
    let top : c.block_start-top.result ≡ block_start c.args.size c.args.input.now.extent.top c.args.y = begun ∙ ap (λ (r : Rect). block_start c.args.size r.top c.args.y) c.extent-extent.ensures in
    let ended : c.block_end-bottom.result ≡ block_end c.args.size c.extent-extent.result.top c.extent-extent.result.bottom c.args.y = simp to_z-of_z at c.block_end-bottom.ensures in
    let bottom : c.block_end-bottom.result ≡ block_end c.args.size c.args.input.now.extent.top c.args.input.now.extent.bottom c.args.y = ended ∙ ap (λ (r : Rect). block_end c.args.size r.top r.bottom c.args.y) c.extent-extent.ensures in
    let is = around c.args.size c.args.input.now.extent.top c.args.input.now.extent.bottom c.args.y c.requires.some c.requires.inside.0 c.requires.inside.1 in
    let counted : c.count-rows.result ≡ count_between c.block_start-top.result c.block_end-bottom.result = simp to_z-of_z at c.count-rows.ensures in
    let rows : c.count-rows.result ≡ count_between (block_start c.args.size c.args.input.now.extent.top c.args.y) (block_end c.args.size c.args.input.now.extent.top c.args.input.now.extent.bottom c.args.y) =
    counted ∙ ap (λ (s : ℤ). count_between s c.block_end-bottom.result) top ∙ ap (count_between (block_start c.args.size c.args.input.now.extent.top c.args.y)) bottom in
    let long = block_long c.args.size c.args.input.now.extent.top c.args.input.now.extent.bottom c.args.y is in
    let sums : AreColumns g.row.MAX (at c.args.input.now) c.args.start c.block_start-top.result c.count-rows.result c.sum_rows.new.columns = simp to_z-of_z at c.sum_rows.ensures in
    let placed = columns_at g.row.MAX (at c.args.input.now) c.args.start c.args.start (block_start c.args.size c.args.input.now.extent.top c.args.y) c.block_start-top.result
    (count_between (block_start c.args.size c.args.input.now.extent.top c.args.y) (block_end c.args.size c.args.input.now.extent.top c.args.input.now.extent.bottom c.args.y)) c.count-rows.result c.sum_rows.new.columns
    refl (sym top) (sym rows) sums in
    let means : (i : ℕ) → i < length c.args.into.now → get_or c.write_blocks.new.into i clear ≡ block_mean c.args.size c.extent-extent.result.left c.extent-extent.result.right c.args.start c.count-rows.result c.sum_rows.new.columns (c.args.part.left +ℤ pos i) =
    simp to_z-of_z at c.write_blocks.ensures in
    λ v first last i l.
    let here : i < length c.args.into.now = omega (arith, l, c.write_blocks.auto.into) in
    let column : Has c.args.part (c.args.part.left +ℤ pos i) c.args.y =
    (column_above c.args.part.left i, column_below c.args.part.left c.args.part.right i (omega (arith, here, c.requires.room)), c.requires.height.0, c.requires.height.1) in
    means i here
    ∙ ap (λ (r : Rect). block_mean c.args.size r.left r.right c.args.start c.count-rows.result c.sum_rows.new.columns (c.args.part.left +ℤ pos i)) c.extent-extent.ensures
    ∙ ap (λ n. block_mean c.args.size c.args.input.now.extent.left c.args.input.now.extent.right c.args.start n c.sum_rows.new.columns (c.args.part.left +ℤ pos i)) rows
    ∙ mean_is_mosaic g.row.MAX c.args.size c.args.input.now c.args.start c.args.y c.sum_rows.new.columns c.requires.some c.requires.inside placed (c.args.part.left +ℤ pos i) v
    (omega (arith, ints, top, first)) (omega (arith, ints, bottom, last))
    (λ h. subst (λ n. HasBlock c.args.size c.args.input.now.extent.left c.args.input.now.extent.right c.args.start n (c.args.part.left +ℤ pos i)) (sym c.sum_rows.auto.columns) (c.requires.there (c.args.part.left +ℤ pos i) column h))
