-- Means of blocks, from the sums of their columns.
use Rattle.std.specs.Prelude.{int_le, int_lt, ◌&&◌}
use Rattle.std.specs.Int.{int_min}
use Rattle.std.proofs.Common.{◌≡◌, ℕ, ◌+◌, ◌*◌, ◌<◌, ◌≤◌, ℤ, pos, ◌+ℤ◌, ◌-ℤ◌, ◌≤ℤ◌, ◌<ℤ◌, Bool, true, false, if◌then◌else◌, List, length, get_or, refl, ap, sym, subst, ◌∙◌, arith}
use Rattle.std.proofs.lemmas.Int.{ints}
use Rattle.geom_rect.specs.declared.rect.Rect.{Rect}
use Rattle.geom_rect.specs.Rect.{Has, IsWithin, has, positive_part, count_between, width_of}
use Rattle.geom_rect.proofs.Points.{Has-from_true, has-true, outside_from_within}
use Rattle.argb_pixel.specs.Pixel.{Argb, IsPremultiplied, clear}
use Rattle.argb_world.specs.Picture.{Picture, at, HasRow}
use Rattle.argb_world.proofs.Places.{positive_part_is}
use Rattle.comp_stack.specs.Layers.{plane_of}
use Rattle.fx_blur.specs.Sums.{total, column_sum, mean_of}
use Rattle.fx_blur.specs.Mosaic.{block_start, block_end, block_of, blocks_of, mosaic_at}
use Rattle.fx_blur.specs.Columns.{AreColumns, AreSummed, HasBlock, block_mean}
use Rattle.fx_blur.specs.SumLaws.{total_alike, premultiplied_more}
use Rattle.fx_blur.specs.Blocks.{IsAround, around, same_block, block_has, room_of_point, block_within_blocks}
use Rattle.fx_blur.specs.Laws.{mosaic_inside, mosaic_outside}
use Rattle.fx_blur.proofs.Adding.{AreWithin, sum_from, sum_within}
use Rattle.fx_blur.proofs.Moving.{most_within}

-- how many columns the block of a number has, and where they stand
pub record IsWide (size : ℕ) (low high start : ℤ) (count : ℕ) (x : ℤ) : Type 0 where
  pub some : 0 < count_between (block_start size low x) (block_end size low high x)
  pub few : count_between (block_start size low x) (block_end size low high x) ≤ size
  pub there : positive_part (block_start size low x -ℤ start) + count_between (block_start size low x) (block_end size low high x) ≤ count
  pub place : start +ℤ pos (positive_part (block_start size low x -ℤ start)) ≡ block_start size low x

-- how long a block is
pub block_long : (size : ℕ) (low high x : ℤ) → IsAround size low high x
    → (0 < count_between (block_start size low x) (block_end size low high x)) × (count_between (block_start size low x) (block_end size low high x) ≤ size)
block_long size low high x is =
    let wide = positive_part_is (block_end size low high x -ℤ block_start size low x) (omega (arith, ints, is.start, is.end)) in
    (omega (arith, ints, wide, is.start, is.end), omega (arith, ints, wide, is.long))

pub block_wide : (size : ℕ) (low high start : ℤ) (count : ℕ) (x : ℤ) → 0 < size → low ≤ℤ x → x <ℤ high → HasBlock size low high start count x → IsWide size low high start count x
block_wide size low high start count x some above below block =
    let is = around size low high x some above below in
    let wide = positive_part_is (block_end size low high x -ℤ block_start size low x) (omega (arith, ints, is.start, is.end)) in
    let far = positive_part_is (block_start size low x -ℤ start) (omega (arith, ints, block.0)) in
    let long = block_long size low high x is in
    record {
      some = long.0;
      few = long.1;
      there = omega (arith, ints, wide, far, block.1);
      place = omega (arith, ints, far);
    }

pub summed_within : (most size rows : ℕ) (columns : List Argb) → AreSummed most size rows columns → AreWithin 33554432 columns
summed_within most size rows columns are k l =
    premultiplied_more (most * rows) 33554432 (get_or columns k clear) (omega (arith, most_within most rows 1024 are.depth are.short)) (are.within k l)

-- the sum of a block
pub block_within : (most rows : ℕ) (columns : List Argb) (place wide : ℕ) (sum : Argb) → AreWithin (most * rows) columns → place + wide ≤ length columns
    → sum ≡ sum_from columns place wide → IsPremultiplied (most * (wide * rows)) sum
block_within most rows columns place wide sum within there is =
    premultiplied_more (most * rows * wide) (most * (wide * rows)) sum (omega arith)
    (subst (IsPremultiplied (most * rows * wide)) (sym is) (sum_within (most * rows) columns place wide within there))

-- whether a number is between the sides
between_true : (low high x : ℤ) → low ≤ℤ x → x <ℤ high → (int_le low x && int_lt x high) ≡ true
between_true low high x above below = by (int_le low x) refl (int_lt x high) refl
  where
    by : (a : Bool) → int_le low x ≡ a → (b : Bool) → int_lt x high ≡ b → (a && b) ≡ true
    by true e true f = refl
    by false e b f = absurd (omega (arith, ints, e, above))
    by true e false f = absurd (omega (arith, ints, f, below))

between_false : (low high x : ℤ) → ((low ≤ℤ x) × (x <ℤ high) → ⊥) → (int_le low x && int_lt x high) ≡ false
between_false low high x none = by (int_le low x) refl (int_lt x high) refl
  where
    by : (a : Bool) → int_le low x ≡ a → (b : Bool) → int_lt x high ≡ b → (a && b) ≡ false
    by true e true f = absurd (none (omega (arith, ints, e), omega (arith, ints, f)))
    by false e b f = refl
    by true e false f = refl

module _ (size : ℕ) (low high start : ℤ) (rows : ℕ) (columns : List Argb) where
  abbrev block_sum : ℤ → Argb
  block_sum x =
      mean_of (count_between (block_start size low x) (block_end size low high x) * rows)
      (sum_from columns (positive_part (block_start size low x -ℤ start)) (count_between (block_start size low x) (block_end size low high x)))

  pub mean_inside : (x : ℤ) → low ≤ℤ x → x <ℤ high → block_mean size low high start rows columns x ≡ block_sum x
  mean_inside x above below = ap (λ (b : Bool). if b then block_sum x else clear) (between_true low high x above below)

  pub mean_outside : (x : ℤ) → ((low ≤ℤ x) × (x <ℤ high) → ⊥) → block_mean size low high start rows columns x ≡ clear
  mean_outside x none = ap (λ (b : Bool). if b then block_sum x else clear) (between_false low high x none)

  -- all numbers of a block have its mean
  pub mean_alike : (x u : ℤ) → 0 < size → low ≤ℤ x → x <ℤ high → block_start size low x ≤ℤ u → u <ℤ block_end size low high x
      → block_mean size low high start rows columns x ≡ block_mean size low high start rows columns u
  mean_alike x u some above below first last =
      let is = around size low high x some above below in
      let begin = same_block size low high x u some above first last in
      mean_inside x above below
      ∙ ap (λ (s : ℤ). mean_of (count_between s (int_min (s +ℤ pos size) high) * rows) (sum_from columns (positive_part (s -ℤ start)) (count_between s (int_min (s +ℤ pos size) high)))) (sym begin)
      ∙ sym (mean_inside u (omega (arith, ints, is.from_low, first)) (omega (arith, ints, is.to_high, last)))

-- the mean of a block of a picture
pub mean_is_mosaic : (most size : ℕ) (p : Picture) (start y : ℤ) (columns : List Argb) → 0 < size → HasRow p.extent y
    → AreColumns most (at p) start (block_start size p.extent.top y) (count_between (block_start size p.extent.top y) (block_end size p.extent.top p.extent.bottom y)) columns
    → (u v : ℤ) → block_start size p.extent.top y ≤ℤ v → v <ℤ block_end size p.extent.top p.extent.bottom y
    → (Has p.extent u y → HasBlock size p.extent.left p.extent.right start (length columns) u)
    → block_mean size p.extent.left p.extent.right start (count_between (block_start size p.extent.top y) (block_end size p.extent.top p.extent.bottom y)) columns u
    ≡ mosaic_at size (plane_of p) u v
mean_is_mosaic most size p start y columns some height are u v first last there = by (has p.extent u v) refl
  where
    down : IsAround size p.extent.top p.extent.bottom y
    down = around size p.extent.top p.extent.bottom y some height.0 height.1

    begin : block_start size p.extent.top v ≡ block_start size p.extent.top y
    begin = same_block size p.extent.top p.extent.bottom y v some height.0 first last

    rows : ℕ
    rows = count_between (block_start size p.extent.top y) (block_end size p.extent.top p.extent.bottom y)

    wide : ℕ
    wide = count_between (block_start size p.extent.left u) (block_end size p.extent.left p.extent.right u)

    by : (b : Bool) → has p.extent u v ≡ b → block_mean size p.extent.left p.extent.right start rows columns u ≡ mosaic_at size (plane_of p) u v
    by true e =
        let h = Has-from_true p.extent u v e in
        let is = block_wide size p.extent.left p.extent.right start (length columns) u some h.0 h.1 (there (h.0, h.1, height.0, height.1)) in
        mean_inside size p.extent.left p.extent.right start rows columns u h.0 h.1
        ∙ ap (mean_of (wide * rows)) (total_alike (λ k. get_or columns (positive_part (block_start size p.extent.left u -ℤ start) + k) clear)
        (λ k. column_sum (at p) (block_start size p.extent.left u +ℤ pos k) (block_start size p.extent.top y) rows) wide λ k l.
        are.sums (positive_part (block_start size p.extent.left u -ℤ start) + k) (omega (arith, l, is.there))
        ∙ (let e : start +ℤ pos (positive_part (block_start size p.extent.left u -ℤ start) + k) ≡ block_start size p.extent.left u +ℤ pos k = omega (arith, ints, is.place) in
        ap (λ x. column_sum (at p) x (block_start size p.extent.top y) rows) e))
        ∙ ap (λ (t : ℤ). mean_of (wide * count_between t (int_min (t +ℤ pos size) p.extent.bottom))
        (total (λ k. column_sum (at p) (block_start size p.extent.left u +ℤ pos k) t (count_between t (int_min (t +ℤ pos size) p.extent.bottom))) wide)) (sym begin)
        ∙ sym (mosaic_inside size (plane_of p) u v e)
    by false e =
        mean_outside size p.extent.left p.extent.right start rows columns u (λ h.
        let same : has p.extent u v ≡ true = has-true p.extent u v (h.0, h.1, omega (arith, ints, down.from_low, first), omega (arith, ints, down.to_high, last)) in
        cc)
        ∙ sym (mosaic_outside size (plane_of p) u v e)

-- outside the extent's rows nothing is drawn
pub mosaic_off_row : (size : ℕ) (p : Picture) (u v : ℤ) → (HasRow p.extent v → ⊥) → mosaic_at size (plane_of p) u v ≡ clear
mosaic_off_row size p u v none = by (has p.extent u v) refl
  where
    by : (b : Bool) → has p.extent u v ≡ b → mosaic_at size (plane_of p) u v ≡ clear
    by true e = let h = Has-from_true p.extent u v e in absurd (none (h.2, h.3))
    by false e = mosaic_outside size (plane_of p) u v e

-- the columns of the blocks that meet a rectangle have the block of each of its points
pub blocks_hold : (size : ℕ) (extent rect all : Rect) (count : ℕ) (u v : ℤ) → 0 < size → all ≡ blocks_of size extent rect → count ≡ width_of all
    → Has rect u v → Has extent u v → HasBlock size extent.left extent.right all.left count u
blocks_hold size extent rect all count u v some is wide h k =
    let block = block_has size extent u v some k in
    let room = room_of_point (block_of size extent u v) u v block in
    let out = outside_from_within (block_of size extent u v) all room (subst (λ (r : Rect). IsWithin (block_of size extent u v) r) (sym is) (block_within_blocks size extent rect u v some h k)) in
    let far = positive_part_is (all.right -ℤ all.left) (omega (arith, ints, out.left, out.right, room.across)) in
    (out.left, omega (arith, ints, out.right, far, wide))
