-- Blocks: where they begin and end, and which cover a rectangle.
use Rattle.std.specs.Int.{int_min, int_max}
use Rattle.std.proofs.Common.{◌≡◌, ℕ, ◌+◌, ◌*◌, ◌/◌, ◌<◌, ◌≤◌, ℤ, pos, ◌+ℤ◌, ◌-ℤ◌, ◌≤ℤ◌, ◌<ℤ◌, Bool, true, false, if◌then◌else◌, refl, ap, sym, subst, ◌∙◌, arith}
use Rattle.std.proofs.Math.Nat.{div-mul-le_self, lt-div-mul-add, mul-le-mul_left}
use Rattle.std.proofs.lemmas.Nat.{div-mul-add}
use Rattle.std.proofs.lemmas.Int.{ints, clamps}
use Rattle.geom_rect.specs.declared.rect.Rect.{Rect}
use Rattle.geom_rect.specs.Rect.{Has, IsWithin, is_empty, positive_part, meet_of, origin}
use Rattle.geom_rect.proofs.Points.{HasRoom, room_from_false, no_point_from_true, near_corner, same_rect, hull-within, empty_within}
use Rattle.argb_pixel.proofs.Rounded.{div_mono}
use Rattle.argb_world.proofs.Places.{positive_part_is}
use Rattle.fx_blur.specs.Mosaic.{block_start, block_end, block_of, blocks_between, blocks_of}

-- a block along one axis: x is in it, and it lies within the sides
pub record IsAround (size : ℕ) (low high x : ℤ) : Type 0 where
  pub from_low : low ≤ℤ block_start size low x
  pub start : block_start size low x ≤ℤ x
  pub end : x <ℤ block_end size low high x
  pub to_high : block_end size low high x ≤ℤ high
  pub long : block_end size low high x ≤ℤ (block_start size low x +ℤ pos size)

pub around : (size : ℕ) (low high x : ℤ) → 0 < size → low ≤ℤ x → x <ℤ high → IsAround size low high x
around size low high x some above below =
    let far = positive_part_is (x -ℤ low) (omega (arith, ints, above)) in
    let front = div-mul-le_self (positive_part (x -ℤ low)) size in
    let behind : positive_part (x -ℤ low) < positive_part (x -ℤ low) / size * size + size = lt-div-mul-add some in
    record {
      from_low = omega (arith, ints);
      start = omega (arith, ints, far, front);
      end = omega (arith, ints, clamps, far, behind, below);
      to_high = omega (arith, ints, clamps);
      long = omega (arith, ints, clamps);
    }

-- every number of a block has that block
pub same_block : (size : ℕ) (low high x u : ℤ) → 0 < size → low ≤ℤ x → block_start size low x ≤ℤ u → u <ℤ block_end size low high x
    → block_start size low u ≡ block_start size low x
same_block size low high x u some above start end =
    let begin : ℕ = positive_part (x -ℤ low) / size * size in
    let rest : ℕ = positive_part (u -ℤ (low +ℤ pos begin)) in
    let rest_is = positive_part_is (u -ℤ (low +ℤ pos begin)) (omega (arith, ints, start)) in
    let small : rest < size = omega (arith, ints, clamps, rest_is, end) in
    let far = positive_part_is (u -ℤ low) (omega (arith, ints, start)) in
    let apart : positive_part (u -ℤ low) ≡ positive_part (x -ℤ low) / size * size + rest = omega (arith, ints, far, rest_is) in
    let quotient : positive_part (u -ℤ low) / size ≡ positive_part (x -ℤ low) / size =
    ap (λ (n : ℕ). n / size) apart ∙ div-mul-add (positive_part (x -ℤ low) / size) size rest small in
    ap (λ (n : ℕ). low +ℤ pos (n * size)) quotient

-- blocks begin further on for numbers further on
pub start_rises : (size : ℕ) (low x u : ℤ) → 0 < size → low ≤ℤ x → x ≤ℤ u → block_start size low x ≤ℤ block_start size low u
start_rises size low x u some above rise =
    let here = positive_part_is (x -ℤ low) (omega (arith, ints, above)) in
    let there = positive_part_is (u -ℤ low) (omega (arith, ints, above, rise)) in
    let le : positive_part (x -ℤ low) ≤ positive_part (u -ℤ low) = omega (arith, ints, here, there, rise) in
    let more = mul-le-mul_left size (div_mono (positive_part (x -ℤ low)) (positive_part (u -ℤ low)) size some le) in
    omega (arith, ints, more)

pub end_rises : (size : ℕ) (low high x u : ℤ) → 0 < size → low ≤ℤ x → x ≤ℤ u → block_end size low high x ≤ℤ block_end size low high u
end_rises size low high x u some above rise =
    let more = start_rises size low x u some above rise in
    omega (arith, ints, clamps, more)

-- a point of the extent is in its block
pub block_has : (size : ℕ) (extent : Rect) (x y : ℤ) → 0 < size → Has extent x y → Has (block_of size extent x y) x y
block_has size extent x y some h =
    let across = around size extent.left extent.right x some h.0 h.1 in
    let down = around size extent.top extent.bottom y some h.2 h.3 in
    (across.start, across.end, down.start, down.end)

pub block_within_extent : (size : ℕ) (extent : Rect) (x y : ℤ) → 0 < size → Has extent x y → IsWithin (block_of size extent x y) extent
block_within_extent size extent x y some h u v k =
    let across = around size extent.left extent.right x some h.0 h.1 in
    let down = around size extent.top extent.bottom y some h.2 h.3 in
    (omega (arith, ints, across.from_low, k.0), omega (arith, ints, across.to_high, k.1), omega (arith, ints, down.from_low, k.2), omega (arith, ints, down.to_high, k.3))

-- each point of a block has that block
pub same_block_of : (size : ℕ) (extent : Rect) (x y u v : ℤ) → 0 < size → Has extent x y → Has (block_of size extent x y) u v
    → block_of size extent u v ≡ block_of size extent x y
same_block_of size extent x y u v some h k =
    let across = same_block size extent.left extent.right x u some h.0 k.0 k.1 in
    let down = same_block size extent.top extent.bottom y v some h.2 k.2 k.3 in
    same_rect _ _ across down (ap (λ (s : ℤ). int_min (s +ℤ pos size) extent.right) across) (ap (λ (s : ℤ). int_min (s +ℤ pos size) extent.bottom) down)

-- ---- the cover of the blocks that meet a rectangle

-- where no block meets it
pub none_meet : (size : ℕ) (extent rect : Rect) → is_empty (meet_of rect extent) ≡ true → blocks_of size extent rect ≡ origin
none_meet size extent rect e = ap (λ (b : Bool). if b then origin else blocks_between size extent (meet_of rect extent)) e

pub some_meet : (size : ℕ) (extent rect : Rect) → is_empty (meet_of rect extent) ≡ false → blocks_of size extent rect ≡ blocks_between size extent (meet_of rect extent)
some_meet size extent rect e = ap (λ (b : Bool). if b then origin else blocks_between size extent (meet_of rect extent)) e

-- sides of the cover along one axis, from the first number to the last one
blocks_along : (size : ℕ) (low high first last x u : ℤ) → 0 < size → low ≤ℤ first → first ≤ℤ x → x ≤ℤ last
    → block_start size low x ≤ℤ u → u <ℤ block_end size low high x
    → (int_min (block_start size low first) (block_start size low last) ≤ℤ u) × (u <ℤ int_max (block_end size low high first) (block_end size low high last))
blocks_along size low high first last x u some from after before start end =
    let begun = start_rises size low first x some from after in
    let ended = end_rises size low high x last some (omega (arith, ints, from, after)) before in
    (omega (arith, ints, clamps, begun, start), omega (arith, ints, clamps, ended, end))

-- the block of each point of the rectangle and the extent lies in the cover
pub block_within_blocks : (size : ℕ) (extent rect : Rect) (x y : ℤ) → 0 < size → Has rect x y → Has extent x y
    → IsWithin (block_of size extent x y) (blocks_of size extent rect)
block_within_blocks size extent rect x y some h k u v b = by (is_empty (meet_of rect extent)) refl
  where
    met : Has (meet_of rect extent) x y
    met = (omega (arith, ints, clamps, h.0, k.0), omega (arith, ints, clamps, h.1, k.1), omega (arith, ints, clamps, h.2, k.2), omega (arith, ints, clamps, h.3, k.3))

    by : (e : Bool) → is_empty (meet_of rect extent) ≡ e → Has (blocks_of size extent rect) u v
    by true e = absurd (no_point_from_true (meet_of rect extent) e x y met)
    by false e =
        let across = blocks_along size extent.left extent.right (meet_of rect extent).left ((meet_of rect extent).right -ℤ pos 1) x u some
        (omega (arith, ints, clamps)) met.0 (omega (arith, ints, met.1)) b.0 b.1 in
        let down = blocks_along size extent.top extent.bottom (meet_of rect extent).top ((meet_of rect extent).bottom -ℤ pos 1) y v some
        (omega (arith, ints, clamps)) met.2 (omega (arith, ints, met.3)) b.2 b.3 in
        subst (λ (r : Rect). Has r u v) (sym (some_meet size extent rect e)) (across.0, across.1, down.0, down.1)

-- so does each such point
pub rect_within_blocks : (size : ℕ) (extent rect : Rect) (x y : ℤ) → 0 < size → Has rect x y → Has extent x y → Has (blocks_of size extent rect) x y
rect_within_blocks size extent rect x y some h k = block_within_blocks size extent rect x y some h k x y (block_has size extent x y some k)

far_corner : (rect : Rect) → HasRoom rect → Has rect (rect.right -ℤ pos 1) (rect.bottom -ℤ pos 1)
far_corner rect room = (omega (arith, ints, room.across), omega (arith, ints), omega (arith, ints, room.down), omega (arith, ints))

-- a rectangle with a point has room
pub room_of_point : (rect : Rect) (x y : ℤ) → Has rect x y → HasRoom rect
room_of_point rect x y h = record { across = omega (arith, ints, h.0, h.1); down = omega (arith, ints, h.2, h.3) }

-- the cover is the least rectangle with all of these blocks
pub blocks_least : (size : ℕ) (extent rect r : Rect) → 0 < size → ((x y : ℤ) → Has rect x y → Has extent x y → IsWithin (block_of size extent x y) r)
    → IsWithin (blocks_of size extent rect) r
blocks_least size extent rect r some all = by (is_empty (meet_of rect extent)) refl
  where
    corner : (x y : ℤ) → Has (meet_of rect extent) x y → HasRoom (block_of size extent x y) × IsWithin (block_of size extent x y) r
    corner x y h =
        let in_rect : Has rect x y = (omega (arith, ints, clamps, h.0), omega (arith, ints, clamps, h.1), omega (arith, ints, clamps, h.2), omega (arith, ints, clamps, h.3)) in
        let in_extent : Has extent x y = (omega (arith, ints, clamps, h.0), omega (arith, ints, clamps, h.1), omega (arith, ints, clamps, h.2), omega (arith, ints, clamps, h.3)) in
        (room_of_point (block_of size extent x y) x y (block_has size extent x y some in_extent), all x y in_rect in_extent)

    by : (e : Bool) → is_empty (meet_of rect extent) ≡ e → IsWithin (blocks_of size extent rect) r
    by true e = subst (λ (s : Rect). IsWithin s r) (sym (none_meet size extent rect e)) (empty_within origin r refl)
    by false e =
        let room = room_from_false (meet_of rect extent) e in
        let near = corner (meet_of rect extent).left (meet_of rect extent).top (near_corner (meet_of rect extent) room) in
        let far = corner ((meet_of rect extent).right -ℤ pos 1) ((meet_of rect extent).bottom -ℤ pos 1) (far_corner (meet_of rect extent) room) in
        subst (λ (s : Rect). IsWithin s r) (sym (some_meet size extent rect e)) (hull-within _ _ r near.0 far.0 near.1 far.1)

pub blocks_within_extent : (size : ℕ) (extent rect : Rect) → 0 < size → IsWithin (blocks_of size extent rect) extent
blocks_within_extent size extent rect some = blocks_least size extent rect extent some (λ x y _ k. block_within_extent size extent x y some k)
