-- Rows that are drawn.
use Rattle.std.proofs.Common.{◌≡◌, ◌↔◌, Bool, true, false, ℕ, ◌+◌, ◌<◌, ◌≤◌, length-take, ℤ, pos, negsuc, ◌+ℤ◌, ◌-ℤ◌, ◌≤ℤ◌, List, length, map, get_or, set, take, drop, if◌then◌else◌, refl, ap, ap₂, ◌-◌, sym, subst, ◌∙◌, arith}
use lib.Lanes.{zip2}
use Rattle.std.specs.List.{range_with_len}
use Rattle.std.proofs.lemmas.Int.{ints}
use Rattle.std.proofs.lemmas.Simd.{zip2_of_maps, map-map}
use Rattle.std.proofs.lemmas.List.{get_or-append_right, get_or-drop}
use Rattle.std.proofs.lemmas.List.FromFn.{get_or-map-range_with_len, length-map-range_with_len}
use Rattle.geom_rect.specs.declared.rect.Rect.{Rect}
use Rattle.geom_rect.specs.Rect.{Has, has, positive_part, width_of}
use Rattle.argb_pixel.specs.Pixel.{Argb, clear}
use Rattle.argb_pixel.proofs.Places.{front_of, front_more, front_all}
use Rattle.argb_world.specs.Picture.{Picture, at, span_of, row_of, HasRow}
use Rattle.argb_world.proofs.Places.{positive_part_is}
use Rattle.argb_world.proofs.Rows.{has-false}
use Rattle.argb_world.proofs.Spans.{span_at}
use Rattle.geom_rect.proofs.Points.{has-true}
use Rattle.std.specs.Prelude.{IsTrue}
use Rattle.transfer_mode.specs.declared.mode.Mode.TheVariants.{Normal}
use Rattle.transfer_mode.specs.Transfer.{blend_of}
use Rattle.comp_stack.specs.Layers.{plane_of}
use Rattle.effect_api.specs.Planes.{IsSide, HasSides}
use Rattle.fx_spatial.specs.Rows.{drawn_span, IsNearRow}
use Rattle.fx_spatial.specs.Shadow.{shadowed_at}
use Rattle.fx_spatial.specs.Displace.{moved, displaced_at}

end_near : (left right : ℤ) → IsSide left → right ≤ℤ pos 100000 → (left +ℤ pos (positive_part (right -ℤ left))) ≤ℤ pos 100000
end_near left right near high = by (right -ℤ left) refl
  where
    by : (d : ℤ) → d ≡ right -ℤ left → (left +ℤ pos (positive_part d)) ≤ℤ pos 100000
    by (pos n) e = omega (arith, ints, e, high)
    by (negsuc n) e = omega (arith, ints, near.1)

-- a row of a rectangle that is near
pub near_row : (part : Rect) (y : ℤ) (n : ℕ) → HasSides part → HasRow part y → n ≡ width_of part → IsNearRow part.left y n
near_row part y n near there wide = record {
  across = near.left_near;
  down = (omega (arith, ints, near.top_near.0, there.0), omega (arith, ints, near.bottom_near.1, there.1));
  end = subst (λ (k : ℕ). (part.left +ℤ pos k) ≤ℤ pos 100000) (sym wide) (end_near part.left part.right near.left_near near.right_near.1);
}

-- a row that was drawn and set
pub row_set : (drawing : ℤ → ℤ → Argb) (q : Picture) (part : Rect) (y : ℤ) (row : List Argb) → q.part ≡ part
    → row ≡ drawn_span drawing part.left y (width_of part) → row_of q y ≡ row → (x : ℤ) → Has part x y → at q x y ≡ drawing x y
row_set drawing q part y row same drawn set x h =
    let k : ℕ = positive_part (x -ℤ part.left) in
    let k_is : pos k ≡ x -ℤ part.left = positive_part_is (x -ℤ part.left) (omega (arith, ints, h.0)) in
    let w_is : pos (width_of part) ≡ part.right -ℤ part.left = positive_part_is (part.right -ℤ part.left) (omega (arith, ints, h.0, h.1)) in
    let l : k < width_of part = omega (arith, ints, k_is, w_is, h.1) in
    let place : part.left +ℤ pos k ≡ x = omega (arith, ints, k_is) in
    let there : span_of q part.left y (width_of part) ≡ row = ap (λ (r : Rect). span_of q r.left y (width_of r)) (sym same) ∙ set in
    ap (λ u. at q u y) (sym place) ∙ sym (span_at q part.left y (width_of part) k l) ∙ ap (λ ps. get_or ps k clear) (there ∙ drawn)
    ∙ get_or-map-range_with_len (λ j. drawing (part.left +ℤ pos j) y) 0 (width_of part) k k clear l (omega arith) ∙ ap (λ u. drawing u y) place

-- a row of what is cast, under the row of the picture
pub shadow_row : (most : ℕ) (p : Picture) (dx dy x y : ℤ) (n : ℕ) (cast : Argb → Argb) (below above both : List Argb)
    → below ≡ map cast (span_of p (x -ℤ dx) (y -ℤ dy) n) → above ≡ span_of p x y n → both ≡ zip2 (blend_of most Normal) above below
    → both ≡ drawn_span (shadowed_at most dx dy cast (plane_of p)) x y n
shadow_row most p dx dy x y n cast below above both cast_is above_is blended =
    blended ∙ zip2_of_maps (blend_of most Normal) (λ k. at p (x +ℤ pos k) y) (λ k. cast (at p ((x +ℤ pos k) -ℤ dx) (y -ℤ dy))) (range_with_len 0 n) above_is moved
  where
    place : (k : ℕ) → (x -ℤ dx) +ℤ pos k ≡ (x +ℤ pos k) -ℤ dx
    place k = omega (arith, ints)

    moved : below ≡ map (λ k. cast (at p ((x +ℤ pos k) -ℤ dx) (y -ℤ dy))) (range_with_len 0 n)
    moved = cast_is ∙ map-map cast (λ k. at p ((x -ℤ dx) +ℤ pos k) (y -ℤ dy)) (range_with_len 0 n)
        ∙ ap (λ (f : ℕ → Argb). map f (range_with_len 0 n)) (λ i k. cast (at p (place k i) (y -ℤ dy)))

-- a list whose front is of another has its own pixels from there on
front_rest : (done old : List Argb) (k : ℕ) → length done ≡ length old → k < length old → get_or (front_of done old k) k clear ≡ get_or old k clear
front_rest done old k same l =
    get_or-append_right (take k done) (drop k old) k k clear (omega (arith, length-take k done, same, l)) (omega arith)
    ∙ get_or-drop k old (k - k) clear ∙ ap (λ (j : ℕ). get_or old j clear) (omega arith)

module _ (most : ℕ) (max_x max_y : ℤ) (input map : Picture) (x y : ℤ) (old : List Argb) where
  -- what is drawn over a row of the map
  abbrev pub displaced_row : List Argb
  displaced_row = drawn_span (displaced_at most max_x max_y (plane_of input) (plane_of map)) x y (length old)

  as_long : length displaced_row ≡ length old
  as_long = length-map-range_with_len (λ k. displaced_at most max_x max_y (plane_of input) (plane_of map) (x +ℤ pos k) y) 0 (length old)

  pub displaced_more : (row : List Argb) (k : ℕ) (column : ℤ) (m p : Argb) → old ≡ span_of map x y (length old) → k < length old → row ≡ front_of displaced_row old k
      → m ≡ get_or row k clear → column ≡ x +ℤ pos k
      → p ≡ (if has input.extent column y then at input (column +ℤ moved most max_x m.r m.a) (y +ℤ moved most max_y m.g m.a) else clear)
      → set row k p ≡ front_of displaced_row old (k + 1)
  displaced_more row k column m p is l front pixel place drawn = front_more displaced_row old row k p as_long l front there
    where
      m_is : m ≡ at map (x +ℤ pos k) y
      m_is = pixel ∙ ap (λ (ps : List Argb). get_or ps k clear) front ∙ front_rest displaced_row old k as_long l
          ∙ ap (λ (ps : List Argb). get_or ps k clear) is ∙ span_at map x y (length old) k l

      there : p ≡ get_or displaced_row k clear
      there = drawn
          ∙ ap₂ (λ (u : ℤ) (q : Argb). if has input.extent u y then at input (u +ℤ moved most max_x q.r q.a) (y +ℤ moved most max_y q.g q.a) else clear) place m_is
          ∙ sym (get_or-map-range_with_len (λ j. displaced_at most max_x max_y (plane_of input) (plane_of map) (x +ℤ pos j) y) 0 (length old) k k clear l (omega arith))

  pub displaced_all : (row : List Argb) (k : ℕ) → length old ≤ k → row ≡ front_of displaced_row old k → row ≡ displaced_row
  displaced_all row k end front = front_all displaced_row old row k as_long end front

-- a test that is true exactly where the point is inside
pub has_is : (t : Bool) (rect : Rect) (x y : ℤ) → IsTrue t ↔ Has rect x y → t ≡ has rect x y
has_is true rect x y is = sym (has-true rect x y (is.0 refl))
has_is false rect x y is = sym (has-false false rect x y (λ h. is.1 h) refl)
