-- Rows that are copied in runs.
use Rattle.std.proofs.Common.{◌≡◌, ◌↔◌, ℕ, ◌+◌, ◌-◌, ◌<◌, ◌≤◌, ℤ, pos, ◌+ℤ◌, ◌-ℤ◌, ◌≤ℤ◌, ◌<ℤ◌, Bool, true, false, List, length, replicate, get_or, if◌then◌else◌, refl, ap, sym, ◌∙◌, arith, ◌⊎◌, inl, inr}
use Rattle.std.specs.Int.{int_rem_euclid}
use Rattle.std.proofs.lemmas.Int.{ints, by_lt_z}
use Rattle.std.proofs.lemmas.Bool.{cases_lt}
use Rattle.std.proofs.lemmas.List.{get_or-replicate}
use Rattle.std.proofs.lemmas.List.FromFn.{fill_by_all}
use borrow.Rule.Slice.PartMut.{put_mid}
use Rattle.geom_rect.specs.Rect.{Has, has, count_between, width_of}
use Rattle.geom_rect.proofs.Points.{has-true, Has-from_true}
use Rattle.argb_pixel.specs.Pixel.{Argb, clear}
use Rattle.argb_world.specs.Picture.{Picture, at, span_of}
use Rattle.argb_world.proofs.Places.{positive_part_is}
use Rattle.argb_world.proofs.Spans.{length_span, span_at, written_inside, written_beside}
use Rattle.comp_stack.specs.Layers.{plane_of}
use Rattle.fx_spatial.specs.Rows.{drawn_span}
use Rattle.fx_spatial.specs.Offset.{wrapped, offset_at}
use Rattle.fx_spatial.specs.Wrapping.{wrapped_left, wrapped_right}

-- the places before a column
abbrev pub AreBefore : ℤ → ℤ → ℕ → ℕ → Type 0
AreBefore x column count place = (k : ℕ) → k < count → (k < place) ↔ ((x +ℤ pos k) <ℤ column)

module _ (p : Picture) (x y from to further : ℤ) (start end : ℕ) (old new : List Argb) (before_start : AreBefore x from (length old) start) (before_end : AreBefore x to (length old) end) where
  -- a run that is copied
  pub run_inside : start ≤ end → end ≤ length old → new ≡ put_mid start (end - start) old (span_of p ((x +ℤ pos start) +ℤ further) y (end - start))
      → (k : ℕ) → k < length old → from ≤ℤ (x +ℤ pos k) → (x +ℤ pos k) <ℤ to → get_or new k clear ≡ at p ((x +ℤ pos k) +ℤ further) y
  run_inside order within copied k l low high = by (cases_lt k start)
    where
      by : (k < start) ⊎ (start ≤ k) → get_or new k clear ≡ at p ((x +ℤ pos k) +ℤ further) y
      by (inl less) = absurd (let out = (before_start k l).0 less in omega (arith, ints, out, low))
      by (inr more) =
          let inside : k < end = (before_end k l).1 high in
          let place : ((x +ℤ pos start) +ℤ further) +ℤ pos (k - start) ≡ (x +ℤ pos k) +ℤ further = omega (arith, ints, more) in
          ap (λ (xs : List Argb). get_or xs k clear) copied
          ∙ written_inside old (span_of p ((x +ℤ pos start) +ℤ further) y (end - start)) start (end - start) k (omega (arith, within, order)) (length_span p ((x +ℤ pos start) +ℤ further) y (end - start)) more (omega (arith, inside))
          ∙ span_at p ((x +ℤ pos start) +ℤ further) y (end - start) (k - start) (omega (arith, inside, more)) ∙ ap (λ (u : ℤ). at p u y) place

  pub run_beside : start ≤ end → end ≤ length old → new ≡ put_mid start (end - start) old (span_of p ((x +ℤ pos start) +ℤ further) y (end - start))
      → (k : ℕ) → k < length old → ¬ ((from ≤ℤ (x +ℤ pos k)) × ((x +ℤ pos k) <ℤ to)) → get_or new k clear ≡ get_or old k clear
  run_beside order within copied k l out =
      ap (λ (xs : List Argb). get_or xs k clear) copied
      ∙ written_beside old (span_of p ((x +ℤ pos start) +ℤ further) y (end - start)) start (end - start) k (omega (arith, within, order)) (length_span p ((x +ℤ pos start) +ℤ further) y (end - start)) (by (cases_lt k start) (cases_lt k end))
    where
      by : (k < start) ⊎ (start ≤ k) → (k < end) ⊎ (end ≤ k) → (k < start) ⊎ (start + (end - start) ≤ k)
      by (inl less) t = inl less
      by (inr more) (inr far) = inr (omega (arith, far, order))
      by (inr more) (inl near) =
          absurd (out (by_lt_z (x +ℤ pos k) from (λ h. absurd (let less = (before_start k l).1 h in omega (arith, less, more))) (λ h. h), (before_end k l).0 near))

  -- where there is none
  pub none_inside : end ≤ start → (k : ℕ) → k < length old → from ≤ℤ (x +ℤ pos k) → (x +ℤ pos k) <ℤ to → ⊥
  none_inside order k l low high = by (cases_lt k start)
    where
      inside : k < end
      inside = (before_end k l).1 high

      by : (k < start) ⊎ (start ≤ k) → ⊥
      by (inl less) = let out = (before_start k l).0 less in omega (arith, ints, out, low)
      by (inr more) = omega (arith, more, inside, order)

-- both runs of a row, at a column of the extent
pub runs_inside : (p : Picture) (left right dx u y : ℤ) (n turn : ℕ) (mid new : Argb) → left ≤ℤ u → u <ℤ right → n ≡ count_between left right → pos turn ≡ int_rem_euclid dx (pos n)
    → (left ≤ℤ u → u <ℤ (left +ℤ pos turn) → mid ≡ at p (u +ℤ (pos n -ℤ pos turn)) y)
    → ((left +ℤ pos turn) ≤ℤ u → u <ℤ right → new ≡ at p (u +ℤ (pos 0 -ℤ pos turn)) y)
    → (¬ (((left +ℤ pos turn) ≤ℤ u) × (u <ℤ right)) → new ≡ mid) → new ≡ at p (wrapped left n (u -ℤ dx)) y
runs_inside p left right dx u y n turn mid new low high n_is turn_is first second stays =
    by_lt_z u (left +ℤ pos turn) before after
  where
    wide : pos n ≡ right -ℤ left
    wide = (let e = positive_part_is (right -ℤ left) (omega (arith, ints, low, high)) in omega (arith, ints, n_is, e))

    before : u <ℤ (left +ℤ pos turn) → new ≡ at p (wrapped left n (u -ℤ dx)) y
    before less = stays (λ h. omega (arith, ints, less, h.0)) ∙ first low less
        ∙ ap (λ (v : ℤ). at p v y) (sym (wrapped_left left dx u n turn (omega (arith, ints, wide, low, high)) (sym turn_is) low less))

    after : (left +ℤ pos turn) ≤ℤ u → new ≡ at p (wrapped left n (u -ℤ dx)) y
    after more =
        let place : u +ℤ (pos 0 -ℤ pos turn) ≡ u -ℤ pos turn = omega (arith, ints) in
        second more high ∙ ap (λ (v : ℤ). at p v y) (place ∙ sym (wrapped_right left dx u n turn (omega (arith, ints, wide, low, high)) (sym turn_is) more (omega (arith, ints, wide, high))))

pub never_both : (t : Bool) → t ≡ true → t ≡ false → ⊥
never_both t a b = cc

-- a row that is the picture's inside the extent, and nothing outside
pub offset_shown : (p : Picture) (dx dy x y : ℤ) (n : ℕ) (new : List Argb) → length new ≡ n
    → ((k : ℕ) → k < n → Has p.extent (x +ℤ pos k) y → get_or new k clear ≡ at p (wrapped p.extent.left (width_of p.extent) ((x +ℤ pos k) -ℤ dx)) (wrapped p.extent.top (count_between p.extent.top p.extent.bottom) (y -ℤ dy)))
    → ((k : ℕ) → k < n → ¬ Has p.extent (x +ℤ pos k) y → get_or new k clear ≡ clear)
    → new ≡ drawn_span (offset_at dx dy (plane_of p)) x y n
offset_shown p dx dy x y n new long inside outside =
    fill_by_all (λ k. offset_at dx dy (plane_of p) (x +ℤ pos k) y) new n clear long λ k l. by k l (has p.extent (x +ℤ pos k) y) refl
  where
    by : (k : ℕ) → k < n → (b : Bool) → has p.extent (x +ℤ pos k) y ≡ b
        → get_or new k clear ≡ (if b then at p (wrapped p.extent.left (width_of p.extent) ((x +ℤ pos k) -ℤ dx)) (wrapped p.extent.top (count_between p.extent.top p.extent.bottom) (y -ℤ dy)) else clear)
    by k l true e = inside k l (Has-from_true p.extent (x +ℤ pos k) y e)
    by k l false e = outside k l (λ h. never_both (has p.extent (x +ℤ pos k) y) (has-true p.extent (x +ℤ pos k) y h) e)

pub cleared_at : (n k : ℕ) (row : List Argb) → row ≡ replicate n clear → k < n → get_or row k clear ≡ clear
cleared_at n k row is l = ap (λ (xs : List Argb). get_or xs k clear) is ∙ get_or-replicate n k clear clear l

-- what is in neither run
pub runs_beside : (left right u : ℤ) (n turn : ℕ) → left <ℤ right → n ≡ count_between left right → turn < n → ¬ ((left ≤ℤ u) × (u <ℤ right))
    → (¬ ((left ≤ℤ u) × (u <ℤ (left +ℤ pos turn)))) × (¬ (((left +ℤ pos turn) ≤ℤ u) × (u <ℤ right)))
runs_beside left right u n turn room n_is few out =
    let e = positive_part_is (right -ℤ left) (omega (arith, ints, room)) in (
      λ h. out (h.0, omega (arith, ints, h.1, e, n_is, few)),
      λ h. out (omega (arith, ints, h.0), h.1),
    )
