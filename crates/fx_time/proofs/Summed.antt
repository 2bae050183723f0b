-- Sums of the rows of several pictures, and their means.
use Rattle.std.proofs.Common.{◌≡◌, ℕ, ◌+◌, ◌*◌, ◌<◌, ◌≤◌, ℤ, pos, ◌+ℤ◌, List, length, map, get_or, replicate, ap, sym, subst, ◌∙◌, arith, ◌⊎◌, inl, inr}
use Rattle.std.proofs.lemmas.Bool.{cases_lt}
use Rattle.std.proofs.lemmas.List.{get_or-map, get_or-replicate, length-replicate, length-map}
use Rattle.std.proofs.lemmas.List.FromFn.{fill_by_all}
use Rattle.argb_pixel.specs.Depth.{IsDepth}
use Rattle.argb_pixel.specs.Pixel.{Argb, IsPremultiplied, clear}
use Rattle.argb_world.specs.Picture.{Picture, at}
use Rattle.comp_stack.specs.Stack.{Plane}
use Rattle.comp_stack.specs.Layers.{plane_of}
use Rattle.effect_api.specs.Planes.{plane_at}
use Rattle.fx_blur.specs.Sums.{plus, total, mean_of}
use Rattle.fx_blur.specs.SumLaws.{total_more, total_premultiplied, premultiplied_more, plus_premultiplied}
use Rattle.fx_blur.proofs.Moving.{IsRow, most_within}
use Rattle.fx_spatial.specs.Rows.{drawn_span}
use Rattle.fx_time.specs.Formulas.{time_mean_at}

module _ (most : ℕ) (planes : List Plane) (x y : ℤ) where
  -- the pixel of a plane at a place of the row
  abbrev pub pixel_in : ℕ → ℕ → Argb
  pixel_in k i = (plane_at planes i).at (x +ℤ pos k) y

  -- the sums of so many planes along a row, and their pixels premultiplied
  pub record AreSummed (count : ℕ) (sums : List Argb) : Type 0 where
    pub sums_are : (k : ℕ) → k < length sums → get_or sums k clear ≡ total (pixel_in k) count
    pub fits : (k i : ℕ) → k < length sums → i < count → IsPremultiplied most (pixel_in k i)

  pub none_summed : (sums : List Argb) (n : ℕ) → sums ≡ replicate n clear → AreSummed 0 sums
  none_summed sums n is = record {
    sums_are = λ k l. ap (λ (s : List Argb). get_or s k clear) is ∙ cleared k (subst (λ (s : List Argb). k < length s) is l);
    fits = λ k i l m. absurd (omega (arith, m));
  }
    where
      cleared : (k : ℕ) → k < length (replicate n clear) → get_or (replicate n clear) k clear ≡ clear
      cleared k l = get_or-replicate n k clear clear (omega (arith, l, length-replicate n clear))

  pub sums_within : (count : ℕ) (sums : List Argb) → AreSummed count sums → (k : ℕ) → k < length sums → IsPremultiplied (most * count) (get_or sums k clear)
  sums_within count sums are k l = subst (IsPremultiplied (most * count)) (sym (are.sums_are k l)) (total_premultiplied most (pixel_in k) count (λ i m. are.fits k i l m))

  module _ (count : ℕ) (world : Picture) (sums row new : List Argb) (plane_is : plane_at planes count ≡ plane_of world) (are : AreSummed count sums) (read : IsRow most (at world) x y (length sums) row) where
    pixel_is : (k : ℕ) → k < length sums → get_or row k clear ≡ pixel_in k count
    pixel_is k l = read.pixels k l ∙ ap (λ (p : Plane). p.at (x +ℤ pos k) y) (sym plane_is)

    pixel_fits : (k : ℕ) → k < length sums → IsPremultiplied most (pixel_in k count)
    pixel_fits k l = subst (λ (p : Plane). IsPremultiplied most (p.at (x +ℤ pos k) y)) (sym plane_is) (read.fits k l)

    -- one more fits
    pub adding_fits : IsDepth most → count < 16 → (k : ℕ) → k < length sums → IsPremultiplied 4294967295 (plus (get_or sums k clear) (get_or row k clear))
    adding_fits depth few k l =
        premultiplied_more (most * count + most) 4294967295 _ (omega (arith, most_within most count 15 depth (omega (arith, few)), most_within most 1 1 depth (omega arith)))
        (plus_premultiplied (most * count) most _ _ (sums_within count sums are k l) (subst (IsPremultiplied most) (sym (pixel_is k l)) (pixel_fits k l)))

    -- one more
    pub summed_more : length new ≡ length sums → ((k : ℕ) → k < length sums → get_or new k clear ≡ plus (get_or sums k clear) (get_or row k clear)) → AreSummed (count + 1) new
    summed_more long added = record { sums_are = λ k l. sum k (omega (arith, l, long)); fits = λ k i l m. fit k i (omega (arith, l, long)) m (cases_lt i count) }
      where
        sum : (k : ℕ) → k < length sums → get_or new k clear ≡ total (pixel_in k) (count + 1)
        sum k l =
            added k l ∙ ap (λ (s : Argb). plus s (get_or row k clear)) (are.sums_are k l) ∙ ap (plus (total (pixel_in k) count)) (pixel_is k l)
            ∙ sym (total_more (pixel_in k) count)

        fit : (k i : ℕ) → k < length sums → i < count + 1 → (i < count) ⊎ (count ≤ i) → IsPremultiplied most (pixel_in k i)
        fit k i l m (inl low) = are.fits k i l low
        fit k i l m (inr high) = let last : count ≡ i = omega (arith, m, high) in subst (λ (j : ℕ). IsPremultiplied most (pixel_in k j)) last (pixel_fits k l)

  -- the means of a row
  pub mean_row : (count n : ℕ) (sums means : List Argb) → length sums ≡ n → ((k : ℕ) → k < length sums → get_or sums k clear ≡ total (pixel_in k) count)
      → means ≡ map (mean_of count) sums → means ≡ drawn_span (time_mean_at count planes) x y n
  mean_row count n sums means long sums_are means_are =
      fill_by_all (λ k. time_mean_at count planes (x +ℤ pos k) y) means n clear (ap length means_are ∙ length-map sums (mean_of count) ∙ long) λ k l.
      ap (λ (ps : List Argb). get_or ps k clear) means_are ∙ get_or-map (mean_of count) sums k clear clear (omega (arith, l, long))
      ∙ ap (mean_of count) (sums_are k (omega (arith, l, long)))
