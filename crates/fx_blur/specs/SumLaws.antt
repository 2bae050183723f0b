-- What holds of sums of pixels.
use Rattle.std.proofs.Common.{◌≡◌, ℕ, zero, suc, ◌+◌, ◌*◌, ◌<◌, ◌≤◌, refl, ap, sym, ◌∙◌, arith}
use Rattle.argb_pixel.specs.Pixel.{Argb, IsPremultiplied, clear, rounded}
use Rattle.argb_pixel.proofs.Channels.{same_argb, clear_premultiplied}
use Rattle.argb_pixel.proofs.Rounded.{rounded_mono, rounded_whole}
use Rattle.fx_blur.specs.Sums.{plus, total, mean_of}
use Rattle.fx_blur.specs.Columns.{Holds, minus}

-- the order of three does not matter
pub plus_turned : (p q s : Argb) → plus (plus p q) s ≡ plus (plus p s) q
plus_turned p q s = same_argb _ _ _ _ _ _ _ _ (omega arith) (omega arith) (omega arith) (omega arith)

-- a part of a sum is taken from it again
pub minus_plus : (p q : Argb) → minus (plus p q) q ≡ p
minus_plus p q = same_argb _ p.a _ p.r _ p.g _ p.b (omega arith) (omega arith) (omega arith) (omega arith)

pub holds_part : (s p q : Argb) → s ≡ plus p q → Holds s q
holds_part s p q e = record {
  alpha = omega (arith, ap (λ (x : Argb). x.a) e);
  red = omega (arith, ap (λ (x : Argb). x.r) e);
  green = omega (arith, ap (λ (x : Argb). x.g) e);
  blue = omega (arith, ap (λ (x : Argb). x.b) e);
}

pub plus_premultiplied : (m n : ℕ) (p q : Argb) → IsPremultiplied m p → IsPremultiplied n q → IsPremultiplied (m + n) (plus p q)
plus_premultiplied m n p q hp hq = record {
  alpha = omega (arith, hp.alpha, hq.alpha);
  red = omega (arith, hp.red, hq.red);
  green = omega (arith, hp.green, hq.green);
  blue = omega (arith, hp.blue, hq.blue);
}

pub premultiplied_more : (m n : ℕ) (p : Argb) → m ≤ n → IsPremultiplied m p → IsPremultiplied n p
premultiplied_more m n p le h = record {
  alpha = omega (arith, h.alpha);
  red = h.red;
  green = h.green;
  blue = h.blue;
}

-- one more
pub total_more : (each : ℕ → Argb) (n : ℕ) → total each (n + 1) ≡ plus (total each n) (each n)
total_more each n = let e : n + 1 ≡ suc n = omega arith in ap (total each) e

pub total_alike : (f g : ℕ → Argb) (n : ℕ) → ((k : ℕ) → k < n → f k ≡ g k) → total f n ≡ total g n
total_alike f g zero same = refl
total_alike f g (suc n) same =
    ap (λ (s : Argb). plus s (f n)) (total_alike f g n (λ k l. same k (omega arith))) ∙ ap (plus (total g n)) (same n (omega arith))

-- the first apart
pub total_first : (f : ℕ → Argb) (n : ℕ) → total f (suc n) ≡ plus (total (λ k. f (suc k)) n) (f 0)
total_first f zero = refl
total_first f (suc n) =
    ap (λ (s : Argb). plus s (f (suc n))) (total_first f n) ∙ plus_turned (total (λ k. f (suc k)) n) (f 0) (f (suc n))

-- from one place to the next: one enters and one leaves
pub total_moved : (f : ℕ → Argb) (i n : ℕ) → plus (total (λ k. f (i + k)) n) (f (i + n)) ≡ plus (total (λ k. f (i + 1 + k)) n) (f i)
total_moved f i n =
    total_first (λ k. f (i + k)) n
    ∙ ap (λ (s : Argb). plus s (f (i + 0))) (total_alike (λ k. f (i + suc k)) (λ k. f (i + 1 + k)) n (λ k l. let e : i + suc k ≡ i + 1 + k = omega arith in ap f e))
    ∙ (let e : i + 0 ≡ i = omega arith in ap (λ (j : ℕ). plus (total (λ k. f (i + 1 + k)) n) (f j)) e)

pub total_clear : (f : ℕ → Argb) (n : ℕ) → ((k : ℕ) → k < n → f k ≡ clear) → total f n ≡ clear
total_clear f zero none = refl
total_clear f (suc n) none =
    ap (λ (s : Argb). plus s (f n)) (total_clear f n (λ k l. none k (omega arith))) ∙ ap (plus clear) (none n (omega arith))

pub total_premultiplied : (most : ℕ) (f : ℕ → Argb) (n : ℕ) → ((k : ℕ) → k < n → IsPremultiplied most (f k)) → IsPremultiplied (most * n) (total f n)
total_premultiplied most f zero each = clear_premultiplied (most * 0)
total_premultiplied most f (suc n) each =
    premultiplied_more (most * n + most) (most * suc n) (total f (suc n)) (omega arith)
    (plus_premultiplied (most * n) most (total f n) (f n) (total_premultiplied most f n (λ k l. each k (omega arith))) (each n (omega arith)))

-- the mean of premultiplied pixels is premultiplied
pub mean_premultiplied : (most count : ℕ) (sum : Argb) → 0 < count → IsPremultiplied (most * count) sum → IsPremultiplied most (mean_of count sum)
mean_premultiplied most count sum some h = record {
  alpha = omega (arith, rounded_mono sum.a (most * count) count some h.alpha, rounded_whole most count some);
  red = rounded_mono sum.r sum.a count some h.red;
  green = rounded_mono sum.g sum.a count some h.green;
  blue = rounded_mono sum.b sum.a count some h.blue;
}

pub mean_clear : (count : ℕ) → 0 < count → mean_of count clear ≡ clear
mean_clear count some =
    let zeros : 0 * count ≡ 0 = omega arith in
    let none : rounded 0 count ≡ 0 = ap (λ (s : ℕ). rounded s count) (sym zeros) ∙ rounded_whole 0 count some in
    same_argb _ 0 _ 0 _ 0 _ 0 none none none none
