-- What is drawn from tables is what is drawn from the sums.
use Rattle.std.specs.Prelude.{◌==◌, ◌||◌, min, sum}
use Rattle.std.specs.List.{range_with_len}
use Rattle.std.proofs.lemmas.Nat.{div-mul-add}
use Rattle.std.proofs.Math.Nat.{div-add-mod}
use Rattle.std.proofs.Common.{◌≡◌, ℕ, ◌+◌, ◌*◌, ◌/◌, ◌%◌, ◌<◌, ◌≤◌, Bool, true, false, List, length, map, get_or, if◌then◌else◌, refl, ap, ap₂, sym, subst, ◌∙◌, arith}
use Rattle.std.proofs.lemmas.Bool.{eqb-false}
use Rattle.std.proofs.lemmas.List.FromFn.{get_or-map-range_with_len, length-map-range_with_len}
use Rattle.std.proofs.lemmas.List.Elements.{All-from_get_or}
use Rattle.argb_pixel.specs.Pixel.{Argb, IsPremultiplied}
use Rattle.argb_pixel.proofs.Channels.{same_argb}
use Rattle.fx_color.specs.Formulas.{with_colours}
use Rattle.fx_analysis.specs.Formulas.{count_to, equalized_part, equalized, relit_part, relit}
use Rattle.fx_analysis.specs.Counts.{AreUpTo, count_to_within, share_of, equalized_part_by, equalized_by, scaled_to, scaled_by}
use Rattle.fx_analysis.specs.Laws.{share_within}
use Rattle.fx_analysis.proofs.Counting.{level_within}
use Rattle.std.proofs.lemmas.List.{get_or_read, get_or-map, length-map}

coloured : (p : Argb) (r s g h b c : ℕ) → r ≡ s → g ≡ h → b ≡ c → with_colours p r g b ≡ with_colours p s h c
coloured p r s g h b c red green blue = same_argb p.a p.a r s g h b c refl red green blue

or_false : (x y : Bool) → (x || y) ≡ false → y ≡ false
or_false true y e = cc
or_false false y e = e

-- how many are at each level or below
abbrev pub up_to_of : List ℕ → List ℕ
up_to_of counts = map (count_to counts) (range_with_len 0 256)

pub up_to_are : (counts : List ℕ) → AreUpTo (sum counts) (up_to_of counts)
up_to_are counts = record {
  levels = length-map-range_with_len (count_to counts) 0 256;
  within = All-from_get_or (λ n. n ≤ sum counts) (up_to_of counts) 0 λ k l.
      subst (λ (n : ℕ). n ≤ sum counts) (sym (get_or-map-range_with_len (count_to counts) 0 256 k k 0 (omega (arith, l, length-map-range_with_len (count_to counts) 0 256)) (omega arith)))
      (count_to_within counts k);
}

equalized_alike : (counts : List ℕ) (a c : ℕ) → 0 < a → c ≤ a → equalized_part_by (sum counts) (up_to_of counts) a c ≡ equalized_part counts a c
equalized_alike counts a c some low =
    ap (λ (n : ℕ). a * n / sum counts) (get_or-map-range_with_len (count_to counts) 0 256 (c * 255 / a) (c * 255 / a) 0 (level_within c a some low) (omega arith))

pub equalized_same : (most : ℕ) (counts : List ℕ) (p : Argb) → IsPremultiplied most p → equalized_by (sum counts) (up_to_of counts) p ≡ equalized counts p
equalized_same most counts p is = by (sum counts == 0 || p.a == 0) refl
  where
    by : (b : Bool) → (sum counts == 0 || p.a == 0) ≡ b
        → (if b then p else with_colours p (equalized_part_by (sum counts) (up_to_of counts) p.a p.r) (equalized_part_by (sum counts) (up_to_of counts) p.a p.g) (equalized_part_by (sum counts) (up_to_of counts) p.a p.b))
        ≡ (if b then p else with_colours p (equalized_part counts p.a p.r) (equalized_part counts p.a p.g) (equalized_part counts p.a p.b))
    by true e = refl
    by false e =
        let none = eqb-false p.a 0 (or_false (sum counts == 0) (p.a == 0) e) in
        let some : 0 < p.a = omega (arith, none) in
        coloured p _ _ _ _ _ _ (equalized_alike counts p.a p.r some is.red) (equalized_alike counts p.a p.g some is.green) (equalized_alike counts p.a p.b some is.blue)

-- a share of the greatest alpha is no more than that
pub full_within : (total most : ℕ) (up_to full : List ℕ) (i n : ℕ) → full ≡ map (share_of total most) up_to → AreUpTo total up_to → i < 256 → n ≡ get_or full i n → n ≤ most
full_within total most up_to full i n is are l item =
    let there : i < length full = omega (arith, l, are.levels, ap length is, length-map up_to (share_of total most)) in
    let place : i < length up_to = omega (arith, l, are.levels) in
    subst (λ (m : ℕ). m ≤ most)
    (sym (get_or_read full i n there item 0 ∙ ap (λ (xs : List ℕ). get_or xs i 0) is ∙ get_or-map (share_of total most) up_to i 0 0 place))
    (share_within most (get_or up_to i 0) total (are.within i 0 place))

-- ---- multiples

-- what is left is less than what is divided by
pub divided : (part over rest n : ℕ) → part * over + rest ≡ n → rest < over → part ≡ n / over
divided part over rest n whole left = sym (div-mul-add part over rest left) ∙ ap (λ (m : ℕ). m / over) whole

-- one multiple more
pub next_multiple : (times over c : ℕ) → 0 < over → (n : ℕ) → n ≡ c * times → n + (times / over * over + times % over) ≡ (c + 1) * times
next_multiple times over c some n is = (let whole = div-add-mod times over in omega (arith, is, whole))

-- a table of scaled colours
abbrev pub table_of : ℕ → ℕ → ℕ → List ℕ
table_of most times over = map (scaled_to most times over) (range_with_len 0 (most + 1))

in_table : (most times over a c : ℕ) → c ≤ a → a ≤ most → min (get_or (table_of most times over) c 0) a ≡ min (c * times / over) a
in_table most times over a c low within =
    ap (λ (n : ℕ). min n a) (get_or-map-range_with_len (scaled_to most times over) 0 (most + 1) c c 0 (omega (arith, low, within)) (omega arith))
    ∙ (let q : ℕ = c * times / over in let same : min (min q most) a ≡ min q a = omega (arith, within) in same)

module _ (luma alpha middle_luma middle_alpha : ℕ) where
  relit_alike : (most a c : ℕ) → c ≤ a → a ≤ most
      → min (get_or (table_of most (luma * middle_alpha) (alpha * middle_luma)) c 0) a ≡ relit_part luma alpha middle_luma middle_alpha a c
  relit_alike most a c low within =
      in_table most (luma * middle_alpha) (alpha * middle_luma) a c low within
      ∙ ap (λ (n : ℕ). min (n / (alpha * middle_luma)) a) (let same : c * (luma * middle_alpha) ≡ c * luma * middle_alpha = omega arith in same)
      ∙ (let q : ℕ = c * luma * middle_alpha / (alpha * middle_luma) in let same : min q a ≡ min a q = omega arith in same)

  stays : (most a c : ℕ) → c ≤ a → a ≤ most → min (get_or (table_of most 1 1) c 0) a ≡ c
  stays most a c low within = in_table most 1 1 a c low within ∙ (let same : min (c * 1 / 1) a ≡ c = omega (arith, low) in same)

  pub relit_same : (most times over : ℕ) (p : Argb) → IsPremultiplied most p
      → times ≡ (if middle_luma == 0 || alpha == 0 then 1 else luma * middle_alpha) → over ≡ (if middle_luma == 0 || alpha == 0 then 1 else alpha * middle_luma)
      → scaled_by (table_of most times over) p ≡ relit luma alpha middle_luma middle_alpha p
  relit_same most times over p is t o = ap₂ (λ (m n : ℕ). scaled_by (table_of most m n) p) t o ∙ by (middle_luma == 0 || alpha == 0)
    where
      by : (b : Bool) → scaled_by (table_of most (if b then 1 else luma * middle_alpha) (if b then 1 else alpha * middle_luma)) p
          ≡ (if b then p else with_colours p (relit_part luma alpha middle_luma middle_alpha p.a p.r) (relit_part luma alpha middle_luma middle_alpha p.a p.g) (relit_part luma alpha middle_luma middle_alpha p.a p.b))
      by true = coloured p _ _ _ _ _ _ (stays most p.a p.r is.red is.alpha) (stays most p.a p.g is.green is.alpha) (stays most p.a p.b is.blue is.alpha)
      by false = coloured p _ _ _ _ _ _ (relit_alike most p.a p.r is.red is.alpha) (relit_alike most p.a p.g is.green is.alpha) (relit_alike most p.a p.b is.blue is.alpha)
