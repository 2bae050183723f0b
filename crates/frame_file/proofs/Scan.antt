-- Pixels as bytes: one after another, and at a place.
use Rattle.std.proofs.Common.{◌≡◌, ℕ, zero, suc, ◌+◌, ◌*◌, ◌<◌, ◌≤◌, Bool, true, false, cond, List, [], ◌∷◌, ◌-◌, length, take, drop, get_or, Option, Some, None, refl, sym, ap, ◌∙◌, arith, length-drop}
use Rattle.std.proofs.lemmas.List.{take_all}
use Rattle.std.specs.List.{position_from}
use Rattle.std.proofs.lemmas.Bool.Decides.{nat_tests}
use Rattle.argb_pixel.specs.Pixel.{Argb, IsPremultiplied, clear}
use Rattle.frame_file.specs.Clip.{pixels_of_8, pixels_of_16, head_of_8, head_of_16, is_bad}

-- the first pixel, and those behind it
pub next_8 : (xs : List ℕ) → 4 ≤ length xs → pixels_of_8 xs ≡ head_of_8 xs ∷ pixels_of_8 (drop 4 xs)
next_8 [] h = absurd (omega arith)
next_8 (a ∷ []) h = absurd (omega arith)
next_8 (a ∷ r ∷ []) h = absurd (omega arith)
next_8 (a ∷ r ∷ g ∷ []) h = absurd (omega arith)
next_8 (a ∷ r ∷ g ∷ b ∷ rest) h = refl

pub next_16 : (xs : List ℕ) → 8 ≤ length xs → pixels_of_16 xs ≡ head_of_16 xs ∷ pixels_of_16 (drop 8 xs)
next_16 [] h = absurd (omega arith)
next_16 (a ∷ []) h = absurd (omega arith)
next_16 (a ∷ a' ∷ []) h = absurd (omega arith)
next_16 (a ∷ a' ∷ r ∷ []) h = absurd (omega arith)
next_16 (a ∷ a' ∷ r ∷ r' ∷ []) h = absurd (omega arith)
next_16 (a ∷ a' ∷ r ∷ r' ∷ g ∷ []) h = absurd (omega arith)
next_16 (a ∷ a' ∷ r ∷ r' ∷ g ∷ g' ∷ []) h = absurd (omega arith)
next_16 (a ∷ a' ∷ r ∷ r' ∷ g ∷ g' ∷ b ∷ []) h = absurd (omega arith)
next_16 (a ∷ a' ∷ r ∷ r' ∷ g ∷ g' ∷ b ∷ b' ∷ rest) h = refl

-- no pixel is left
pub none_8 : (xs : List ℕ) → length xs < 4 → pixels_of_8 xs ≡ []
none_8 [] h = refl
none_8 (a ∷ []) h = refl
none_8 (a ∷ r ∷ []) h = refl
none_8 (a ∷ r ∷ g ∷ []) h = refl
none_8 (a ∷ r ∷ g ∷ b ∷ rest) h = absurd (omega arith)

pub none_16 : (xs : List ℕ) → length xs < 8 → pixels_of_16 xs ≡ []
none_16 [] h = refl
none_16 (a ∷ []) h = refl
none_16 (a ∷ a' ∷ []) h = refl
none_16 (a ∷ a' ∷ r ∷ []) h = refl
none_16 (a ∷ a' ∷ r ∷ r' ∷ []) h = refl
none_16 (a ∷ a' ∷ r ∷ r' ∷ g ∷ []) h = refl
none_16 (a ∷ a' ∷ r ∷ r' ∷ g ∷ g' ∷ []) h = refl
none_16 (a ∷ a' ∷ r ∷ r' ∷ g ∷ g' ∷ b ∷ []) h = refl
none_16 (a ∷ a' ∷ r ∷ r' ∷ g ∷ g' ∷ b ∷ b' ∷ rest) h = absurd (omega arith)

four_more : (i : ℕ) → suc i * 4 ≡ suc (suc (suc (suc (i * 4))))
four_more i = omega arith

eight_more : (i : ℕ) → suc i * 8 ≡ suc (suc (suc (suc (suc (suc (suc (suc (i * 8))))))))
eight_more i = omega arith

-- the pixels from a place on
pub from_8 : (i : ℕ) (xs : List ℕ) → drop i (pixels_of_8 xs) ≡ pixels_of_8 (drop (i * 4) xs)
from_8 zero xs = let none : 0 ≡ 0 * 4 = omega arith in ap (λ n. pixels_of_8 (drop n xs)) none
from_8 (suc i) [] = sym (ap (λ n. pixels_of_8 (drop n [])) (four_more i))
from_8 (suc i) (a ∷ []) = sym (ap (λ n. pixels_of_8 (drop n (a ∷ []))) (four_more i))
from_8 (suc i) (a ∷ r ∷ []) = sym (ap (λ n. pixels_of_8 (drop n (a ∷ r ∷ []))) (four_more i))
from_8 (suc i) (a ∷ r ∷ g ∷ []) = sym (ap (λ n. pixels_of_8 (drop n (a ∷ r ∷ g ∷ []))) (four_more i))
from_8 (suc i) (a ∷ r ∷ g ∷ b ∷ rest) =
    from_8 i rest ∙ sym (ap (λ n. pixels_of_8 (drop n (a ∷ r ∷ g ∷ b ∷ rest))) (four_more i))

pub from_16 : (i : ℕ) (xs : List ℕ) → drop i (pixels_of_16 xs) ≡ pixels_of_16 (drop (i * 8) xs)
from_16 zero xs = let none : 0 ≡ 0 * 8 = omega arith in ap (λ n. pixels_of_16 (drop n xs)) none
from_16 (suc i) [] = sym (ap (λ n. pixels_of_16 (drop n [])) (eight_more i))
from_16 (suc i) (a ∷ []) = sym (ap (λ n. pixels_of_16 (drop n (a ∷ []))) (eight_more i))
from_16 (suc i) (a ∷ a' ∷ []) = sym (ap (λ n. pixels_of_16 (drop n (a ∷ a' ∷ []))) (eight_more i))
from_16 (suc i) (a ∷ a' ∷ r ∷ []) = sym (ap (λ n. pixels_of_16 (drop n (a ∷ a' ∷ r ∷ []))) (eight_more i))
from_16 (suc i) (a ∷ a' ∷ r ∷ r' ∷ []) = sym (ap (λ n. pixels_of_16 (drop n (a ∷ a' ∷ r ∷ r' ∷ []))) (eight_more i))
from_16 (suc i) (a ∷ a' ∷ r ∷ r' ∷ g ∷ []) = sym (ap (λ n. pixels_of_16 (drop n (a ∷ a' ∷ r ∷ r' ∷ g ∷ []))) (eight_more i))
from_16 (suc i) (a ∷ a' ∷ r ∷ r' ∷ g ∷ g' ∷ []) =
    sym (ap (λ n. pixels_of_16 (drop n (a ∷ a' ∷ r ∷ r' ∷ g ∷ g' ∷ []))) (eight_more i))
from_16 (suc i) (a ∷ a' ∷ r ∷ r' ∷ g ∷ g' ∷ b ∷ []) =
    sym (ap (λ n. pixels_of_16 (drop n (a ∷ a' ∷ r ∷ r' ∷ g ∷ g' ∷ b ∷ []))) (eight_more i))
from_16 (suc i) (a ∷ a' ∷ r ∷ r' ∷ g ∷ g' ∷ b ∷ b' ∷ rest) =
    from_16 i rest ∙ sym (ap (λ n. pixels_of_16 (drop n (a ∷ a' ∷ r ∷ r' ∷ g ∷ g' ∷ b ∷ b' ∷ rest))) (eight_more i))

-- what is found at a place begins what is from there on
pub found_at : (i : ℕ) (ps : List Argb) (p : Argb) (rest : List Argb) → drop i ps ≡ p ∷ rest → get_or ps i clear ≡ p
found_at zero [] p rest e = cc
found_at (suc i) [] p rest e = cc
found_at zero (q ∷ ps) p rest e = cc
found_at (suc i) (q ∷ ps) p rest e = found_at i ps p rest e

pub none_of_cond : (b : Bool) (j : ℕ) (o : Option ℕ) → cond b (Some j) o ≡ None → (b ≡ false) × (o ≡ None)
none_of_cond true j o e = (cc, cc)
none_of_cond false j o e = (refl, e)

-- where no pixel is bad, the one at a place is not
not_bad : (most j i : ℕ) (ps : List Argb) (p : Argb) (rest : List Argb) → position_from (is_bad most) j ps ≡ None → drop i ps ≡ p ∷ rest → is_bad most p ≡ false
not_bad most j zero [] p rest n e = cc
not_bad most j (suc i) [] p rest n e = cc
not_bad most j zero (q ∷ ps) p rest n e =
    let same : q ≡ p = cc in
    sym (ap (is_bad most) same) ∙ (none_of_cond (is_bad most q) j (position_from (is_bad most) (j + 1) ps) n).0
not_bad most j (suc i) (q ∷ ps) p rest n e =
    not_bad most (j + 1) i ps p rest (none_of_cond (is_bad most q) j (position_from (is_bad most) (j + 1) ps) n).1 e

premultiplied : (most : ℕ) (p : Argb) → is_bad most p ≡ false → IsPremultiplied most p
premultiplied most p h = record {
  alpha = grind (arith, nat_tests);
  red = grind (arith, nat_tests);
  green = grind (arith, nat_tests);
  blue = grind (arith, nat_tests);
}

pub sound_at : (most i : ℕ) (ps : List Argb) (p : Argb) (rest : List Argb) → position_from (is_bad most) 0 ps ≡ None → drop i ps ≡ p ∷ rest → IsPremultiplied most p
sound_at most i ps p rest n e = premultiplied most p (not_bad most 0 i ps p rest n e)

-- what is left behind the front, as a slice of it
pub rest_is : (n : ℕ) (xs : List ℕ) → take (length xs - n) (drop n xs) ≡ drop n xs
rest_is n xs = take_all (length xs - n) (drop n xs) (omega (arith, length-drop n xs))

pub behind : (n : ℕ) (xs : List ℕ) → n ≤ length xs → n + length (take (length xs - n) (drop n xs)) ≡ length xs
behind n xs h = omega (arith, ap length (rest_is n xs), length-drop n xs)

pass : (b : Bool) (i : ℕ) (o : Option ℕ) → b ≡ false → cond b (Some i) o ≡ o
pass true i o e = let wrong : ⊥ = cc in absurd wrong
pass false i o e = refl

-- one pixel more that is premultiplied
pub scan_16 : (xs : List ℕ) (i : ℕ) → 8 ≤ length xs → is_bad 32768 (head_of_16 xs) ≡ false → position_from (is_bad 32768) i (pixels_of_16 xs) ≡ position_from (is_bad 32768) (i + 1) (pixels_of_16 (take (length xs - 8) (drop 8 xs)))
scan_16 xs i h s =
    ap (position_from (is_bad 32768) i) (next_16 xs h)
    ∙ pass (is_bad 32768 (head_of_16 xs)) i (position_from (is_bad 32768) (i + 1) (pixels_of_16 (drop 8 xs))) s
    ∙ ap (λ ys. position_from (is_bad 32768) (i + 1) (pixels_of_16 ys)) (sym (rest_is 8 xs))
