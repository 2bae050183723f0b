-- Lanes: what each operation makes of lists of them.
use Rattle.std.proofs.Common.{◌≡◌, ℕ, zero, suc, ◌+◌, ◌-◌, ◌*◌, ◌/◌, ◌%◌, ◌<◌, ◌≤◌, List, [], ◌∷◌, ◌++◌, map, length, replicate, min, max, Bool, true, false, cond, ltb, flat_map, get_or, w8, refl, ap, ap₂, sym, ◌∙◌, w16, w32, arith}
use mir.Val.{Fits}
use lib.Lanes.{zip2, sel_l, Each1, pick_l, number_l, digits_l}
use Rattle.std.proofs.lemmas.Bool.{ltb-true, ltb-false}
use Rattle.std.proofs.lemmas.List.{map-id}
use Rattle.argb_pixel.specs.Pixel.{Argb, IsPremultiplied}
use Rattle.argb_pixel.specs.Packed.{packed, pixels_of_16, channel_of}
use Rattle.transfer_mode.specs.Lanes.{channels}
use Rattle.std.proofs.lemmas.Simd.{zip2_splat, length-zip2, pick_l_whole, Each1-get_or}

-- two functions that agree where a fact holds
pub map_where : {A B : Type 0} (P : A → Type 0) (f g : A → B) → ((x : A) → P x → f x ≡ g x) → (xs : List A) → Each1 P xs → map f xs ≡ map g xs
map_where P f g same [] fits = refl
map_where P f g same (x ∷ xs) (h, fits) = ap₂ (λ y ys. y ∷ ys) (same x h) (map_where P f g same xs fits)

pub zip_where : {A B C : Type 0} (P : A → Type 0) (Q : B → Type 0) (f g : A → B → C) → ((x : A) (y : B) → P x → Q y → f x y ≡ g x y)
    → (xs : List A) (ys : List B) → Each1 P xs → Each1 Q ys → zip2 f xs ys ≡ zip2 g xs ys
zip_where P Q f g same [] ys p q = refl
zip_where P Q f g same (x ∷ xs) [] p q = refl
zip_where P Q f g same (x ∷ xs) (y ∷ ys) (h, p) (k, q) = ap₂ (λ z zs. z ∷ zs) (same x y h k) (zip_where P Q f g same xs ys p q)

pub map-zip2 : {A B C D : Type 0} (f : C → D) (g : A → B → C) (xs : List A) (ys : List B) → map f (zip2 g xs ys) ≡ zip2 (λ x y. f (g x y)) xs ys
map-zip2 f g [] ys = refl
map-zip2 f g (x ∷ xs) [] = refl
map-zip2 f g (x ∷ xs) (y ∷ ys) = ap (λ zs. f (g x y) ∷ zs) (map-zip2 f g xs ys)

-- where one is below the other
sel_zip : {A : Type 0} (t : A → A → Bool) (f g : A → A → A) (xs ys : List A)
    → sel_l (zip2 t xs ys) (zip2 f xs ys) (zip2 g xs ys) ≡ zip2 (λ x y. cond (t x y) (f x y) (g x y)) xs ys
sel_zip t f g [] ys = refl
sel_zip t f g (x ∷ xs) [] = refl
sel_zip t f g (x ∷ xs) (y ∷ ys) = ap (λ zs. cond (t x y) (f x y) (g x y) ∷ zs) (sel_zip t f g xs ys)

pub sel_first : (t : ℕ → ℕ → Bool) (h : ℕ → ℕ → ℕ) → ((x y : ℕ) → cond (t x y) x y ≡ h x y) → (xs ys : List ℕ) → sel_l (zip2 t xs ys) xs ys ≡ zip2 h xs ys
sel_first t h same [] ys = refl
sel_first t h same (x ∷ xs) [] = refl
sel_first t h same (x ∷ xs) (y ∷ ys) = ap₂ (λ z zs. z ∷ zs) (same x y) (sel_first t h same xs ys)

pub sel_second : (t : ℕ → ℕ → Bool) (h : ℕ → ℕ → ℕ) → ((x y : ℕ) → cond (t x y) y x ≡ h x y) → (xs ys : List ℕ) → sel_l (zip2 t xs ys) ys xs ≡ zip2 h xs ys
sel_second t h same [] ys = refl
sel_second t h same (x ∷ xs) [] = refl
sel_second t h same (x ∷ xs) (y ∷ ys) = ap₂ (λ z zs. z ∷ zs) (same x y) (sel_second t h same xs ys)

by_ltb : (x y : ℕ) (u v z : ℕ) → (x < y → u ≡ z) → (y ≤ x → v ≡ z) → cond (ltb x y) u v ≡ z
by_ltb x y u v z below above = by (ltb x y) refl
  where
    by : (b : Bool) → ltb x y ≡ b → cond b u v ≡ z
    by true e = below (ltb-true x y e)
    by false e = above (ltb-false x y e)

pub least_is : (x y : ℕ) → cond (ltb x y) x y ≡ min x y
least_is x y = by_ltb x y x y (min x y) (λ h. omega (arith, h)) (λ h. omega (arith, h))

pub greatest_is : (x y : ℕ) → cond (ltb x y) y x ≡ max x y
greatest_is x y = by_ltb x y y x (max x y) (λ h. omega (arith, h)) (λ h. omega (arith, h))

-- the greater of two, less the second
pub beyond_second : (f : ℕ → ℕ → ℕ) (P : ℕ → Type 0) → ((x y : ℕ) → P x → P y → f (max x y) y ≡ x - y) → (xs ys : List ℕ) → Each1 P xs → Each1 P ys
    → zip2 f (zip2 max xs ys) ys ≡ zip2 (λ x y. x - y) xs ys
beyond_second f P same [] ys p q = refl
beyond_second f P same (x ∷ xs) [] p q = refl
beyond_second f P same (x ∷ xs) (y ∷ ys) (h, p) (k, q) = ap₂ (λ z zs. z ∷ zs) (same x y h k) (beyond_second f P same xs ys p q)

pub beyond_16 : (x y : ℕ) → Fits w16 x → Fits w16 y → (max x y + (65536 - y)) % 65536 ≡ x - y
beyond_16 x y h k = omega (arith, h.fits, k.fits)

pub beyond_32 : (x y : ℕ) → Fits w32 x → Fits w32 y → (max x y + (4294967296 - y)) % 4294967296 ≡ x - y
beyond_32 x y h k = omega (arith, h.fits, k.fits)

-- the lesser of each lane and one number
pub least_fits : (most : ℕ) (xs ys : List ℕ) → Each1 (λ y. y ≤ most) ys → Each1 (λ x. x ≤ most) (zip2 min xs ys)
least_fits most [] ys h = tt
least_fits most (x ∷ xs) [] h = tt
least_fits most (x ∷ xs) (y ∷ ys) (h, hs) = (omega (arith, h), least_fits most xs ys hs)

pub least_whole : (most : ℕ) (xs : List ℕ) (n : ℕ) → length xs ≡ n → Each1 (λ x. x ≤ most) xs → zip2 min xs (replicate n most) ≡ xs
least_whole most xs n long fits =
    zip2_splat min xs n most long ∙ map_where (λ x. x ≤ most) (λ x. min x most) (λ x. x) (λ x h. omega (arith, h)) xs fits ∙ map-id xs

-- two numbers of each pair
pub over_sum : (f : ℕ → ℕ → ℕ) (g : ℕ → ℕ → ℕ) (k : ℕ) (xs ys : List ℕ) (n : ℕ) → length xs ≡ n → length ys ≡ n
    → zip2 f (zip2 g xs ys) (replicate n k) ≡ zip2 (λ x y. f (g x y) k) xs ys
over_sum f g k xs ys n lx ly =
    zip2_splat f (zip2 g xs ys) n k (length-zip2 g xs ys (lx ∙ sym ly) ∙ lx) ∙ map-zip2 (λ z. f z k) g xs ys

-- the channels of two pixels
pub channels_fit : (most : ℕ) (p q : Argb) → IsPremultiplied most p → IsPremultiplied most q → Each1 (λ x. x ≤ most) (channels p ++ channels q)
channels_fit most p q h k = (
  h.alpha,
  (
    omega (arith, h.alpha, h.red),
    (
      omega (arith, h.alpha, h.green),
      (
        omega (arith, h.alpha, h.blue),
        (k.alpha, (omega (arith, k.alpha, k.red), (omega (arith, k.alpha, k.green), (omega (arith, k.alpha, k.blue), tt)))),
      ),
    ),
  ),
)

pub each_map : {A B : Type 0} (P : A → Type 0) (Q : B → Type 0) (f : A → B) → ((x : A) → P x → Q (f x)) → (xs : List A) → Each1 P xs → Each1 Q (map f xs)
each_map P Q f step [] h = tt
each_map P Q f step (x ∷ xs) (h, hs) = (step x h, each_map P Q f step xs hs)

-- lanes of two bytes each: two by two, and back
abbrev two_by_two : List ℕ → List ℕ
two_by_two (x ∷ y ∷ rest) = channel_of y x ∷ two_by_two rest
two_by_two rest = []

low_word : (x y n : ℕ) → x < 256 → y < 256 → (x + 256 * (y + 256 * n)) % 65536 ≡ channel_of y x
low_word x y n hx hy = omega (arith, hx, hy)

high_words : (x y n : ℕ) → x < 256 → y < 256 → (x + 256 * (y + 256 * n)) / 65536 ≡ n
high_words x y n hx hy = omega (arith, hx, hy)

wider : (n : ℕ) (xs : List ℕ) → length xs ≡ 2 * n → Each1 (Fits w8) xs → digits_l 65536 n (number_l 256 xs) ≡ two_by_two xs
wider zero [] long fits = refl
wider zero (x ∷ xs) long fits = absurd (omega (arith, long))
wider (suc n) [] long fits = absurd (omega (arith, long))
wider (suc n) (x ∷ []) long fits = absurd (omega (arith, long))
wider (suc n) (x ∷ y ∷ rest) long (hx, (hy, fits)) =
    ap₂ (λ u v. u ∷ digits_l 65536 n v) (low_word x y (number_l 256 rest) hx.fits hy.fits) (high_words x y (number_l 256 rest) hx.fits hy.fits)
    ∙ ap (λ v. channel_of y x ∷ v) (wider n rest (omega (arith, long)) fits)

abbrev halves : List ℕ → List ℕ
halves [] = []
halves (x ∷ rest) = x % 256 ∷ x / 256 % 256 ∷ halves rest

low_byte : (x n : ℕ) → (x + 65536 * n) % 256 ≡ x % 256
low_byte x n = omega arith

high_byte : (x n : ℕ) → (x + 65536 * n) / 256 % 256 ≡ x / 256 % 256
high_byte x n = omega arith

high_rest : (x n : ℕ) → x < 65536 → (x + 65536 * n) / 256 / 256 ≡ n
high_rest x n h = omega (arith, h)

narrower : (n : ℕ) (xs : List ℕ) → length xs ≡ n → Each1 (λ x. x ≤ 32768) xs → digits_l 256 (2 * n) (number_l 65536 xs) ≡ halves xs
narrower zero [] long fits = refl
narrower zero (x ∷ xs) long fits = absurd (omega (arith, long))
narrower (suc n) [] long fits = absurd (omega (arith, long))
narrower (suc n) (x ∷ rest) long (h, fits) =
    let twice : 2 * suc n ≡ suc (suc (2 * n)) = omega arith in
    let m = number_l 65536 rest in
    ap (λ k. digits_l 256 k (x + 65536 * m)) twice
    ∙ ap₂ (λ u v. u ∷ v ∷ digits_l 256 (2 * n) ((x + 65536 * m) / 256 / 256)) (low_byte x m) (high_byte x m)
    ∙ ap (λ v. x % 256 ∷ x / 256 % 256 ∷ digits_l 256 (2 * n) v) (high_rest x m (omega (arith, h)))
    ∙ ap (λ v. x % 256 ∷ x / 256 % 256 ∷ v) (narrower n rest (omega (arith, long)) fits)

abbrev pub pairs_exchanged : List ℕ
pairs_exchanged = 1 ∷ 0 ∷ 3 ∷ 2 ∷ 5 ∷ 4 ∷ 7 ∷ 6 ∷ 9 ∷ 8 ∷ 11 ∷ 10 ∷ 13 ∷ 12 ∷ 15 ∷ 14 ∷ []

-- big endian bytes of two pixels, read
pub read_16 : (xs : List ℕ) → length xs ≡ 16 → Each1 (Fits w8) xs
    → digits_l 65536 8 (number_l 256 (pick_l 0 xs pairs_exchanged)) ≡ flat_map channels (pixels_of_16 xs)
read_16 xs long fits =
    let whole = pick_l_whole 0 xs 16 long in
    let few : (k : ℕ) → k < 16 → Fits w8 (get_or xs k 0) = λ k lt. Each1-get_or (Fits w8) xs k 0 (omega (arith, long, lt)) fits in
    let small : Each1 (Fits w8) (pick_l 0 xs pairs_exchanged) = (
      few 1 (omega arith),
      (
        few 0 (omega arith),
        (
          few 3 (omega arith),
          (
            few 2 (omega arith),
            (
              few 5 (omega arith),
              (
                few 4 (omega arith),
                (
                  few 7 (omega arith),
                  (
                    few 6 (omega arith),
                    (
                      few 9 (omega arith),
                      (
                        few 8 (omega arith),
                        (
                          few 11 (omega arith),
                          (
                            few 10 (omega arith),
                            (few 13 (omega arith), (few 12 (omega arith), (few 15 (omega arith), (few 14 (omega arith), tt)))),
                          ),
                        ),
                      ),
                    ),
                  ),
                ),
              ),
            ),
          ),
        ),
      ),
    ) in
    wider 8 (pick_l 0 xs pairs_exchanged) refl small ∙ ap (λ v. flat_map channels (pixels_of_16 v)) whole

-- and written
pub written_16 : (p q : Argb) → IsPremultiplied 32768 p → IsPremultiplied 32768 q
    → pick_l 0 (digits_l 256 16 (number_l 65536 (channels p ++ channels q))) pairs_exchanged ≡ packed 32768 p ++ packed 32768 q
written_16 p q h k = ap (λ v. pick_l 0 v pairs_exchanged) (narrower 8 (channels p ++ channels q) refl (channels_fit 32768 p q h k))

-- a choice in each lane, of lanes that were computed from vs
pub sel_of_maps : {A : Type 0} (t : ℕ → ℕ → Bool) (f g h k : A → ℕ) (vs : List A) {xs ys us ws : List ℕ} → xs ≡ map f vs → ys ≡ map g vs → us ≡ map h vs → ws ≡ map k vs
    → sel_l (zip2 t xs ys) us ws ≡ map (λ v. cond (t (f v) (g v)) (h v) (k v)) vs
sel_of_maps {A = A} t f g h k vs {xs = xs} {ys = ys} {us = us} {ws = ws} ex ey eu ew =
    ap₂ (λ x y. sel_l (zip2 t x y) us ws) ex ey ∙ ap₂ (λ u w. sel_l (zip2 t (map f vs) (map g vs)) u w) eu ew ∙ all vs
  where
    all : (vs : List A) → sel_l (zip2 t (map f vs) (map g vs)) (map h vs) (map k vs) ≡ map (λ v. cond (t (f v) (g v)) (h v) (k v)) vs
    all [] = refl
    all (v ∷ vs) = ap (λ z. cond (t (f v) (g v)) (h v) (k v) ∷ z) (all vs)
