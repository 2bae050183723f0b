-- A row that is changed from the left, by another row.
use Rattle.std.proofs.Common.{◌≡◌, ℕ, zero, suc, ◌+◌, ◌<◌, List, [], ◌∷◌, ◌++◌, length, take, drop, get_or, set, refl, ap, ◌∙◌, arith}
use lib.Lanes.{zip2}

-- a row whose first i pixels are done
abbrev done : {A B : Type 0} → (A → B → B) → List A → List B → ℕ → List B
done f s old i = zip2 f (take i s) (take i old) ++ drop i old

get_undone : {A B : Type 0} (f : A → B → B) (s : List A) (old : List B) (i : ℕ) (b : B) → i < length s → i < length old → get_or (done f s old i) i b ≡ get_or old i b
get_undone f s [] i b ls lo = absurd (omega arith)
get_undone f [] (y ∷ old) i b ls lo = absurd (omega arith)
get_undone f (x ∷ s) (y ∷ old) zero b ls lo = refl
get_undone f (x ∷ s) (y ∷ old) (suc i) b ls lo = get_undone f s old i b (omega arith) (omega arith)

set_more : {A B : Type 0} (f : A → B → B) (s : List A) (old : List B) (i : ℕ) (a : A) (b : B) → i < length s → i < length old
    → set (done f s old i) i (f (get_or s i a) (get_or old i b)) ≡ done f s old (suc i)
set_more f s [] i a b ls lo = absurd (omega arith)
set_more f [] (y ∷ old) i a b ls lo = absurd (omega arith)
set_more f (x ∷ s) (y ∷ old) zero a b ls lo = refl
set_more f (x ∷ s) (y ∷ old) (suc i) a b ls lo = ap (λ t. f x y ∷ t) (set_more f s old i a b (omega arith) (omega arith))

-- one more pixel
pub zip_over_more : {A B : Type 0} (f : A → B → B) (s : List A) (old row : List B) (i : ℕ) (a : A) (b c : B) → i < length s → i < length old
    → row ≡ zip2 f (take i s) (take i old) ++ drop i old → a ≡ get_or s i a → b ≡ get_or row i b → c ≡ f a b
    → set row i c ≡ zip2 f (take (i + 1) s) (take (i + 1) old) ++ drop (i + 1) old
zip_over_more f s old row i a b c ls lo e ea eb ec =
    let was : b ≡ get_or old i b = eb ∙ ap (λ r. get_or r i b) e ∙ get_undone f s old i b ls lo in
    let made : c ≡ f (get_or s i a) (get_or old i b) = ec ∙ ap (λ t. f t b) ea ∙ ap (f (get_or s i a)) was in
    let next : suc i ≡ i + 1 = omega arith in
    ap (λ r. set r i c) e ∙ ap (set (done f s old i) i) made ∙ set_more f s old i a b ls lo ∙ ap (done f s old) next
