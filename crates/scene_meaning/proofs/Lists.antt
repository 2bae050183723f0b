-- What holds of each of a list, one after another.
use Rattle.std.proofs.Common.{◌≡◌, ℕ, zero, suc, ◌+◌, ◌<◌, List, [], ◌∷◌, ◌++◌, length, take, get_or, sym, ap, subst, ◌∙◌, arith}
use Rattle.std.specs.List.{All}
use Rattle.std.proofs.lemmas.List.Elements.{All-push}
use Rattle.scene_meaning.proofs.Nodes.{take_all}

-- one more of a list
pub take_push : {A : Type 0} (xs : List A) (k : ℕ) (x d : A) → k < length xs → x ≡ get_or xs k d → take (suc k) xs ≡ take k xs ++ x ∷ []
take_push [] k x d within is = absurd (omega (arith, within))
take_push (y ∷ ys) zero x d within is = ap (λ z. z ∷ []) (sym is)
take_push (y ∷ ys) (suc k) x d within is = ap (λ l. y ∷ l) (take_push ys k x d (omega (arith, within)) is)

pub all_more : {A : Type 0} (P : A → Type 0) (xs : List A) (k : ℕ) (x : A) → All P (take k xs) → k < length xs → x ≡ get_or xs k x → P x → All P (take (k + 1) xs)
all_more P xs k x all within is one =
    let next : suc k ≡ k + 1 = omega arith in
    subst (All P) (sym (take_push xs k x x within is) ∙ ap (λ n. take n xs) next) (All-push P (take k xs) x all one)

pub all_of : {A : Type 0} (P : A → Type 0) (xs : List A) (k : ℕ) → All P (take k xs) → k ≡ length xs → All P xs
all_of P xs k all is = subst (All P) (ap (λ n. take n xs) is ∙ take_all xs) all
