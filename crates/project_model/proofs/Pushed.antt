-- One more is pushed behind those that were made of a list.
use Rattle.std.proofs.Common.{◌≡◌, ℕ, ◌+◌, ◌<◌, List, [], ◌∷◌, ◌++◌, length, map, take, sym, ◌∙◌, ap}
use Rattle.std.specs.Prelude.{slice_index_or}
use Rattle.std.proofs.lemmas.List.{map-append, take_more}

pub mapped_more : {A B : Type 0} (f : A → B) (list : List A) (i : ℕ) (a : A) (items more : List B) (b : B) → items ≡ map f (take i list) → i < length list → a ≡ slice_index_or list i a → more ≡ items ++ b ∷ [] → b ≡ f a → more ≡ map f (take (i + 1) list)
mapped_more f list i a items more b e within is grown same =
    grown
    ∙ ap (λ (xs : _). xs ++ b ∷ []) e
    ∙ ap (λ (x : _). map f (take i list) ++ x ∷ []) (same ∙ ap f is)
    ∙ sym (map-append f (take i list) (slice_index_or list i a ∷ []))
    ∙ ap (map f) (sym (take_more list i a within))
