-- A list each of whose elements becomes what is made of it and of another list's element, one after another.
use Rattle.std.proofs.Common.{◌≡◌, ℕ, ◌+◌, ◌<◌, ◌≤◌, List, length, get_or, set, ap, sym, ◌∙◌, arith, ◌⊎◌, inl, inr}
use Rattle.std.proofs.lemmas.Bool.{cases_lt}
use Rattle.std.proofs.lemmas.List.{get_or-set_same, get_or-set_other, get_or_read}
use Rattle.argb_pixel.specs.Pixel.{Argb, clear}

-- those before the place are done, and the others are as they were
pub record AreMade (op : Argb → Argb → Argb) (old row now : List Argb) (place : ℕ) : Type 0 where
  pub done : (k : ℕ) → k < place → get_or now k clear ≡ op (get_or old k clear) (get_or row k clear)
  pub rest : (k : ℕ) → place ≤ k → get_or now k clear ≡ get_or old k clear

pub made_more : (op : Argb → Argb → Argb) (old row now : List Argb) (i : ℕ) (v : Argb) → i < length now → AreMade op old row now i
    → v ≡ op (get_or now i clear) (get_or row i clear) → AreMade op old row (set now i v) (i + 1)
made_more op old row now i v there so_far is = record {
  done = λ k l. by k l (cases_lt k i);
  rest = λ k l. get_or-set_other now i k v clear (λ e. omega (arith, l, e)) ∙ so_far.rest k (omega (arith, l));
}
  where
    by : (k : ℕ) → k < i + 1 → (k < i) ⊎ (i ≤ k) → get_or (set now i v) k clear ≡ op (get_or old k clear) (get_or row k clear)
    by k l (inl low) = get_or-set_other now i k v clear (λ e. omega (arith, low, e)) ∙ so_far.done k low
    by k l (inr high) =
        let here : i ≡ k = omega (arith, l, high) in
        ap (λ (j : ℕ). get_or (set now i v) j clear) (sym here) ∙ get_or-set_same now i v clear there ∙ is
        ∙ ap (λ (p : Argb). op p (get_or row i clear)) (so_far.rest i (omega arith))
        ∙ ap (λ (j : ℕ). op (get_or old j clear) (get_or row j clear)) here

-- what is at the place is still as it was
pub still : (op : Argb → Argb → Argb) (old row now : List Argb) (i : ℕ) (item : Argb) → i < length now → AreMade op old row now i
    → item ≡ get_or now i item → item ≡ get_or old i clear
still op old row now i item there so_far is = get_or_read now i item there is clear ∙ so_far.rest i (omega arith)
