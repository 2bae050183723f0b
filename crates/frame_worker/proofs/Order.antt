-- Numbers of a span, each once and in order, are the numbers of the span one after another.
use Rattle.std.proofs.Common.{◌≡◌, ◌≢◌, ℕ, zero, suc, ◌+◌, ◌<◌, ◌≤◌, List, [], ◌∷◌, All, length, map, slice_index_or, nat_eq, refl, sym, subst, ap, ap₂, ◌∙◌, arith, eq-eqb}
use Rattle.std.specs.Prelude.{count_by, IsPermutation}
use Rattle.std.specs.List.{range_with_len}
use Rattle.std.specs.List.Sorted.{IsNonDecreasing, IsNonDecreasingBy}
use Rattle.std.proofs.lemmas.List.{length-map, get_or-map}
use Rattle.std.proofs.lemmas.List.Elements.{All-nil, All-cons, All-head, All-tail, All-weaker}
use Rattle.std.proofs.lemmas.List.FromFn.{get_or-range_with_len}
use Rattle.std.proofs.lemmas.List.Sorted.{All-permutation, IsPermutation-map, length_permutation, sum_by-IsPermutation}
use Rattle.std.proofs.lemmas.List.Sums.{sum_by-cons}
use Rattle.frame_claims.specs.Claims.{Claims, Seat, AreIn, AreOnce, AreAll}
use Rattle.frame_claims.proofs.Lists.{bit}
use Rattle.frame_worker.specs.Window.{AreFrames, AreDrawn}
use Rattle.frame_worker.specs.declared.maker.Piece.{Piece}

abbrev Between : ℕ → ℕ → ℕ → Type 0
Between low high x = (low ≤ x) × (x < high)

-- what is no less than a number, and nowhere that number, is above it
above : (x high : ℕ) (xs : List ℕ) → count_by (nat_eq x) xs ≡ 0 → All (Between x high) xs → All (Between (x + 1) high) xs
above x high [] none within = All-nil (Between (x + 1) high)
above x high (y ∷ ys) none within =
    let split = sum_by-cons (λ z. bit (nat_eq x z)) y ys in
    let here : Between x high y = All-head (Between x high) y ys within in
    let apart : x ≢ y = λ e. let one : bit (nat_eq x y) ≡ 1 = ap bit (eq-eqb x y e) in omega (arith, none, split, one) in
    All-cons (Between (x + 1) high) y ys (omega (arith, here.0, apart), here.1) (above x high ys (omega (arith, none, split)) (All-tail (Between x high) y ys within))

-- numbers in order, each once
record IsRising (xs : List ℕ) : Type 0 where
  order : IsNonDecreasing xs
  once : AreOnce xs

module _ (x high : ℕ) (xs : List ℕ) (rising : IsRising (x ∷ xs)) where
  after : IsRising xs
  after = record {
    order = λ i j d le within. rising.order (suc i) (suc j) d (omega (arith, le)) (omega (arith, within));
    once = λ m. omega (arith, rising.once m, sum_by-cons (λ z. bit (nat_eq m z)) x xs);
  }

  beyond : (low : ℕ) → All (Between low high) xs → All (Between (x + 1) high) xs
  beyond low within =
      let one : bit (nat_eq x x) ≡ 1 = ap bit (eq-eqb x x refl) in
      let none : count_by (nat_eq x) xs ≡ 0 = omega (arith, rising.once x, sum_by-cons (λ z. bit (nat_eq x z)) x xs, one) in
      above x high xs none (λ k d inside. (rising.order 0 (suc k) d (omega arith) (omega (arith, inside)), (within k d inside).1))

-- so many find room between two numbers
room : (low high : ℕ) (xs : List ℕ) → low ≤ high → All (Between low high) xs → IsRising xs → low + length xs ≤ high
room low high [] fits within rising = omega arith
room low high (x ∷ xs) fits within rising =
    let here : Between low high x = All-head (Between low high) x xs within in
    let rest = room (x + 1) high xs (omega (arith, here.1)) (beyond x high xs rising low (All-tail (Between low high) x xs within)) (after x high xs rising) in
    omega (arith, here.0, rest)

-- and where the room is just theirs, they are all that are there
are_range : (low n : ℕ) (xs : List ℕ) → length xs ≡ n → All (Between low (low + n)) xs → IsRising xs → xs ≡ range_with_len low n
are_range low zero [] long within rising = refl
are_range low zero (x ∷ xs) long within rising = absurd (omega (arith, long))
are_range low (suc n) [] long within rising = absurd (omega (arith, long))
are_range low (suc n) (x ∷ xs) long within rising =
    let high = low + suc n in
    let here : Between low high x = All-head (Between low high) x xs within in
    let later = beyond x high xs rising low (All-tail (Between low high) x xs within) in
    let rest = room (x + 1) high xs (omega (arith, here.1)) later (after x high xs rising) in
    let first : x ≡ low = omega (arith, rest, here.0, long) in
    ap₂ (λ y ys. y ∷ ys) first
    (are_range (low + 1) n xs (omega (arith, long)) (All-weaker (Between (x + 1) high) (Between (low + 1) (low + 1 + n)) (λ y h. (omega (arith, h.0, first), omega (arith, h.1))) xs later) (after x high xs rising))

ordered : {X : Type 0} (frame : X → ℕ) (xs : List X) → IsNonDecreasingBy frame xs → IsNonDecreasing (map frame xs)
ordered frame [] order i j d le within = absurd (omega (arith, within))
ordered frame (x ∷ xs) order i j d le within =
    let inside : j < length (x ∷ xs) = simp length-map at within in
    omega (arith, order i j x le inside, get_or-map frame (x ∷ xs) i x d (omega (arith, le, inside)), get_or-map frame (x ∷ xs) j x d inside)

-- the pieces of all that was claimed, in the order of their frames, are those of the window
pub window_of : {P : Type 0} (gives : ℕ → P → Type 0) (claims : Claims) (seat : Seat) (draws : List ℕ) (drawn pieces : List (Piece P))
    → AreDrawn gives seat drawn → seat.draws ≡ draws → AreIn claims draws → AreOnce draws → AreAll claims draws
    → IsPermutation drawn pieces → IsNonDecreasingBy (λ (piece : Piece P). piece.frame) pieces
    → AreFrames (λ number (piece : Piece P). (piece.frame ≡ number) × gives number piece.made) claims.first claims.count pieces
window_of {P} gives claims seat draws drawn pieces are same within once all moved order =
    let frame = λ (piece : Piece P). piece.frame in
    let given = λ (piece : Piece P). gives piece.frame piece.made in
    let frames = map frame pieces in
    let moves : IsPermutation draws frames = subst (λ ns. IsPermutation ns frames) (are.frames ∙ same) (IsPermutation-map frame drawn pieces moved) in
    let long : length frames ≡ claims.count = length_permutation draws frames moves ∙ all.length_is in
    let is : frames ≡ range_with_len claims.first claims.count =
    are_range claims.first claims.count frames long (All-permutation (Between claims.first (claims.first + claims.count)) draws frames moves within)
    (record { order = ordered frame pieces order; once = λ m. omega (arith, once m, sum_by-IsPermutation (λ z. bit (nat_eq m z)) draws frames moves) }) in
    let count : length pieces ≡ claims.count = sym (length-map pieces frame) ∙ long in
    record {
      counted = count;
      each = λ place d inside.
          let there : place < length pieces = omega (arith, inside, count) in
          let here = slice_index_or pieces place d in
          let number : here.frame ≡ claims.first + place =
          sym (get_or-map frame pieces place d d.frame there) ∙ ap (λ ns. slice_index_or ns place d.frame) is ∙ get_or-range_with_len claims.first claims.count place d.frame inside in
          (number, subst (λ n. gives n here.made) number (All-permutation given drawn pieces moved are.each place d there));
    }
