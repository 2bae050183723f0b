-- The rows of a picture, one after another.
use Rattle.std.proofs.Common.{◌≡◌, ℕ, zero, suc, ◌+◌, ◌*◌, ◌<◌, ℤ, pos, ◌+ℤ◌, List, [], ◌∷◌, ◌++◌, length, take, refl, sym, ap, ◌∙◌, add-one, arith}
use Rattle.std.specs.Prelude.{flat_map}
use Rattle.std.specs.List.{range_with_len}
use Rattle.std.proofs.lemmas.Grind.{flat_map-append}
use Rattle.std.specs.Fork.{slice_chunk}
use Rattle.std.proofs.Math.Nat.{zero-mul, suc-mul}
use Rattle.std.proofs.Math.Seq.{take-add}
use Rattle.std.proofs.lemmas.List.{append-nil, take_all}

-- one more number at the end of a range
range_more : (a n m j : ℕ) → m ≡ suc n → a + n ≡ j → range_with_len a m ≡ range_with_len a n ++ j ∷ []
range_more a zero m j e k = ap (range_with_len a) e ∙ ap (λ t. t ∷ []) (omega arith)
range_more a (suc n) m j e k = ap (range_with_len a) e ∙ ap (λ xs. a ∷ xs) (range_more (a + 1) n (suc n) j refl (omega arith))

-- the rows from the top, so many of them
abbrev pub rows_to : (ℤ → List ℕ) → ℤ → ℕ → List ℕ
rows_to f top n = flat_map (λ k. f (top +ℤ pos k)) (range_with_len 0 n)

-- one more row
pub rows_more : (f : ℤ → List ℕ) (top y : ℤ) (n : ℕ) → y ≡ (top +ℤ pos n) → rows_to f top (n + 1) ≡ rows_to f top n ++ f y
rows_more f top y n e =
    ap (flat_map row) (range_more 0 n (n + 1) n (omega arith) (omega arith))
    ∙ flat_map-append row (range_with_len 0 n) (n ∷ [])
    ∙ ap (λ xs. flat_map row (range_with_len 0 n) ++ xs) (append-nil (row n))
    ∙ ap (λ z. flat_map row (range_with_len 0 n) ++ f z) (sym e)
  where
    row : ℕ → List ℕ
    row k = f (top +ℤ pos k)

-- the first rows, where each stands in its chunk
rows_in_chunks : (f : ℤ → List ℕ) (top : ℤ) (size n : ℕ) (bytes : List ℕ) → ((k : ℕ) → k < n → slice_chunk bytes size k ≡ f (top +ℤ pos k))
    → take (n * size) bytes ≡ rows_to f top n
rows_in_chunks f top size zero bytes h = ap (λ m. take m bytes) (zero-mul size)
rows_in_chunks f top size (suc n) bytes h =
    ap (λ m. take m bytes) (suc-mul n size)
    ∙ take-add (n * size) size bytes
    ∙ ap (λ xs. xs ++ slice_chunk bytes size n) (rows_in_chunks f top size n bytes λ k l. h k (omega arith))
    ∙ ap (λ xs. rows_to f top n ++ xs) (h n (omega arith))
    ∙ sym (rows_more f top (top +ℤ pos n) n refl)
    ∙ ap (rows_to f top) (add-one n)

-- bytes each of whose chunks is a row are the rows
pub chunks_are_rows : (f : ℤ → List ℕ) (top : ℤ) (size n : ℕ) (bytes : List ℕ) → length bytes ≡ size * n
    → ((k : ℕ) → k < n → slice_chunk bytes size k ≡ f (top +ℤ pos k)) → bytes ≡ rows_to f top n
chunks_are_rows f top size n bytes long h =
    sym (take_all (n * size) bytes (omega arith)) ∙ rows_in_chunks f top size n bytes h
