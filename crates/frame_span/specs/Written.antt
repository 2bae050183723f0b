-- What was written of some bytes.
use Rattle.std.specs.Prelude.{◌≡◌, ℕ, List, ◌++◌, Option, flat_map}
use Rattle.std.specs.Io.KnownBytes.{Appends}
use Rattle.std.proofs.Common.{Vec, Global}
use Rattle.frame_worker.specs.declared.maker.Piece.{Piece}

-- the second list goes on where the first ends
abbrev pub IsPrefix : List ℕ → List ℕ → Type 0
IsPrefix front whole = (rest : List ℕ) × (front ++ rest ≡ whole)

-- a prefix of the bytes was appended, and nothing else
abbrev pub AppendsFront : Option (List ℕ) → Option (List ℕ) → List ℕ → Type 0
AppendsFront before now whole = (front : List ℕ) × Appends before now front × IsPrefix front whole

-- what was made of frames, one after another
abbrev pub text_of : List (Piece (Vec ℕ Global)) → List ℕ
text_of pieces = flat_map (λ piece. piece.made.items) pieces
