-- Tiny pictures, and their histograms.
use Rattle.std.specs.Prelude.{ℕ, List, map, count_by, nat_eq}
use Rattle.std.specs.List.{range_with_len}
use Rattle.std.specs.Int.{w128, to_be_bytes}

-- the picture that a key spells: 16 grey pixels of 8 bits, the first in the highest byte
abbrev pub pixels_of : ℕ → List ℕ
pixels_of key = to_be_bytes w128 key

-- how many pixels have each level below a number of levels
abbrev pub counts_below : ℕ → List ℕ → List ℕ
counts_below levels pixels = map (λ level. count_by (λ pixel. nat_eq pixel level) pixels) (range_with_len 0 levels)

-- the histogram of a picture: how many pixels have each of the 256 levels
unfoldable pub counts_of : List ℕ → List ℕ
counts_of pixels = counts_below 256 pixels
