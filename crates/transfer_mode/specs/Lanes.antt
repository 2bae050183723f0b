-- Lanes: the channels of pixels one after another.
use Rattle.std.specs.Prelude.{ℕ, ◌≤◌, List, [], ◌∷◌}
use Rattle.argb_pixel.specs.Pixel.{Argb}

abbrev pub channels : Argb → List ℕ
channels p = p.a ∷ p.r ∷ p.g ∷ p.b ∷ []

-- one number in the place of each channel of a pixel, and another one in that of each of the next pixel
abbrev pub fours : ℕ → ℕ → List ℕ
fours k k' = k ∷ k ∷ k ∷ k ∷ k' ∷ k' ∷ k' ∷ k' ∷ []

-- a channel of a source and of a destination, with their alphas
pub record Lane : Type 0 where
  pub sa : ℕ
  pub da : ℕ
  pub s : ℕ
  pub d : ℕ

pub record IsLane (most : ℕ) (l : Lane) : Type 0 where
  pub source_alpha : l.sa ≤ most
  pub alpha : l.da ≤ most
  pub source : l.s ≤ l.sa
  pub destination : l.d ≤ l.da
