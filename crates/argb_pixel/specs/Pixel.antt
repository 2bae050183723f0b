-- A pixel as plain numbers, and the arithmetic of one pixel. The formulas are this project's own.
use Rattle.std.specs.Prelude.{ℕ, ◌+◌, ◌*◌, ◌/◌, ◌≤◌}

-- alpha, red, green and blue
pub record Argb : Type 0 where
  pub a : ℕ
  pub r : ℕ
  pub g : ℕ
  pub b : ℕ

-- each colour already holds its share of alpha
pub record IsPremultiplied (most : ℕ) (p : Argb) : Type 0 where
  pub alpha : p.a ≤ most
  pub red : p.r ≤ p.a
  pub green : p.g ≤ p.a
  pub blue : p.b ≤ p.a

-- nothing is there
abbrev pub clear : Argb
clear = record { a = 0; r = 0; g = 0; b = 0 }

-- the four channels changed alike
abbrev pub each_channel : (ℕ → ℕ) → Argb → Argb
each_channel f p = record { a = f p.a; r = f p.r; g = f p.g; b = f p.b }

-- x / y, to the nearest whole number, a half up
abbrev pub rounded : ℕ → ℕ → ℕ
rounded x y = (x + y / 2) / y

-- the m-th part of the greatest value
abbrev pub mul_of : ℕ → Argb → ℕ → Argb
mul_of most p m = each_channel (λ c. rounded (c * m) most) p

-- opacity counts in 1/10000
abbrev pub scale_of : Argb → ℕ → Argb
scale_of p opacity = each_channel (λ c. rounded (c * opacity) 10000) p

-- how bright it is, in 256 parts of 77 red, 150 green and 29 blue
abbrev pub luma_of : Argb → ℕ
luma_of p = (77 * p.r + 150 * p.g + 29 * p.b + 128) / 256

-- in another depth: the same share of its greatest value
abbrev pub depth_of : ℕ → ℕ → Argb → Argb
depth_of most other p = each_channel (λ c. rounded (c * other) most) p
