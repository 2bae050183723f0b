-- Pixels, channel by channel.
use Rattle.std.proofs.Common.{◌≡◌, ℕ, ◌+◌, ◌*◌, ◌<◌, ◌≤◌, inl, inr, arith}
use Rattle.std.proofs.Math.Nat.{mul-le-mul_left}
use Rattle.argb_pixel.specs.Depth.{IsDepth}
use Rattle.argb_pixel.specs.Pixel.{Argb, IsPremultiplied, clear, each_channel, rounded, luma_of}
use Rattle.argb_pixel.proofs.Rounded.{rounded_mono, rounded_part_le}

pub depth_pos : (most : ℕ) → IsDepth most → 0 < most
depth_pos most depth = elim depth [ inl e ↦ omega (arith, e) | inr e ↦ omega (arith, e) ]

pub same_argb : (a a' r r' g g' b b' : ℕ) → a ≡ a' → r ≡ r' → g ≡ g' → b ≡ b'
    → (let x : Argb = record { a = a; r = r; g = g; b = b } in let y : Argb = record { a = a'; r = r'; g = g'; b = b' } in x ≡ y)
same_argb a a' r r' g g' b b' ea er eg eb = cc

pub clear_premultiplied : (most : ℕ) → IsPremultiplied most clear
clear_premultiplied most = record { alpha = omega arith; red = omega arith; green = omega arith; blue = omega arith }

-- a part of a pixel is premultiplied
pub part_premultiplied : (most whole m : ℕ) (p : Argb) → 0 < whole → m ≤ whole → IsPremultiplied most p → IsPremultiplied most (each_channel (λ c. rounded (c * m) whole) p)
part_premultiplied most whole m p some le fits = record {
  alpha = omega (arith, rounded_part_le p.a m whole some le, fits.alpha);
  red = rounded_mono _ _ whole some (omega (arith, mul-le-mul_left m fits.red));
  green = rounded_mono _ _ whole some (omega (arith, mul-le-mul_left m fits.green));
  blue = rounded_mono _ _ whole some (omega (arith, mul-le-mul_left m fits.blue));
}

-- how bright a pixel is, at most
pub luma_within : (most : ℕ) (p : Argb) → IsPremultiplied most p → luma_of p ≤ most
luma_within most p fits =
    let low : 77 * p.r + 150 * p.g + 29 * p.b + 128 ≤ 256 * p.a + 128 = omega (arith, fits.red, fits.green, fits.blue) in
    omega (arith, low, fits.alpha)
