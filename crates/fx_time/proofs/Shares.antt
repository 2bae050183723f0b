-- A mean by multiplication.
use Rattle.std.proofs.Common.{◌≡◌, ℕ, ◌+◌, ◌*◌, ◌/◌, ◌<◌, ◌≤◌, arith}
use Rattle.std.proofs.lemmas.Nat.{mul-le}
use Rattle.argb_pixel.specs.Pixel.{rounded}
use Rattle.argb_pixel.proofs.Rounded.{rounded_mono, rounded_whole}
use Rattle.fx_blur.proofs.Quotient.{IsShare, share_is}

-- a rounded mean of at most 16 channels, in parts of 2^32
pub share_within : (sum count part : ℕ) → 0 < count → count ≤ 16 → part ≡ 4294967296 / count + 1 → sum ≤ 32768 * count
    → IsShare 4294967296 (sum + count / 2) count part × (rounded sum count ≤ 32768)
share_within sum count part some few is within =
    let whole : sum + count / 2 ≤ 524296 = omega (arith, within, few) in
    let product : (sum + count / 2) * count ≤ 524296 * 16 = mul-le (sum + count / 2) count 524296 16 whole few in
    (share_is 4294967296 (sum + count / 2) count part some is (omega (arith, product)), omega (arith, rounded_mono sum (32768 * count) count some within, rounded_whole 32768 count some))
