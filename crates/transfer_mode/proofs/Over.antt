-- Normal mode with one product a channel.
use Rattle.std.proofs.Common.{◌≡◌, ℕ, ◌+◌, ◌-◌, ◌*◌, ◌/◌, ◌<◌, ◌≤◌, ap, sym, ◌∙◌, arith}
use Rattle.std.proofs.Math.Nat.{mul-le-mul_left, mul-add-div_right, mul_comm}
use Rattle.argb_pixel.specs.Pixel.{Argb, IsPremultiplied, rounded}
use Rattle.argb_pixel.proofs.Channels.{same_argb}
use Rattle.argb_pixel.proofs.Rounded.{rounded_mono, rounded_part_le}
use Rattle.transfer_mode.specs.Both.{normal}
use Rattle.transfer_mode.specs.Transfer.{blended, mixed}

-- a whole number, and what is rounded of the rest
whole_and_rest : (s x m : ℕ) → 0 < m → rounded (s * m + x) m ≡ s + rounded x m
whole_and_rest s x m pos =
    let moved : (s * m + x) + m / 2 ≡ s * m + (x + m / 2) = omega arith in
    ap (λ y. y / m) moved ∙ mul-add-div_right pos s (x + m / 2)

-- two parts of a product
split_product : (s m k d : ℕ) → m ≡ k + d → s * k + s * d ≡ s * m
split_product s m k d e = omega (arith, ap (λ t. s * t) e)

-- one channel: the source's, and what the source leaves of the one below
channel_is : (m sa da s d : ℕ) → 0 < m → da ≤ m → blended m sa da s d (s * da) ≡ s + rounded (d * (m - sa)) m
channel_is m sa da s d pos le =
    let whole = split_product s m (m - da) da (omega arith) in
    let same : s * (m - da) + d * (m - sa) + s * da ≡ s * m + d * (m - sa) = omega (arith, whole) in
    ap (λ x. rounded x m) same ∙ whole_and_rest s (d * (m - sa)) m pos

-- the blend, channel by channel
abbrev pub over_is : ℕ → Argb → Argb → Argb
over_is m s d = record {
  a = s.a + rounded (d.a * (m - s.a)) m;
  r = s.r + rounded (d.r * (m - s.a)) m;
  g = s.g + rounded (d.g * (m - s.a)) m;
  b = s.b + rounded (d.b * (m - s.a)) m;
}

pub normal-over : (m : ℕ) (s d : Argb) → 0 < m → IsPremultiplied m d → over_is m s d ≡ mixed m normal s d
normal-over m s d pos p =
    sym (same_argb _ _ _ _ _ _ _ _ (channel_is m s.a d.a s.a d.a pos p.alpha) (channel_is m s.a d.a s.r d.r pos p.alpha)
    (channel_is m s.a d.a s.g d.g pos p.alpha) (channel_is m s.a d.a s.b d.b pos p.alpha))

left_le : (m sa d da : ℕ) → 0 < m → d ≤ da → rounded (d * (m - sa)) m ≤ rounded (da * (m - sa)) m
left_le m sa d da pos le = rounded_mono _ _ m pos (omega (arith, mul-le-mul_left (m - sa) le))

pub over_premultiplied : (m : ℕ) (s d : Argb) → 0 < m → IsPremultiplied m s → IsPremultiplied m d → IsPremultiplied m (over_is m s d)
over_premultiplied m s d pos p q =
    let part = rounded_part_le (m - s.a) d.a m pos q.alpha in
    let turned : rounded (d.a * (m - s.a)) m ≤ m - s.a = omega (arith, part, ap (λ x. rounded x m) (mul_comm d.a (m - s.a))) in
    record {
      alpha = omega (arith, turned, p.alpha);
      red = omega (arith, p.red, left_le m s.a d.r d.a pos q.red);
      green = omega (arith, p.green, left_le m s.a d.g d.a pos q.green);
      blue = omega (arith, p.blue, left_le m s.a d.b d.a pos q.blue);
    }
