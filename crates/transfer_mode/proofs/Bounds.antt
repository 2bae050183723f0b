-- Bounds of products of two alphas and two colours, and of what is blended of them.
use Rattle.std.proofs.Common.{◌≡◌, ℕ, ◌+◌, ◌-◌, ◌*◌, ◌<◌, ◌≤◌, subst, sym, arith}
use Rattle.std.proofs.Math.Nat.{mul-le-mul_left, mul_comm}
use Rattle.argb_pixel.proofs.Rounded.{rounded_mono, rounded_part_le}
use Rattle.transfer_mode.specs.Transfer.{blended}

-- the product of what both leave is not below nothing
pub both_left : (sa da s d : ℕ) → s ≤ sa → d ≤ da → s * da + d * sa ≤ sa * da + s * d
both_left sa da s d hs hd =
    let u = sa - s in
    let v = da - d in
    let es : sa ≡ s + u = omega arith in
    let ed : da ≡ d + v = omega arith in
    let at : s * (d + v) + d * (s + u) ≤ (s + u) * (d + v) + s * d = omega arith in
    subst (λ (t : ℕ). s * t + d * sa ≤ sa * t + s * d) (sym ed) (subst (λ (t : ℕ). s * (d + v) + d * t ≤ t * (d + v) + s * d) (sym es) at)

-- a product of one half
pub twice_le : (x y a b : ℕ) → x ≤ a → 2 * y ≤ b → 2 * x * y ≤ a * b
twice_le x y a b hx hy =
    omega (arith, mul-le-mul_left {m = 2 * y} {n = b} x hy, mul-le-mul_left {m = x} {n = a} b hx, mul_comm x b, mul_comm a b)

-- a channel is at most alpha
pub channel_within : (m sa da s d both : ℕ) → 0 < m → s ≤ sa → d ≤ da → both ≤ sa * da → blended m sa da s d both ≤ blended m sa da sa da (sa * da)
channel_within m sa da s d both some hs hd hb =
    rounded_mono _ _ m some (omega (arith, mul-le-mul_left (m - da) hs, mul-le-mul_left (m - sa) hd))

-- alpha is at most the greatest value
pub alpha_within : (m sa da : ℕ) → 0 < m → sa ≤ m → da ≤ m → blended m sa da sa da (sa * da) ≤ m
alpha_within m sa da some hs hd =
    let u = m - sa in
    let v = m - da in
    let es : sa + u ≡ m = omega arith in
    let ed : da + v ≡ m = omega arith in
    let wide : (sa + u) * (da + v) ≡ m * m = cc in
    let parts : sa * v + da * u + sa * da ≤ (sa + u) * (da + v) = omega arith in
    let whole = rounded_mono (sa * v + da * u + sa * da) (m * m) m some (omega (arith, wide, parts)) in
    omega (arith, whole, rounded_part_le m m m some (omega arith))
