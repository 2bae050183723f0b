-- Opaque pixels hide what is below them.
use Rattle.std.proofs.Common.{◌≡◌, ℕ, suc, ◌≤◌, List, [], ◌∷◌, All, length, refl, ap₂, arith}
use lib.Lanes.{zip2}
use Rattle.argb_pixel.specs.Depth.{IsDepth}
use Rattle.argb_pixel.specs.Pixel.{Argb, IsPremultiplied}
use Rattle.transfer_mode.specs.declared.mode.Mode.TheVariants.{Normal}
use Rattle.transfer_mode.specs.Transfer.{blend_of}
use Rattle.transfer_mode.proofs.Rules.{opaque_hides}

later : (P : Argb → Type 0) (p : Argb) (ps : List Argb) → All P (p ∷ ps) → All P ps
later P p ps each = λ k d l. each (suc k) d (omega (arith, l))

pub hidden : (most : ℕ) (s d : List Argb) → IsDepth most → length d ≡ length s → All (λ p. most ≤ p.a) s → All (IsPremultiplied most) s → All (IsPremultiplied most) d
    → zip2 (blend_of most Normal) s d ≡ s
hidden most [] [] depth same opaque fits below = refl
hidden most [] (y ∷ d) depth same opaque fits below = absurd (omega (arith, same))
hidden most (x ∷ s) [] depth same opaque fits below = absurd (omega (arith, same))
hidden most (x ∷ s) (y ∷ d) depth same opaque fits below =
    let most_is : x.a ≡ most = omega (arith, opaque 0 x (omega arith), (fits 0 x (omega arith)).alpha) in
    ap₂ (λ (p : Argb) (ps : List Argb). p ∷ ps) (opaque_hides most x y depth (below 0 y (omega arith)) most_is)
    (hidden most s d depth (omega (arith, same)) (later (λ p. most ≤ p.a) x s opaque) (later (IsPremultiplied most) x s fits) (later (IsPremultiplied most) y d below))
