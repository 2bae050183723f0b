-- An opaque source over a row.
use Rattle.std.proofs.Common.{◌≡◌, ℕ, suc, List, [], ◌∷◌, All, map, refl, ap₂, sym, arith}
use Rattle.argb_pixel.specs.Depth.{IsDepth}
use Rattle.argb_pixel.specs.Pixel.{Argb, IsPremultiplied}
use Rattle.transfer_mode.specs.Both.{normal}
use Rattle.transfer_mode.specs.Transfer.{mixed}
use Rattle.transfer_mode.proofs.Rules.{opaque_hides}

pub all_hidden : (most : ℕ) (s : Argb) (row : List Argb) → IsDepth most → s.a ≡ most → All (IsPremultiplied most) row → map (λ d. s) row ≡ map (mixed most normal s) row
all_hidden most s [] depth opaque fits = refl
all_hidden most s (d ∷ row) depth opaque fits =
    ap₂ (λ (x : Argb) (xs : List Argb). x ∷ xs) (sym (opaque_hides most s d depth (fits 0 d (omega arith)) opaque))
    (all_hidden most s row depth opaque (λ k e lt. fits (suc k) e (omega (arith, lt))))
