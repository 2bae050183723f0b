-- Nothing stays nothing under a matte and under an opacity, and no opacity leaves nothing.
use Rattle.std.proofs.Common.{◌≡◌, ℕ, ◌*◌, ◌<◌, arith}
use Rattle.std.proofs.Math.Nat.{div-eq_of_lt}
use Rattle.argb_pixel.specs.Depth.{IsDepth}
use Rattle.argb_pixel.specs.Pixel.{Argb, clear, rounded, scale_of}
use Rattle.argb_pixel.proofs.Channels.{depth_pos, same_argb}
use Rattle.track_matte.specs.declared.matte.Matte.{Matte}
use Rattle.track_matte.specs.Mattes.{matted, value_of}

rounded_none : (x w : ℕ) → 0 < w → x ≡ 0 → rounded x w ≡ 0
rounded_none x w some e = div-eq_of_lt (omega arith)

pub scale_none : (p : Argb) → scale_of p 0 ≡ clear
scale_none p =
    same_argb _ _ _ _ _ _ _ _ (none p.a) (none p.r) (none p.g) (none p.b)
  where
    none : (c : ℕ) → rounded (c * 0) 10000 ≡ 0
    none c = rounded_none (c * 0) 10000 (omega arith) (omega arith)

pub scale_clear : (opacity : ℕ) → scale_of clear opacity ≡ clear
scale_clear opacity =
    same_argb _ _ _ _ _ _ _ _ none none none none
  where
    none : rounded (0 * opacity) 10000 ≡ 0
    none = rounded_none (0 * opacity) 10000 (omega arith) (omega arith)

pub matted_clear : (most : ℕ) (kind : Matte) (q : Argb) → IsDepth most → matted most kind q clear ≡ clear
matted_clear most kind q depth =
    same_argb _ _ _ _ _ _ _ _ none none none none
  where
    none : rounded (0 * value_of most kind q) most ≡ 0
    none = rounded_none (0 * value_of most kind q) most (depth_pos most depth) (omega arith)
