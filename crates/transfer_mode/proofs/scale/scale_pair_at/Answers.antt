use Rattle.std.proofs.Common.{◌≡◌, ℕ, ◌*◌, ◌≤◌, ◌++◌, take, drop, flat_map, ap, subst, ◌∙◌, arith}
use Rattle.argb_pixel.specs.Pixel.{Argb, IsPremultiplied, scale_of}
use Rattle.argb_pixel.specs.Packed.{pixel_size, packed, pixels_of}
use Rattle.argb_pixel.proofs.Channels.{part_premultiplied}
use Rattle.transfer_mode.specs.Lanes.{channels}
use Rattle.transfer_mode.proofs.Pairs.{deeper}
use Rattle.transfer_mode.proofs.scale.scale_pair_at.Goals as goal

pub returns : goal.returns
returns g c p q h k e =
    let at = c.args.at in
    let row = c.args.row.now in
    let most : g.row.MAX ≤ 32768 = omega (arith, c.requires.depth) in
    let loaded = c.load.ensures ∙ ap (λ (n : ℕ). flat_map channels (pixels_of n (take (2 * pixel_size n) (drop at row)))) c.requires.lanes ∙ ap (flat_map channels) e in
    let scaled = c.scale_two-scaled.ensures p q (deeper g.row.MAX p most h) (deeper g.row.MAX q most k) loaded in
    let stored = subst (λ (n : ℕ). (x y : Argb) → IsPremultiplied n x → IsPremultiplied n y → c.scale_two-scaled.result ≡ channels x ++ channels y
    → c.store.new.into ≡ take at row ++ (packed n x ++ (packed n y ++ drop (2 * pixel_size n) (drop at row)))) c.requires.lanes c.store.ensures in
    stored (scale_of p c.args.opacity) (scale_of q c.args.opacity) (part_premultiplied g.row.MAX 10000 c.args.opacity p (omega arith) c.requires.part h) (part_premultiplied g.row.MAX 10000 c.args.opacity q (omega arith) c.requires.part k) scaled
