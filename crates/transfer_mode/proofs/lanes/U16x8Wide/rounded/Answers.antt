use Rattle.std.proofs.Common.{◌≡◌, ℕ, ◌+◌, ◌%◌, ◌/◌, ◌≤◌, sym, ◌∙◌, arith}
use Rattle.argb_pixel.specs.Pixel.{rounded}
use Rattle.std.proofs.lemmas.List.{map-id}
use Rattle.std.proofs.lemmas.Simd.{zip2_of_maps, splat_is_map}
use Rattle.transfer_mode.proofs.Eights.{map_where}
use Rattle.transfer_mode.proofs.lanes.U16x8Wide.rounded.Goals as goal

from_shifts : (x : ℕ) → x ≤ 65025 → ((x + 128) % 65536 + (x + 128) % 65536 / 256) % 65536 / 256 ≡ rounded x 255
from_shifts x h = omega (arith, h)

pub returns : goal.returns
returns c fits =
    let xs = c.args.self in
    let long = c.fits-self.0 in
    let me = sym (map-id xs) in
    let add = splat_is_map xs 8 128 long in
    let by = splat_is_map xs 8 8 long in
    zip2_of_maps _ _ _ xs (zip2_of_maps _ _ _ xs (zip2_of_maps _ _ _ xs me add) (zip2_of_maps _ _ _ xs (zip2_of_maps _ _ _ xs me add) by)) by
    ∙ map_where (λ x. x ≤ 65025) _ (λ x. rounded x 255) from_shifts xs fits
