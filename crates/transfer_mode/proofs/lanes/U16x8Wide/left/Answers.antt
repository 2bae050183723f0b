use Rattle.std.proofs.Common.{ℕ, ◌+◌, ◌-◌, ◌%◌, ◌≤◌, ◌∙◌, arith}
use Rattle.std.proofs.lemmas.Simd.{zip2_splat_left}
use Rattle.transfer_mode.proofs.Eights.{map_where}
use Rattle.transfer_mode.proofs.lanes.U16x8Wide.left.Goals as goal

pub returns : goal.returns
returns c fits =
    zip2_splat_left {X = ℕ} (λ (x y : ℕ). (x + (65536 - y)) % 65536) 255 8 c.args.a c.fits-a.0 ∙ map_where (λ x. x ≤ 255) (λ x. (255 + (65536 - x)) % 65536) (λ x. 255 - x) (λ x h. omega (arith, h)) c.args.a fits
