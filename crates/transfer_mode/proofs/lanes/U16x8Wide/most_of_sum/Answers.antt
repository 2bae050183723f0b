use Rattle.std.proofs.Common.{◌≡◌, ℕ, ◌+◌, ◌*◌, ◌%◌, ap, ◌∙◌, arith}
use lib.Lanes.{zip2}
use Rattle.transfer_mode.proofs.Eights.{over_sum}
use Rattle.transfer_mode.proofs.lanes.U16x8Wide.most_of_sum.Goals as goal

wraps : (x y : ℕ) → (x + y) % 65536 * 255 % 65536 ≡ (x + y) * 255 % 65536
wraps x y = omega arith

pub returns : goal.returns
returns c = over_sum _ _ 255 c.args.a c.args.b 8 c.fits-a.0 c.fits-b.0 ∙ ap (λ (f : ℕ → ℕ → ℕ). zip2 f c.args.a c.args.b) (λ i x y. wraps x y i)
