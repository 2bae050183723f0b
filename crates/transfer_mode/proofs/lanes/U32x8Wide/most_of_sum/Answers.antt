use Rattle.std.proofs.Common.{◌≡◌, ℕ, ◌+◌, ◌*◌, ◌%◌, ap, ap₂, ◌∙◌, replicate, arith}
use lib.Lanes.{zip2}
use Rattle.std.proofs.lemmas.List.{map-id}
use Rattle.transfer_mode.proofs.Eights.{over_sum}
use Rattle.transfer_mode.proofs.lanes.U32x8Wide.most_of_sum.Goals as goal

wraps : (x y : ℕ) → (x + y) % 4294967296 * 32768 % 4294967296 ≡ (x + y) * 32768 % 4294967296
wraps x y = omega arith

pub returns : goal.returns
returns c =
    ap₂ (λ a b. zip2 (λ (x y : ℕ). x * y % 4294967296) (zip2 (λ (x y : ℕ). (x + y) % 4294967296) a b) (replicate 8 32768)) (map-id c.args.a) (map-id c.args.b)
    ∙ over_sum _ _ 32768 c.args.a c.args.b 8 c.fits-a.0 c.fits-b.0 ∙ ap (λ (f : ℕ → ℕ → ℕ). zip2 f c.args.a c.args.b) (λ i x y. wraps x y i)
