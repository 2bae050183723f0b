use Rattle.std.proofs.Common.{ℕ, ◌*◌, ◌%◌, ap₂}
use lib.Lanes.{zip2}
use Rattle.std.proofs.lemmas.List.{map-id}
use Rattle.transfer_mode.proofs.lanes.U32x8Wide.product.Goals as goal

pub returns : goal.returns
returns c = ap₂ (λ a b. zip2 (λ (x y : ℕ). x * y % 4294967296) a b) (map-id c.args.a) (map-id c.args.b)
