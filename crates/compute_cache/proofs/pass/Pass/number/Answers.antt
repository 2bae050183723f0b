use Rattle.std.proofs.Common.{subst}
use Rattle.compute_cache.specs.Passes.{CachePass}
use Rattle.compute_cache.specs.Suite.{ReceiptsAreLive}
use Rattle.compute_cache.proofs.Passing.{receipts_live}
use Rattle.compute_cache.proofs.pass.Pass.number.Goals as goal

pub returns-clause-live : goal.returns-clause-live
returns-clause-live g c = subst (λ (p : CachePass _). ReceiptsAreLive p) c.self.view_is (receipts_live c.self.inside.base c.self.inside.receipts c.self.invariant)
