-- Open receipts, and for how many more there is room for sure.
use Rattle.std.specs.Prelude.{ℕ, List}
use Rattle.compute_cache.specs.declared.hold.Hold.{Hold}

pub record Room : Type 0 where
  pub holds : List Hold
  pub owed : ℕ
