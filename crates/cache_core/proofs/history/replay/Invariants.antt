use Rattle.std.proofs.Common.{◌≡◌, take}
use Rattle.std.specs.Prelude.{Some}
use Rattle.cache_core.specs.History.{replay_of}
use Rattle.cache_core.proofs.history.replay.Given as goal

-- the entries so far leave the core
abbrev pub invariant-loop-at : goal.invariant-loop-at
invariant-loop-at l = replay_of l.budget (take l.at l.entries) ≡ Some l.core
