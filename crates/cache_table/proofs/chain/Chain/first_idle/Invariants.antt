use Rattle.std.proofs.Common.{◌≡◌, ◌-◌}
use Rattle.std.specs.Prelude.{find}
use Rattle.cache_table.specs.Kept.{is_kept_idle}
use Rattle.cache_table.proofs.Walking.{idle_from}
use Rattle.cache_table.proofs.chain.Chain.first_idle.Given as goal

-- the first idle row is among those to come
abbrev pub invariant-loop-turn : goal.invariant-loop-turn
invariant-loop-turn g l = find (λ row. is_kept_idle row.1) l.self ≡ idle_from l.self-inside.slots (l._turn-end - l._turn) l.next
