use Rattle.std.proofs.Common.{◌≡◌}
use Rattle.fx_time.specs.Asked.{asked_of_each}
use Rattle.fx_time.proofs.pre_render.ask_each.Given as goal

abbrev pub invariant-loop-k : goal.invariant-loop-k
invariant-loop-k l = l.checkouts.items ≡ asked_of_each l.wants l.extents l.rect l.k
