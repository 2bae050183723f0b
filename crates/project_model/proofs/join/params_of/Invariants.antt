use Rattle.std.proofs.Common.{◌≡◌, ◌++◌, map}
use Rattle.std.specs.List.{All}
use Rattle.std.specs.Vec.Iter.{into_iter_items}
use Rattle.project_model.proofs.join.params_of.Given as goal

abbrev pub invariant-loop-keys : goal.invariant-loop-keys
invariant-loop-keys l =
    (map (λ curve. curve.keys) l.streams.items ≡ l.yielded)
    × All (λ curve. curve.base ≡ l.base.ticks) l.streams.items
    × (l.yielded ++ into_iter_items l.keys-iterator ≡ l.fn.plain)
