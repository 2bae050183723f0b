use Rattle.std.proofs.Common.{◌≡◌, ◌-◌, drop}
use Rattle.param_stream.specs.Curve.{rises, rises_from, key_at}
use Rattle.param_stream.proofs.key.rises.Given as goal

abbrev pub invariant-loop-index : goal.invariant-loop-index
invariant-loop-index l = rises l.keys ≡ rises_from (key_at l.keys (l.index - 1)) (drop l.index l.keys)
