use Rattle.std.proofs.Common.{◌≡◌, take, map}
use Rattle.param_stream.specs.Curve.{key_tick}
use Rattle.param_stream.proofs.stream.ticks_of.Given as goal

abbrev pub invariant-loop-key : goal.invariant-loop-key
invariant-loop-key l = l.ticks.items ≡ map (key_tick l.base.ticks) (take l.key-index l.keys)
