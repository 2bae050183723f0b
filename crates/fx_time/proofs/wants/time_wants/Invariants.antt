use Rattle.std.proofs.Common.{◌≡◌, map}
use Rattle.std.specs.List.{range_with_len}
use Rattle.project_model.specs.Effects.{use_of}
use Rattle.fx_time.specs.Time.{want_of}
use Rattle.fx_time.proofs.wants.time_wants.Given as goal

abbrev pub invariant-loop-k : goal.invariant-loop-k
invariant-loop-k l = l.wants.items ≡ map (want_of l.kind (use_of l.fx) l.at) (range_with_len 0 l.k)
