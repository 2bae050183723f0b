use Rattle.std.proofs.Common.{◌≡◌, ◌+◌, map}
use Rattle.std.specs.List.{range_with_len}
use Rattle.project_model.specs.Effects.{use_of}
use Rattle.fx_time.specs.Time.{strength_of}
use Rattle.fx_time.proofs.draw.strengths_of.Given as goal

abbrev pub invariant-loop-i : goal.invariant-loop-i
invariant-loop-i l = l.strengths.items ≡ map (λ i. strength_of (use_of l.fx) l.at (i + 1)) (range_with_len 0 l.i)
