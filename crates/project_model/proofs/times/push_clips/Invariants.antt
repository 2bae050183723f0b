use Rattle.std.proofs.Common.{◌≡◌, ◌++◌, map, take}
use Rattle.project_model.proofs.times.push_clips.Given as goal

abbrev pub invariant-loop-clip : goal.invariant-loop-clip
invariant-loop-clip l = l.times.items ≡ l.initial.times.items ++ map (λ clip. clip.frame) (take l.clip-index l.clips)
