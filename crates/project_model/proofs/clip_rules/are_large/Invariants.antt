use Rattle.std.proofs.Common.{◌≡◌, ◌≤◌, ◌*◌, ◌^◌, take}
use Rattle.std.specs.List.{sum_by}
use Rattle.project_model.specs.Clip.{clip_length}
use Rattle.project_model.proofs.clip_rules.are_large.Given as goal

abbrev pub invariant-loop-clip : goal.invariant-loop-clip
invariant-loop-clip l = (l.bytes ≡ sum_by clip_length (take l.clip-index l.clips)) × (l.bytes ≤ l.clip-index * 2 ^ 100)
