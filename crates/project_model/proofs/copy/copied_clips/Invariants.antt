use Rattle.std.proofs.Common.{◌≡◌, take}
use Rattle.project_model.proofs.copy.copied_clips.Given as goal

abbrev pub invariant-loop-clip : goal.invariant-loop-clip
invariant-loop-clip l = l.copies.items ≡ take l.clip-index l.clips
