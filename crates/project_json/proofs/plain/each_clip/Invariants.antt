use Rattle.std.proofs.Common.{◌≡◌, map, take}
use Rattle.serde_json.specs.View.{view}
use Rattle.project_json.specs.PlainData.{plain_clip_of}
use Rattle.project_json.proofs.plain.each_clip.Given as goal

abbrev pub invariant-loop-clip : goal.invariant-loop-clip
invariant-loop-clip l = l.plain.items ≡ map (λ v. plain_clip_of (view v)) (take l.clip-index l.clips)
