use Rattle.std.proofs.Common.{map, take}
use Rattle.std.specs.List.{AllZip}
use Rattle.serde_json.specs.View.{view}
use Rattle.project_write.specs.Parts.{IsClip}
use Rattle.project_write.proofs.comps.each_clip.Given as goal

abbrev pub invariant-loop-clip : goal.invariant-loop-clip
invariant-loop-clip l = AllZip IsClip (take l.clip-index l.clips) (map view l.values.items)
