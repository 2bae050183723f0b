use Rattle.std.proofs.Common.{take}
use Rattle.std.specs.List.{All}
use Rattle.scene_meaning.specs.Scene.{IsPremultipliedClip}
use Rattle.scene_meaning.proofs.scene.clips_are_premultiplied.Given as goal

abbrev pub invariant-loop-clip : goal.invariant-loop-clip
invariant-loop-clip l = All IsPremultipliedClip (take l.clip-index l.fn.clips)
