use Rattle.std.proofs.Common.{◌≡◌, ◌<◌, length, rules}
use Rattle.scene_meaning.specs.Scene.{IsPremultipliedClip}
use Rattle.scene_meaning.proofs.Lists.{all_more, all_of}
use Rattle.scene_meaning.proofs.scene.clips_are_premultiplied.Goals as goal

pub loop-clip-preserved : goal.loop-clip-preserved
loop-clip-preserved c =
    let within : c.loop-clip.clip-index < length c.args.clips.now = search rules in
    all_more IsPremultipliedClip c.args.clips.now c.loop-clip.clip-index c.clip-item.result c.loop-clip.invariant within c.clip-item.is c.depth-premultiplied.ensures.pixels

pub returns : goal.returns
returns c =
    let end : c.loop-clip.clip-index ≡ length c.args.clips.now = search rules in
    all_of IsPremultipliedClip c.args.clips.now c.loop-clip.clip-index c.loop-clip.invariant end
