use Rattle.project_write.specs.Parts.{IsClip}
use Rattle.project_write.proofs.ListLemmas.{zip_next}
use Rattle.project_write.proofs.comps.each_clip.Goals as goal

pub loop-clip-preserved : goal.loop-clip-preserved
loop-clip-preserved c =
    zip_next IsClip c.args.clips.now c.loop-clip.clip-index c.clip-item.result c.loop-clip.values.items c.push.new.self.items _
    c.loop-clip-test.true c.loop-clip.invariant c.in_ok-push.ensures.items c.clip-item.is c.in_ok-clip_value.ensures
