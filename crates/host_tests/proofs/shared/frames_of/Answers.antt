use Rattle.scene_cache.proofs.Sharing.{as_before_trans}
use Rattle.host_tests.proofs.shared.frames_of.Goals as goal

pub frames-preserved : goal.frames-preserved
frames-preserved g c = record { pass = as_before_trans c.args.pass.now c.frames.pass c.frame_of.new.pass c.frames.invariant.pass c.in_ok-bytes.ensures.pass }
