use denote.Param.Send.{sendable}
use Rattle.frame_claims.proofs.Crossing.{claims_sync}
use Rattle.frame_worker.proofs.window.work_all.Goals as goal

pub for_each_mut-requires-sync-F : goal.for_each_mut-requires-sync-F
for_each_mut-requires-sync-F g c κs within = let y = c.type_bounds.sync-R in search (sendable, claims_sync) depth 20
