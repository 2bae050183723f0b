use denote.Param.Send.{sendable}
use Rattle.frame_claims.proofs.Crossing.{shared}
use Rattle.frame_claims.proofs.tests.both_drain.Goals as goal

pub join_mut-requires-send-F : goal.join_mut-requires-send-F
join_mut-requires-send-F g c κs within = let y = c.type_bounds.sync-R in search (sendable, shared) depth 20
