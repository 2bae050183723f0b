use denote.Param.Send.{sendable}
use Rattle.std.proofs.Crossing.{sync}
use Rattle.compute_cache.proofs.Crossing.{cache_sync}
use Rattle.compute_tests.proofs.Seated.{seat_send}
use Rattle.compute_tests.proofs.stress.four_work.Goals as goal

pub join_mut-requires-send-F : goal.join_mut-requires-send-F
join_mut-requires-send-F g c κs within = let y = c.type_bounds.sync-R in search (sendable, cache_sync, seat_send, sync) depth 20
