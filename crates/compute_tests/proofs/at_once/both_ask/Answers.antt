use denote.Param.Send.{sendable}
use Rattle.std.proofs.Crossing.{sync}
use Rattle.compute_cache.proofs.Crossing.{cache_sync, pass_send}
use Rattle.compute_tests.proofs.jobs.Counted.TheSendSync as counted
use Rattle.compute_tests.proofs.at_once.both_ask.Goals as goal

pub join_mut-first-requires-send-F : goal.join_mut-first-requires-send-F
join_mut-first-requires-send-F g c κs within = let y = c.type_bounds.sync-R in search (sendable, cache_sync, pass_send, sync, counted.the_sync) depth 20
