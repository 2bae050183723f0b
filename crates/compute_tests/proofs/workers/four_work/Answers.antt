use denote.Param.Send.{sendable}
use Rattle.std.proofs.Crossing.{sync}
use Rattle.compute_tests.proofs.Working.{pictures_sync, worker_send}
use Rattle.compute_tests.proofs.histogram.Histograms.TheSendSync as class
use Rattle.compute_tests.proofs.workers.four_work.Goals as goal

pub join_mut-requires-send-F : goal.join_mut-requires-send-F
join_mut-requires-send-F g c κs within =
    let y = c.type_bounds.sync-R in
    search (sendable, pictures_sync, worker_send, sync, class.the_sync) depth 20
