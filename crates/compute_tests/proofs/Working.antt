-- A worker of the histogram's example may go to a thread, and threads may share its cache.
use denote.Struct.Declared.{shape}
use denote.Param.Send.{IsSend, IsSync, sendable, recorded_send, struct_send}
use Rattle.compute_cache.proofs.Crossing.{cache_sync, pass_send}
use Rattle.compute_cache.specs.contracts.cache.Cache as Cache
use Rattle.compute_tests.proofs.histogram.Histogram.TheSendSync as histogram
use Rattle.compute_tests.specs.contracts.histogram.Histogram as Histogram
use Rattle.compute_tests.specs.contracts.histogram.Pictures as Pictures
use Rattle.compute_tests.specs.contracts.histogram.PicturesKeeps.TheImpl.{ghosts}
use Rattle.compute_tests.specs.contracts.workers.Worker.{the_row, the_type, the_field}

pub pictures_sync : IsSync (Cache.the_row Pictures.the_row Histogram.the_row ghosts)
pictures_sync = cache_sync Pictures.the_row Histogram.the_row ghosts histogram.the_send histogram.the_sync

pub worker_send : IsSend the_row
worker_send =
    recorded_send the_field.row _ _ the_type.to_one
    (struct_send (shape the_type) (pass_send Pictures.the_row Histogram.the_row ghosts histogram.the_send histogram.the_sync, (search (sendable) depth 20, (search (sendable) depth 20, (search (sendable) depth 20, tt)))))
