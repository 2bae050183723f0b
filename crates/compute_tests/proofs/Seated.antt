-- A seat of the stress test may go to a thread.
use denote.Struct.Declared.{shape}
use denote.Param.Send.{IsSend, sendable, recorded_send, struct_send}
use Rattle.std.proofs.Crossing.{Vec-send}
use Rattle.compute_cache.proofs.Crossing.{pass_send}
use Rattle.compute_tests.proofs.seat.Answer.TheSendSync as answer
use Rattle.compute_tests.specs.contracts.seat.Seat.{the_row, the_type, the_field}

pub seat_send : IsSend the_row
seat_send =
    recorded_send the_field.row _ _ the_type.to_one
    (struct_send (shape the_type) (search (sendable, pass_send) depth 20, (search (sendable, Vec-send, answer.the_send) depth 20, tt)))
