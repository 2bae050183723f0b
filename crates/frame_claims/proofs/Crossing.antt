-- Claims may be shared by threads. Where threads are joined, `search (sendable, shared)` shows it of what their closures take.
use denote.RattleType.{RattleType}
use denote.Struct.Declared.{shape}
use denote.Param.Send.{IsSend, IsSync, sendable, part_keyless, view_sync, recorded_sync, struct_sync}
use Rattle.std.proofs.Crossing.{crosses}
use Rattle.atomic_table.proofs.owned.Table.TheSendSync as whole
use Rattle.atomic_table.specs.contracts.shared.Seat as Seat
use Rattle.atomic_table.proofs.shared.Seat.TheSendSync as seat
use Rattle.frame_claims.specs.contracts.claims.Claims as Claims
use Rattle.frame_claims.specs.contracts.claims.Claims.TheInside as Inside
use Rattle.frame_claims.proofs.seat.ClaimSeat.TheSendSync as own
use Rattle.frame_claims.proofs.rule.Span.TheSendSync as span

-- what a `&` to a seat of a table holds is a part of what the seat owns
pub table_seat_sync : (S V : RattleType) → IsSend S → IsSync (Seat.the_row S V)
table_seat_sync S V s = record { shared = λ d b o ν q. part_keyless (Seat.the_row S V) (seat.the_send S V s) q d b o }

pub claims_sync : IsSync Claims.the_row
claims_sync =
    view_sync Inside.the_row _ _ _ _
    (recorded_sync Inside.the_field.row _ _ Inside.the_type.to_one
    (struct_sync (shape Inside.the_type) (
      search (sendable, crosses, whole.the_field_sync) depth 20,
      (span.the_field_sync, (search (sendable, crosses, table_seat_sync) depth 20, tt)),
    )))

pub ruleset shared = (crosses, claims_sync, own.the_send)
