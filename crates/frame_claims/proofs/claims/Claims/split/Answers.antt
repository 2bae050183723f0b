use Rattle.std.proofs.Common.{◌<◌, sym, ap, ◌∙◌, subst, arith}
use Rattle.frame_claims.specs.Claims.{Claims, Seat}
use Rattle.frame_claims.proofs.Seats.{own_table}
use Rattle.frame_claims.proofs.Joining.{splits}
use Rattle.frame_claims.proofs.claims.Claims.split.Goals as goal

pub split_seat-new-requires : goal.split_seat-new-requires
split_seat-new-requires c =
    let p = c.seat.inside.seat in
    let shared = c.self.inside.table.shared in (
      own_table p shared.table_id c.args.seat.now c.args.self.now c.seat.view_is (ap (λ (x : Claims). x.id) c.self.view_is) c.requires.own,
      omega (arith, c.self.invariant.words),
      splits shared.key p.id p.me.0 c.seat.invariant.idle (ap (λ (x : Seat). x.opening) c.seat.view_is ∙ c.requires.opening)
          (subst (λ (x : Seat). x.made < 4294967295) (sym c.seat.view_is) c.requires.count),
    )
