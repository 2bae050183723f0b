use Rattle.std.proofs.Common.{arith}
use Rattle.scene_cache.specs.Sharing.{receipt_of, receipts_of}
use Rattle.scene_cache.proofs.Returned.{last_of, last_open, less_left}
use Rattle.scene_cache.proofs.give.checkin_pixels.Goals as goal

pub checkin_shared-requires : goal.checkin_shared-requires
checkin_shared-requires g c =
    let pairs = c.loop-last.pixels.pairs in
    let rest = c.take.new.self.pairs in (
      omega arith,
      (
        omega arith,
        (
          c.loop-last.invariant.own,
          last_open c.args.cache.now c.args.pass.now c.loop-last.pass (receipts_of c.args.pixels.pairs) (receipts_of pairs) (receipts_of rest) (receipt_of c.in-Some.last)
              (last_of pairs rest c.in-Some.field-0-0 c.in-Some.last c.in-Some.ensures.last) c.loop-last.invariant c.requires.open,
        ),
      ),
    )

pub loop-last-preserved : goal.loop-last-preserved
loop-last-preserved g c =
    let pairs = c.loop-last.pixels.pairs in
    let rest = c.take.new.self.pairs in
    less_left c.args.cache.now c.args.pass.now c.loop-last.pass (receipts_of c.args.pixels.pairs) (receipts_of pairs) (receipts_of rest) (receipt_of c.in-Some.last)
    (last_of pairs rest c.in-Some.field-0-0 c.in-Some.last c.in-Some.ensures.last) c.loop-last.invariant c.checkin_shared.new.pass c.requires.open c.checkin_shared.ensures
