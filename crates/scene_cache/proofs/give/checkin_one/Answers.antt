use Rattle.scene_cache.proofs.Returned.{one_back, receipt_open}
use Rattle.scene_cache.proofs.give.checkin_one.Goals as goal

pub checkin-requires-clause-receipt : goal.checkin-requires-clause-receipt
checkin-requires-clause-receipt g c κs within = receipt_open c.args.cache.now c.args.pass.now c.args.receipt c.requires.open

pub returns : goal.returns
returns g c =
    one_back c.args.cache.now c.args.pass.now c.checkin.new.pass c.args.receipt c.number-number.ensures.open.rising
    c.checkin.ensures.called.1.called.later c.checkin.ensures.turns c.checkin.ensures.receipts
