use Rattle.std.proofs.Common.{rules}
use Rattle.frame_draw.proofs.Sharing.{all_back, all_here, left_here, left_own}
use Rattle.scene_cache.specs.Sharing.{receipts_of}
use Rattle.frame_draw.proofs.effects.draw_effect.Goals as goal

pub checkin_all-requires-clause-open : goal.checkin_all-requires-clause-open
checkin_all-requires-clause-open g c κs within = all_here c.args.context.now.cache.now c.args.pass.now (receipts_of c.args.pixels.pairs) c.args.sums.items c.requires.opened

pub checkin_pixels-requires : goal.checkin_pixels-requires
checkin_pixels-requires g c =
    let own = left_own c.args.context.now.cache.now c.args.pass.now c.checkin_all.new.pass (receipts_of c.args.pixels.pairs) c.args.sums.items c.requires.own c.requires.opened c.checkin_all.ensures in
    let here = left_here c.args.context.now.cache.now c.args.pass.now c.checkin_all.new.pass (receipts_of c.args.pixels.pairs) c.args.sums.items c.requires.opened c.checkin_all.ensures in
    search (rules, own, here)

pub returns-clause-back : goal.returns-clause-back
returns-clause-back g c = all_back c.args.context.now.cache.now c.args.pass.now c.checkin_all.new.pass c.checkin_pixels.new.pass (receipts_of c.args.pixels.pairs) c.args.sums.items c.checkin_all.ensures c.checkin_pixels.ensures
