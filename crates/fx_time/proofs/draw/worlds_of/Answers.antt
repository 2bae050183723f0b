use Rattle.std.proofs.Common.{◌≡◌, length, arith}
use Rattle.std.proofs.lemmas.List.{length-map}
use Rattle.geom_rect.specs.Rect.{origin}
use Rattle.argb_pixel.specs.Pixel.{clear}
use Rattle.effect_api.specs.Checked.{planes_of}
use Rattle.fx_time.proofs.Spans.{planes_more}
use Rattle.fx_time.proofs.draw.worlds_of.Goals as goal

pub loop-k-preserved : goal.loop-k-preserved
loop-k-preserved g c =
    let planes = planes_of c.args.pixels.now.pairs in
    let long : length planes ≡ length c.args.pixels.now.pairs = length-map c.args.pixels.now.pairs _ in
    planes_more c.loop-k.worlds.items c.push.new.self.items c.checkout_want.result planes c.loop-k.k record { extent = origin; at = λ x y. clear }
    c.loop-k.invariant (omega (arith, long, c.requires, c.loop-k-test.true)) c.checkout_want.ensures.plane c.in_ok-push.ensures.items
