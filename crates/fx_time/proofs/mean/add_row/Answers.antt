use Rattle.std.proofs.Common.{◌<◌, length, get_or, sym, subst, ap, ◌∙◌, arith}
use Rattle.std.proofs.lemmas.List.{get_or_read}
use Rattle.argb_pixel.specs.Pixel.{Argb, IsPremultiplied, clear}
use Rattle.argb_pixel.specs.Packed.{pixels_of}
use Rattle.fx_blur.specs.Sums.{plus}
use Rattle.fx_blur.proofs.Each.{made_more, still}
use Rattle.fx_time.proofs.mean.add_row.Goals as goal

pub plus-requires : goal.plus-requires
plus-requires g c =
    let there : c.loop-i.i < length c.loop-i.sums = omega (arith, c.loop-i.auto.sums, c.loop-i-test.true) in
    let item = still plus c.args.sums.now (pixels_of g.row.MAX c.args.row.now) c.loop-i.sums c.loop-i.i c.index-sums-i.result there c.loop-i.invariant c.index-sums-i.is in (
      omega arith,
      subst (λ (p : Argb). IsPremultiplied 4294967295 (plus p c.pixel_in.result)) (sym item)
          (subst (λ (p : Argb). IsPremultiplied 4294967295 (plus (get_or c.args.sums.now c.loop-i.i clear) p)) (sym c.pixel_in.ensures) (c.requires.fits c.loop-i.i c.loop-i-test.true)),
    )

pub loop-i-preserved : goal.loop-i-preserved
loop-i-preserved g c =
    let there : c.loop-i.i < length c.loop-i.sums = omega (arith, c.loop-i.auto.sums, c.loop-i-test.true) in
    made_more plus c.args.sums.now (pixels_of g.row.MAX c.args.row.now) c.loop-i.sums c.loop-i.i c.plus.result there c.loop-i.invariant
    (c.plus.ensures ∙ ap (λ (p : Argb). plus p c.pixel_in.result) (get_or_read c.loop-i.sums c.loop-i.i c.index-sums-i.result there c.index-sums-i.is clear)
    ∙ ap (plus _) c.pixel_in.ensures)
