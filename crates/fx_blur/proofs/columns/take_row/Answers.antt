use Rattle.std.proofs.Common.{◌<◌, length, get_or, sym, subst, ap, ◌∙◌, arith}
use Rattle.std.proofs.lemmas.List.{get_or_read}
use Rattle.argb_pixel.specs.Pixel.{Argb, clear}
use Rattle.argb_pixel.specs.Packed.{pixels_of}
use Rattle.fx_blur.specs.Columns.{Holds, minus}
use Rattle.fx_blur.proofs.Each.{made_more, still}
use Rattle.fx_blur.proofs.columns.take_row.Goals as goal

pub minus-requires : goal.minus-requires
minus-requires g c =
    let there : c.loop-i.i < length c.loop-i.columns = omega (arith, c.loop-i.auto.columns, c.loop-i-test.true) in
    let item = still minus c.args.columns.now (pixels_of g.row.MAX c.args.row.now) c.loop-i.columns c.loop-i.i c.index-columns-i.result there c.loop-i.invariant c.index-columns-i.is in (
      omega arith,
      subst (λ (p : Argb). Holds p c.pixel_in.result) (sym item)
          (subst (λ (p : Argb). Holds (get_or c.args.columns.now c.loop-i.i clear) p) (sym c.pixel_in.ensures) (c.requires.parts c.loop-i.i c.loop-i-test.true)),
    )

pub loop-i-preserved : goal.loop-i-preserved
loop-i-preserved g c =
    let there : c.loop-i.i < length c.loop-i.columns = omega (arith, c.loop-i.auto.columns, c.loop-i-test.true) in
    made_more minus c.args.columns.now (pixels_of g.row.MAX c.args.row.now) c.loop-i.columns c.loop-i.i c.minus.result there c.loop-i.invariant
    (c.minus.ensures ∙ ap (λ (p : Argb). minus p c.pixel_in.result) (get_or_read c.loop-i.columns c.loop-i.i c.index-columns-i.result there c.index-columns-i.is clear)
    ∙ ap (minus _) c.pixel_in.ensures)
