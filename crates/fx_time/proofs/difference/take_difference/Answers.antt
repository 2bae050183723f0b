use Rattle.std.proofs.Common.{◌≡◌, ◌<◌, length, ap₂, sym, ◌∙◌, arith}
use lib.Lanes.{zip2}
use Rattle.std.proofs.lemmas.Simd.{length-zip2, get_or-zip2}
use Rattle.argb_pixel.specs.Pixel.{clear}
use Rattle.argb_pixel.specs.Packed.{pixels_of}
use Rattle.argb_pixel.proofs.Parts.{pixels_length}
use Rattle.argb_pixel.proofs.Places.{put_more, front_all, put_keeps_packed}
use Rattle.fx_time.specs.Formulas.{difference_of}
use Rattle.fx_time.proofs.Spans.{front_rest}
use Rattle.fx_time.proofs.difference.take_difference.Goals as goal

pub loop-i-preserved : goal.loop-i-preserved
loop-i-preserved g c =
    let i = c.loop-i.i in
    let first = pixels_of g.row.MAX c.args.first.now in
    let old = pixels_of g.row.MAX c.args.into.now in
    let done = zip2 difference_of first old in
    let first_long : length first ≡ c.args.count = pixels_length g.row.MAX c.args.count c.args.first.now c.requires.depth c.requires.as_long in
    let old_long : length old ≡ c.args.count = pixels_length g.row.MAX c.args.count c.args.into.now c.requires.depth c.requires.long in
    let same : length done ≡ length old = length-zip2 difference_of first old (first_long ∙ sym old_long) ∙ first_long ∙ sym old_long in
    let low : i < length old = omega (arith, old_long, c.loop-i-test.true) in
    let rest = front_rest done old (pixels_of g.row.MAX c.loop-i.into) i same low c.loop-i.invariant.pixels in
    let made = c.pixel_difference.ensures ∙ ap₂ difference_of c.pixel_in.ensures (c.pixel_in-in-loop-i.ensures ∙ rest)
    ∙ sym (get_or-zip2 difference_of first old i clear clear clear (omega (arith, first_long, c.loop-i-test.true)) low) in
    record {
      packed = put_keeps_packed g.row.MAX i c.loop-i.into c.put_pixel.new.into c.pixel_difference.result c.requires.depth c.loop-i.invariant.packed c.put_pixel.ensures.long c.put_pixel.ensures.pixels c.put_pixel.ensures.premultiplied;
      pixels = put_more done old (pixels_of g.row.MAX c.loop-i.into) (pixels_of g.row.MAX c.put_pixel.new.into) i c.pixel_difference.result same low c.loop-i.invariant.pixels made c.put_pixel.ensures.pixels;
    }

pub returns-clause-pixels : goal.returns-clause-pixels
returns-clause-pixels g c =
    let first = pixels_of g.row.MAX c.args.first.now in
    let old = pixels_of g.row.MAX c.args.into.now in
    let done = zip2 difference_of first old in
    let first_long : length first ≡ c.args.count = pixels_length g.row.MAX c.args.count c.args.first.now c.requires.depth c.requires.as_long in
    let old_long : length old ≡ c.args.count = pixels_length g.row.MAX c.args.count c.args.into.now c.requires.depth c.requires.long in
    let same : length done ≡ length old = length-zip2 difference_of first old (first_long ∙ sym old_long) ∙ first_long ∙ sym old_long in
    front_all done old (pixels_of g.row.MAX c.loop-i.into) c.loop-i.i same (omega (arith, old_long, c.loop-i-test.false)) c.loop-i.invariant.pixels
