use Rattle.std.proofs.Common.{◌≡◌, ◌∙◌, length, sym, subst, All, arith}
use Rattle.std.proofs.lemmas.List.{get_or_read, take_all}
use Rattle.argb_pixel.specs.Pixel.{IsPremultiplied, clear}
use Rattle.argb_pixel.specs.Packed.{pixels_of}
use Rattle.argb_pixel.proofs.Parts.{pixels_length, packed_made}
use Rattle.argb_pixel.proofs.Places.{put_more, front_all, all_more}
use Rattle.argb_world.proofs.packed.pack_row.Goals as goal

pub loop-i-preserved : goal.loop-i-preserved
loop-i-preserved g c =
    let old = pixels_of g.row.MAX c.args.into.now in
    let same : length c.args.from.now ≡ length old = sym (pixels_length g.row.MAX (length c.args.from.now) c.args.into.now c.requires.depth c.requires.long) in
    let low = c.loop-i-test.true in
    let one = get_or_read c.args.from.now c.loop-i.i c.index-from-i.result low c.index-from-i.is clear in
    record {
      long = c.put_pixel.ensures.long ∙ c.loop-i.invariant.long;
      pixels = put_more c.args.from.now old (pixels_of g.row.MAX c.loop-i.into) (pixels_of g.row.MAX c.put_pixel.new.into) c.loop-i.i c.index-from-i.result same (omega (arith, same, low)) c.loop-i.invariant.pixels one c.put_pixel.ensures.pixels;
      premultiplied = all_more (IsPremultiplied g.row.MAX) c.args.from.now c.loop-i.i c.index-from-i.result c.loop-i.invariant.premultiplied c.put_pixel.ensures.premultiplied low one;
    }

pub returns-clause-pixels : goal.returns-clause-pixels
returns-clause-pixels g c =
    let old = pixels_of g.row.MAX c.args.into.now in
    let same : length c.args.from.now ≡ length old = sym (pixels_length g.row.MAX (length c.args.from.now) c.args.into.now c.requires.depth c.requires.long) in
    front_all c.args.from.now old (pixels_of g.row.MAX c.loop-i.into) c.loop-i.i same (omega (arith, same, c.loop-i-test.false)) c.loop-i.invariant.pixels

pub returns-clause-packed : goal.returns-clause-packed
returns-clause-packed g c =
    let old = pixels_of g.row.MAX c.args.into.now in
    let same : length c.args.from.now ≡ length old = sym (pixels_length g.row.MAX (length c.args.from.now) c.args.into.now c.requires.depth c.requires.long) in
    let all = front_all c.args.from.now old (pixels_of g.row.MAX c.loop-i.into) c.loop-i.i same (omega (arith, same, c.loop-i-test.false)) c.loop-i.invariant.pixels in
    packed_made g.row.MAX (length c.args.from.now) c.loop-i.into c.requires.depth (c.loop-i.invariant.long ∙ c.requires.long)
    (subst (All (IsPremultiplied g.row.MAX)) (take_all c.loop-i.i c.args.from.now c.loop-i-test.false ∙ sym all) c.loop-i.invariant.premultiplied)
