use Rattle.std.proofs.Common.{◌≡◌, ◌∙◌, length, replicate, sym, subst, All, arith}
use Rattle.std.proofs.lemmas.List.{length-replicate, get_or-replicate, take_all}
use Rattle.argb_pixel.specs.Pixel.{IsPremultiplied, clear}
use Rattle.argb_pixel.specs.Packed.{pixels_of}
use Rattle.argb_pixel.proofs.Parts.{pixels_length, packed_made}
use Rattle.argb_pixel.proofs.Places.{put_more, front_all, all_more}
use Rattle.argb_world.proofs.packed.fill_packed.Goals as goal

pub loop-i-preserved : goal.loop-i-preserved
loop-i-preserved g c =
    let old = pixels_of g.row.MAX c.args.into.now in
    let many = length-replicate c.args.count c.args.colour in
    let same : length (replicate c.args.count c.args.colour) ≡ length old = many ∙ sym (pixels_length g.row.MAX (c.args.count) c.args.into.now c.requires.depth c.requires.long) in
    let low = c.loop-i-test.true in
    record {
      long = c.put_pixel.ensures.long ∙ c.loop-i.invariant.long;
      pixels = put_more (replicate c.args.count c.args.colour) old (pixels_of g.row.MAX c.loop-i.into) (pixels_of g.row.MAX c.put_pixel.new.into) c.loop-i.i _ same (omega (arith, same, many, low)) c.loop-i.invariant.pixels (sym (get_or-replicate c.args.count c.loop-i.i c.args.colour clear low)) c.put_pixel.ensures.pixels;
      premultiplied = all_more (IsPremultiplied g.row.MAX) (replicate c.args.count c.args.colour) c.loop-i.i _ c.loop-i.invariant.premultiplied c.put_pixel.ensures.premultiplied (omega (arith, many, low)) (sym (get_or-replicate c.args.count c.loop-i.i c.args.colour clear low));
    }

pub returns-clause-pixels : goal.returns-clause-pixels
returns-clause-pixels g c =
    let old = pixels_of g.row.MAX c.args.into.now in
    let many = length-replicate c.args.count c.args.colour in
    let same : length (replicate c.args.count c.args.colour) ≡ length old = many ∙ sym (pixels_length g.row.MAX (c.args.count) c.args.into.now c.requires.depth c.requires.long) in
    front_all (replicate c.args.count c.args.colour) old (pixels_of g.row.MAX c.loop-i.into) c.loop-i.i same (omega (arith, same, many, c.loop-i-test.false)) c.loop-i.invariant.pixels

pub returns-clause-packed : goal.returns-clause-packed
returns-clause-packed g c =
    let old = pixels_of g.row.MAX c.args.into.now in
    let many = length-replicate c.args.count c.args.colour in
    let same : length (replicate c.args.count c.args.colour) ≡ length old = many ∙ sym (pixels_length g.row.MAX (c.args.count) c.args.into.now c.requires.depth c.requires.long) in
    let all = front_all (replicate c.args.count c.args.colour) old (pixels_of g.row.MAX c.loop-i.into) c.loop-i.i same (omega (arith, same, many, c.loop-i-test.false)) c.loop-i.invariant.pixels in
    packed_made g.row.MAX (c.args.count) c.loop-i.into c.requires.depth (c.loop-i.invariant.long ∙ c.requires.long)
    (subst (All (IsPremultiplied g.row.MAX)) (take_all c.loop-i.i (replicate c.args.count c.args.colour) (omega (arith, many, c.loop-i-test.false)) ∙ sym all) c.loop-i.invariant.premultiplied)
