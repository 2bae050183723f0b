use Rattle.std.proofs.Common.{◌≡◌, ◌∙◌, length, map, sym, subst, ap, All, arith}
use Rattle.std.proofs.lemmas.List.{get_or_read, get_or-map, length-map, take_all}
use Rattle.argb_pixel.specs.Pixel.{IsPremultiplied, clear}
use Rattle.argb_pixel.specs.Packed.{pixels_of}
use Rattle.argb_pixel.proofs.Parts.{pixels_length, packed_made}
use Rattle.argb_pixel.proofs.Places.{put_more, front_all, all_more}
use Rattle.fx_blur.specs.Sums.{mean_of}
use Rattle.fx_time.proofs.mean.write_means.Goals as goal

pub loop-i-preserved : goal.loop-i-preserved
loop-i-preserved g c =
    let i = c.loop-i.i in
    let old = pixels_of g.row.MAX c.args.into.now in
    let means = map (mean_of c.args.count) c.args.sums.now in
    let many : length means ≡ length c.args.sums.now = length-map c.args.sums.now (mean_of c.args.count) in
    let same : length means ≡ length old = many ∙ sym (pixels_length g.row.MAX (length c.args.sums.now) c.args.into.now c.requires.depth c.requires.long) in
    let low = c.loop-i-test.true in
    let one = c.mean_by.ensures ∙ ap (mean_of c.args.count) (get_or_read c.args.sums.now i c.index-sums-i.result low c.index-sums-i.is clear)
    ∙ sym (get_or-map (mean_of c.args.count) c.args.sums.now i clear clear low) in
    record {
      pixels = put_more means old (pixels_of g.row.MAX c.loop-i.into) (pixels_of g.row.MAX c.put_pixel.new.into) i c.mean_by.result same (omega (arith, same, many, low)) c.loop-i.invariant.pixels one c.put_pixel.ensures.pixels;
      premultiplied = all_more (IsPremultiplied g.row.MAX) means i c.mean_by.result c.loop-i.invariant.premultiplied c.put_pixel.ensures.premultiplied (omega (arith, many, low)) one;
    }

pub returns-clause-pixels : goal.returns-clause-pixels
returns-clause-pixels g c =
    let old = pixels_of g.row.MAX c.args.into.now in
    let means = map (mean_of c.args.count) c.args.sums.now in
    let many : length means ≡ length c.args.sums.now = length-map c.args.sums.now (mean_of c.args.count) in
    let same : length means ≡ length old = many ∙ sym (pixels_length g.row.MAX (length c.args.sums.now) c.args.into.now c.requires.depth c.requires.long) in
    front_all means old (pixels_of g.row.MAX c.loop-i.into) c.loop-i.i same (omega (arith, same, many, c.loop-i-test.false)) c.loop-i.invariant.pixels

pub returns-clause-packed : goal.returns-clause-packed
returns-clause-packed g c =
    let means = map (mean_of c.args.count) c.args.sums.now in
    let many : length means ≡ length c.args.sums.now = length-map c.args.sums.now (mean_of c.args.count) in
    packed_made g.row.MAX (length c.args.sums.now) c.loop-i.into c.requires.depth (c.loop-i.auto.into ∙ c.requires.long)
    (subst (All (IsPremultiplied g.row.MAX)) (take_all c.loop-i.i means (omega (arith, many, c.loop-i-test.false)) ∙ sym (returns-clause-pixels g c)) c.loop-i.invariant.premultiplied)
