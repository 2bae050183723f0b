use Rattle.std.proofs.Common.{◌≡◌, ◌*◌, length, replicate, ap, sym, ◌∙◌}
use Rattle.std.proofs.lemmas.List.{length-replicate}
use Rattle.argb_pixel.specs.Packed.{pixel_size, pixels_of}
use Rattle.argb_pixel.proofs.Parts.{pixels_clear, clear_packed}
use Rattle.argb_pixel.proofs.within.clear_packed.Goals as goal

pub returns-clause-pixels : goal.returns-clause-pixels
returns-clause-pixels g c =
    ap (pixels_of g.row.MAX) c.fill_zeros.ensures ∙ pixels_clear g.row.MAX c.args.count (length c.args.into.now) c.requires.depth c.requires.long

pub returns-clause-packed : goal.returns-clause-packed
returns-clause-packed g c =
    let same : length c.fill_zeros.new.bytes ≡ length c.args.into.now = ap length c.fill_zeros.ensures ∙ length-replicate (length c.args.into.now) 0 in
    clear_packed g.row.MAX c.args.count c.fill_zeros.new.bytes c.requires.depth (c.fill_zeros.ensures ∙ ap (λ n. replicate n 0) (sym same)) (same ∙ c.requires.long)
