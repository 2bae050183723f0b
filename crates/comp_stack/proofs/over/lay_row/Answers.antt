use Rattle.std.proofs.Common.{◌≡◌, length, ap, sym, ◌∙◌}
use lib.Lanes.{zip2}
use Rattle.argb_pixel.specs.Packed.{pixels_of}
use Rattle.argb_pixel.proofs.Places.{same_count}
use Rattle.transfer_mode.specs.declared.mode.Mode.{Mode}
use Rattle.transfer_mode.specs.Transfer.{blend_of}
use Rattle.comp_stack.proofs.Hiding.{hidden}
use Rattle.comp_stack.proofs.over.lay_row.Goals as goal

pub returns-in-Normal-clause-value : goal.returns-in-Normal-clause-value
returns-in-Normal-clause-value g c =
    let most = g.row.MAX in
    let row = pixels_of most c.args.row.now in
    let into = pixels_of most c.args.into.now in
    let same : length into ≡ length row = same_count most c.args.row.now c.args.into.now c.requires.depth c.requires.same c.requires.row in
    let opaque = c.is_opaque.ensures c.if-is_opaque.true in
    ap (pixels_of most) c.copy_from_slice.ensures.after
    ∙ sym (hidden most row into c.requires.depth same opaque c.requires.row.premultiplied c.requires.into.premultiplied)
    ∙ ap (λ (mode : Mode). zip2 (blend_of most mode) row into) (sym c.in-Normal.is)
