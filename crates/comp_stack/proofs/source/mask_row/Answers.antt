use Rattle.std.proofs.Common.{ap, sym, ◌∙◌}
use Rattle.track_matte.specs.declared.matte.Matte.{Matte}
use Rattle.track_matte.specs.Mattes.{matted}
use Rattle.track_matte.proofs.Unchanged.{zip2_leaves, none_leaves}
use Rattle.argb_pixel.specs.Packed.{pixels_of}
use Rattle.argb_pixel.proofs.Parts.{pixels_length}
use Rattle.comp_stack.proofs.Sources.{length_mattes}
use Rattle.comp_stack.proofs.source.mask_row.Goals as goal

pub returns-in-None-clause-pixels : goal.returns-in-None-clause-pixels
returns-in-None-clause-pixels g c =
    zip2_leaves (matted g.row.MAX c.args.layer.now.matte) _ (pixels_of g.row.MAX c.args.source.now) (λ q p. ap (λ (kind : Matte). matted g.row.MAX kind q p) c.in-None.is ∙ none_leaves g.row.MAX q p c.requires.depth) (length_mattes _ c.args.x c.args.y c.args.count ∙ sym (pixels_length g.row.MAX c.args.count c.args.source.now c.requires.depth c.requires.long))
