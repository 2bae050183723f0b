use Rattle.std.proofs.Common.{◌≡◌, pos, ◌+ℤ◌, w32, ap, sym, ◌∙◌, arith}
use Rattle.std.specs.Int.RustNames.{FitsSigned}
use Rattle.std.proofs.lemmas.Int.{ints}
use Rattle.comp_stack.specs.Layers.{plane_of}
use Rattle.fx_blur.specs.Mosaic.{mosaic_at}
use Rattle.fx_blur.proofs.BlockMeans.{mosaic_off_row}
use Rattle.fx_blur.proofs.mosaic.fill_clear.Goals as goal

pub returns-clause-serves : goal.returns-clause-serves
returns-clause-serves g c =
    let y_fits : FitsSigned w32 c.args.y = c.ranges.y in
    λ v first last i l.
    let same : c.args.y ≡ v = omega (arith, ints, first, last, c.requires.height) in
    c.clear_row.ensures i (omega (arith, l, c.clear_row.auto.row)) ∙ sym (mosaic_off_row c.args.size c.args.input.now (c.args.part.left +ℤ pos i) c.args.y c.requires.outside)
    ∙ ap (mosaic_at c.args.size (plane_of c.args.input.now) (c.args.part.left +ℤ pos i)) same
