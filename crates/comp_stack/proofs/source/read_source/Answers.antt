use Rattle.std.proofs.Common.{map, ap, ◌∙◌, w64}
use Rattle.std.specs.Int.RustNames.{FitsSigned}
use Rattle.std.proofs.lemmas.Int.{to_z-of_z}
use lib.Lanes.{zip2}
use Rattle.std.specs.Prelude.{option_map}
use Rattle.argb_pixel.specs.Pixel.{scale_of}
use Rattle.track_matte.specs.Mattes.{matted}
use Rattle.comp_stack.specs.Layers.{placed_of, layer_of}
use Rattle.comp_stack.specs.Spans.{matte_span}
use Rattle.comp_stack.proofs.Sources.{sources_are}
use Rattle.comp_stack.proofs.source.read_source.Goals as goal

pub returns-clause-pixels : goal.returns-clause-pixels
returns-clause-pixels g c =
    let placed = c.args.layer.now in
    let n = c.args.count in
    let x_fits : FitsSigned w64 c.args.x = c.ranges.x in
    let y_fits : FitsSigned w64 c.args.y = c.ranges.y in
    let read = simp to_z-of_z at c.read_shown.ensures.pixels in
    let mask = simp to_z-of_z at c.mask_row.ensures.pixels in
    let masked = mask ∙ ap (zip2 (matted g.row.MAX placed.matte) (matte_span (option_map placed_of placed.over) c.args.x c.args.y n)) read in
    c.scale_row.ensures.pixels ∙ ap (map (λ p. scale_of p placed.layer.opacity)) masked ∙ sources_are g.row.MAX (layer_of placed) c.args.x c.args.y n
