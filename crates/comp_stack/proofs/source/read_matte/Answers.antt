use Rattle.std.proofs.Common.{ap, sym, ◌∙◌, map, w64}
use Rattle.std.specs.Int.RustNames.{FitsSigned}
use Rattle.std.specs.Prelude.{Option, option_map}
use Rattle.std.proofs.lemmas.Int.{to_z-of_z}
use Rattle.argb_pixel.specs.Pixel.{scale_of}
use Rattle.comp_stack.specs.declared.layer.Shown.{Shown}
use Rattle.comp_stack.specs.Layers.{placed_of}
use Rattle.comp_stack.specs.Spans.{matte_span}
use Rattle.comp_stack.proofs.Sources.{mattes_are, no_matte}
use Rattle.comp_stack.proofs.source.read_matte.Goals as goal

pub returns-in-Some-clause-pixels : goal.returns-in-Some-clause-pixels
returns-in-Some-clause-pixels g c =
    let x_fits : FitsSigned w64 c.args.x = c.ranges.x in
    let y_fits : FitsSigned w64 c.args.y = c.ranges.y in
    let read = simp to_z-of_z at c.read_shown.ensures.pixels in
    c.scale_row.ensures.pixels ∙ ap (map (λ p. scale_of p c.in-Some.shown.opacity)) read ∙ mattes_are (placed_of c.in-Some.shown) c.args.x c.args.y c.args.count
    ∙ ap (λ (o : Option (Shown g.row.MAX)). matte_span (option_map placed_of o) c.args.x c.args.y c.args.count) (sym c.in-Some.is)

pub returns-in-None-clause-pixels : goal.returns-in-None-clause-pixels
returns-in-None-clause-pixels g c =
    c.clear_packed.ensures.pixels ∙ no_matte c.args.x c.args.y c.args.count
    ∙ ap (λ (o : Option (Shown g.row.MAX)). matte_span (option_map placed_of o) c.args.x c.args.y c.args.count) (sym c.in-None.is)
