use Rattle.std.proofs.Common.{rules, ◌≡◌, List, map, ap, ◌∙◌, w32, w64}
use lib.Lanes.{zip2}
use Rattle.std.specs.Int.RustNames.{FitsSigned}
use Rattle.std.proofs.lemmas.Int.{to_z-of_z}
use Rattle.argb_pixel.specs.Pixel.{Argb, scale_of}
use Rattle.argb_pixel.specs.Packed.{pixels_of}
use Rattle.argb_world.specs.Picture.{span_of}
use Rattle.transfer_mode.specs.declared.mode.Mode.TheVariants.{Normal}
use Rattle.transfer_mode.specs.Transfer.{blend_of}
use Rattle.fx_time.proofs.echo.lay_echo.Goals as goal

pub returns-clause-pixels : goal.returns-clause-pixels
returns-clause-pixels g c =
    let x_fits : FitsSigned w32 c.args.x = c.ranges.x in
    let y_fits : FitsSigned w32 c.args.y = c.ranges.y in
    let x_wide : FitsSigned w64 c.args.x = search rules in
    let y_wide : FitsSigned w64 c.args.y = search rules in
    let read : pixels_of g.row.MAX c.read_packed_span.new.into ≡ span_of c.args.world.now c.args.x c.args.y c.args.count = simp to_z-of_z at c.read_packed_span.ensures.pixels in
    c.blend_packed.ensures.value
    ∙ ap (λ (ps : List Argb). zip2 (blend_of g.row.MAX Normal) ps (pixels_of g.row.MAX c.args.into.now))
    (c.scale_packed.ensures.value ∙ ap (map (λ (p : Argb). scale_of p c.args.strength)) read)
