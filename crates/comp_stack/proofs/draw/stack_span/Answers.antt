use Rattle.std.proofs.Common.{rules, ◌≡◌, ◌*◌, length, map, ap, ◌∙◌, arith, w32, w64}
use Rattle.std.specs.Int.RustNames.{FitsSigned}
use Rattle.std.proofs.lemmas.Int.{to_z-of_z}
use Rattle.argb_pixel.specs.Packed.{pixel_size, pixels_of}
use Rattle.argb_pixel.proofs.Parts.{pixels_length}
use Rattle.argb_world.specs.Picture.{span_of}
use Rattle.comp_stack.specs.Layers.{layer_of}
use Rattle.comp_stack.specs.Spans.{IsColumn}
use Rattle.comp_stack.proofs.Grounds.{span_stacked}
use Rattle.comp_stack.proofs.draw.stack_span.Goals as goal

pub lay_all-requires : goal.lay_all-requires
lay_all-requires g c =
    let x_fits : FitsSigned w32 c.args.x = c.ranges.x in
    let y_fits : FitsSigned w32 c.args.y = c.ranges.y in
    let x_wide : FitsSigned w64 c.args.x = search rules in
    let y_wide : FitsSigned w64 c.args.y = search rules in
    let column : IsColumn c.args.x = search rules in
    let row : IsColumn c.args.y = search rules in
    let same : length c.read_packed_span.new.into ≡ length c.args.into.now = c.read_packed_span.auto.into in
    simp to_z-of_z ((
      omega arith,
      (
        c.requires.depth,
        (
          c.requires.layers,
          (column, (row, (c.requires.few, (same ∙ c.requires.long, (c.read_packed_span.ensures.packed, (omega (arith, same, c.requires.source), omega (arith, same, c.requires.matte))))))),
        ),
      ),
    )
    )

pub returns-clause-stacked : goal.returns-clause-stacked
returns-clause-stacked g c =
    let x_fits : FitsSigned w32 c.args.x = c.ranges.x in
    let y_fits : FitsSigned w32 c.args.y = c.ranges.y in
    let x_wide : FitsSigned w64 c.args.x = search rules in
    let y_wide : FitsSigned w64 c.args.y = search rules in
    let read = simp to_z-of_z at c.read_packed_span.ensures.pixels in
    let laid = simp to_z-of_z at c.lay_all.ensures.laid in
    let span = simp to_z-of_z at c.set_packed_span.ensures.span in
    let before = pixels_of g.row.MAX c.read_packed_span.new.into in
    let after = pixels_of g.row.MAX c.lay_all.new.into in
    let same : length c.read_packed_span.new.into ≡ pixel_size g.row.MAX * c.args.count = c.read_packed_span.auto.into ∙ c.requires.long in
    let many : length before ≡ c.args.count = pixels_length g.row.MAX c.args.count c.read_packed_span.new.into c.requires.depth same in
    let still : length after ≡ c.args.count = pixels_length g.row.MAX c.args.count c.lay_all.new.into c.requires.depth (c.lay_all.ensures.long ∙ same) in
    span_stacked g.row.MAX (map layer_of c.args.layers.now) c.args.ground.now c.set_packed_span.new.self c.args.x c.args.y c.args.count before after read many still (λ k l. laid k (omega (arith, many, l)))
    (ap (span_of c.set_packed_span.new.self c.args.x c.args.y) still ∙ span)

pub returns-clause-others : goal.returns-clause-others
returns-clause-others g c =
    let x_fits : FitsSigned w32 c.args.x = c.ranges.x in
    let y_fits : FitsSigned w32 c.args.y = c.ranges.y in
    simp to_z-of_z at c.set_packed_span.ensures.others
