use Rattle.std.proofs.Common.{rules, ◌≡◌, ℤ, pos, ◌+ℤ◌, ◌-◌, ap, ◌∙◌, length, arith, w32, w64}
use Rattle.std.specs.Int.RustNames.{FitsSigned}
use Rattle.std.proofs.lemmas.Int.{to_z-of_z}
use borrow.Rule.Slice.PartMut.{put_mid}
use Rattle.argb_world.specs.Picture.{span_of}
use Rattle.fx_spatial.proofs.Runs.{AreBefore, run_inside, run_beside, none_inside}
use Rattle.fx_spatial.proofs.offset.copy_run.Goals as goal

pub returns-then-start-end-clause-inside : goal.returns-then-start-end-clause-inside
returns-then-start-end-clause-inside g c =
    let x_fits : FitsSigned w32 c.args.x = c.ranges.x in
    let y_fits : FitsSigned w64 c.args.y = c.ranges.y in
    let from_fits : FitsSigned w64 c.args.from = c.ranges.from in
    let to_fits : FitsSigned w64 c.args.to = c.ranges.to in
    let further_fits : FitsSigned w64 c.args.further = c.ranges.further in
    let column_fits : FitsSigned w64 c.column.result = search rules in
    let start = c.places_before-start.result in
    let end = c.places_before-end.result in
    let before_start : AreBefore c.args.x c.args.from (length c.args.into.now) start = simp to_z-of_z at c.places_before-start.ensures.before in
    let before_end : AreBefore c.args.x c.args.to (length c.args.into.now) end = simp to_z-of_z at c.places_before-end.ensures.before in
    let column : c.column.result ≡ (c.args.x +ℤ pos start) +ℤ c.args.further = simp to_z-of_z at c.column.ensures.value in
    let copied : c.copy_places.new.into ≡ put_mid start (end - start) c.args.into.now (span_of c.args.input.now c.column.result c.args.y (end - start)) = simp to_z-of_z at c.copy_places.ensures in
    run_inside c.args.input.now c.args.x c.args.y c.args.from c.args.to c.args.further start end c.args.into.now c.copy_places.new.into before_start before_end
    (omega (arith, c.if-start-end.true)) c.places_before-end.ensures.within
    (copied ∙ ap (λ (u : ℤ). put_mid start (end - start) c.args.into.now (span_of c.args.input.now u c.args.y (end - start))) column)

pub returns-then-start-end-clause-beside : goal.returns-then-start-end-clause-beside
returns-then-start-end-clause-beside g c =
    let x_fits : FitsSigned w32 c.args.x = c.ranges.x in
    let y_fits : FitsSigned w64 c.args.y = c.ranges.y in
    let from_fits : FitsSigned w64 c.args.from = c.ranges.from in
    let to_fits : FitsSigned w64 c.args.to = c.ranges.to in
    let further_fits : FitsSigned w64 c.args.further = c.ranges.further in
    let column_fits : FitsSigned w64 c.column.result = search rules in
    let start = c.places_before-start.result in
    let end = c.places_before-end.result in
    let before_start : AreBefore c.args.x c.args.from (length c.args.into.now) start = simp to_z-of_z at c.places_before-start.ensures.before in
    let before_end : AreBefore c.args.x c.args.to (length c.args.into.now) end = simp to_z-of_z at c.places_before-end.ensures.before in
    let column : c.column.result ≡ (c.args.x +ℤ pos start) +ℤ c.args.further = simp to_z-of_z at c.column.ensures.value in
    let copied : c.copy_places.new.into ≡ put_mid start (end - start) c.args.into.now (span_of c.args.input.now c.column.result c.args.y (end - start)) = simp to_z-of_z at c.copy_places.ensures in
    run_beside c.args.input.now c.args.x c.args.y c.args.from c.args.to c.args.further start end c.args.into.now c.copy_places.new.into before_start before_end
    (omega (arith, c.if-start-end.true)) c.places_before-end.ensures.within
    (copied ∙ ap (λ (u : ℤ). put_mid start (end - start) c.args.into.now (span_of c.args.input.now u c.args.y (end - start))) column)

pub returns-else-start-end-clause-inside : goal.returns-else-start-end-clause-inside
returns-else-start-end-clause-inside g c k l low high =
    let x_fits : FitsSigned w32 c.args.x = c.ranges.x in
    let from_fits : FitsSigned w64 c.args.from = c.ranges.from in
    let to_fits : FitsSigned w64 c.args.to = c.ranges.to in
    let start = c.places_before-start.result in
    let end = c.places_before-end.result in
    let before_start : AreBefore c.args.x c.args.from (length c.args.into.now) start = simp to_z-of_z at c.places_before-start.ensures.before in
    let before_end : AreBefore c.args.x c.args.to (length c.args.into.now) end = simp to_z-of_z at c.places_before-end.ensures.before in
    absurd (none_inside c.args.input.now c.args.x c.args.y c.args.from c.args.to c.args.further start end c.args.into.now c.args.into.now before_start before_end c.if-start-end.false k l low high)
