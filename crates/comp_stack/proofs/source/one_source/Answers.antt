use Rattle.std.proofs.Common.{rules, ◌≡◌, ℤ, pos, ◌+ℤ◌, sym, ◌∙◌, arith, w32, w64}
use Rattle.std.specs.Int.RustNames.{FitsSigned}
use Rattle.std.proofs.lemmas.Int.{to_z-of_z}
use Rattle.geom_rect.specs.Rect.{Has}
use Rattle.argb_world.specs.Picture.{at}
use Rattle.comp_stack.proofs.Sources.{pixel_is, one_source_is}
use Rattle.comp_stack.proofs.source.one_source.Goals as goal

pub returns-then-covered-count : goal.returns-then-covered-count
returns-then-covered-count g c =
    let x_fits : FitsSigned w64 c.args.x = c.ranges.x in
    let y_fits : FitsSigned w64 c.args.y = c.ranges.y in
    let shown = c.args.layer.now.layer in
    let px_fits : FitsSigned w32 shown.x = search rules in
    let py_fits : FitsSigned w32 shown.y = search rules in
    let cx_fits : FitsSigned w64 c.within.result = search rules in
    let cy_fits : FitsSigned w64 c.within-in-None-Some.result = search rules in
    let column = simp to_z-of_z at c.within.ensures in
    let row = simp to_z-of_z at c.within-in-None-Some.ensures in
    let inside = simp to_z-of_z at c.covered-covered.ensures.inside in
    let colours : (u v : ℤ) → Has shown.world.part u v → at shown.world u v ≡ c.in-None-Some.colour = c.in-None-Some.ensures in
    λ k l.
    let has = (inside k l).1 (omega (arith, c.if-covered-eq0.true), omega (arith, c.if-covered-count.true)) in
    one_source_is g.row.MAX c.args.layer.now.matte _ _ c.in-None-Some.colour shown.opacity c.requires.depth c.in-None-Some.is-0
    (sym (pixel_is shown.world c.args.x c.args.y shown.x shown.y c.within.result c.within-in-None-Some.result k column row) ∙ colours (c.within.result +ℤ pos k) c.within-in-None-Some.result has)
    ∙ sym c.scale.ensures
