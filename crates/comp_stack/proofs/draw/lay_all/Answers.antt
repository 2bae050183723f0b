use Rattle.std.proofs.Common.{◌≡◌, ℕ, ◌∷◌, ◌<◌, ◌-◌, List, suc, pos, ◌+ℤ◌, length, refl, map, drop, get_or, ap, sym, ◌∙◌, drop-cons, arith, w64}
use Rattle.std.specs.Int.RustNames.{FitsSigned}
use Rattle.std.proofs.lemmas.Int.{to_z-of_z}
use Rattle.std.proofs.Math.Seq.{drop-length}
use Rattle.argb_pixel.specs.Pixel.{clear}
use Rattle.argb_pixel.specs.Packed.{pixels_of}
use Rattle.comp_stack.specs.declared.layer.Placed.{Placed}
use Rattle.comp_stack.specs.Layers.{layer_of}
use Rattle.comp_stack.specs.Stack.{step, stack_over}
use Rattle.comp_stack.proofs.draw.lay_all.Goals as goal

pub layers-init : goal.layers-init
layers-init g c =
    let x_fits : FitsSigned w64 c.args.x = c.ranges.x in
    let y_fits : FitsSigned w64 c.args.y = c.ranges.y in
    simp to_z-of_z (
    record {
      laid = λ k l. ap (λ (ls : List (Placed g.row.MAX)). stack_over g.row.MAX (map layer_of ls) (c.args.x +ℤ pos k) c.args.y (get_or (pixels_of g.row.MAX c.args.into.now) k clear)) (sym (drop-length c.args.layers.now));
      long = refl;
      packed = c.requires.packed;
      within = omega arith;
    })

pub layers-preserved : goal.layers-preserved
layers-preserved g c =
    let x_fits : FitsSigned w64 c.args.x = c.ranges.x in
    let y_fits : FitsSigned w64 c.args.y = c.ranges.y in
    let laid = simp to_z-of_z at c.lay.ensures.laid in
    let was = simp to_z-of_z at c.layers.invariant.laid in
    let layers = c.args.layers.now in
    let item = c.index-layers-at.result in
    let place = c.layers.at - 1 in
    let next : suc place ≡ c.layers.at = omega arith in
    let there : place < length layers = omega arith in
    let parts : drop place layers ≡ item ∷ drop c.layers.at layers =
    drop-cons layers place item there ∙ ap (λ j. get_or layers place item ∷ drop j layers) next ∙ ap (λ t. t ∷ drop c.layers.at layers) (sym c.index-layers-at.is) in
    simp to_z-of_z (
    record {
      laid = λ k l.
          laid k l ∙ ap (step g.row.MAX (layer_of item) (c.args.x +ℤ pos k) c.args.y) (was k l)
          ∙ ap (λ (ls : List (Placed g.row.MAX)). stack_over g.row.MAX (map layer_of ls) (c.args.x +ℤ pos k) c.args.y (get_or (pixels_of g.row.MAX c.args.into.now) k clear)) (sym parts);
      long = c.lay.ensures.long ∙ c.layers.invariant.long;
      packed = c.lay.ensures.packed;
      within = omega arith;
    })

pub returns-clause-laid : goal.returns-clause-laid
returns-clause-laid g c =
    let x_fits : FitsSigned w64 c.args.x = c.ranges.x in
    let y_fits : FitsSigned w64 c.args.y = c.ranges.y in
    let laid = simp to_z-of_z at c.layers.invariant.laid in
    let none : c.layers.at ≡ 0 = omega (arith, c.layers-test.false) in
    λ k l.
    laid k l
    ∙ ap (λ (n : ℕ). stack_over g.row.MAX (map layer_of (drop n c.args.layers.now)) (c.args.x +ℤ pos k) c.args.y (get_or (pixels_of g.row.MAX c.args.into.now) k clear)) none
