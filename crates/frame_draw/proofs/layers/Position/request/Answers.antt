use Rattle.std.proofs.Common.{◌≡◌, ◌-ℤ◌, ℤ, pos, w32, rules, sym, subst}
use Rattle.std.specs.Int.RustNames.{FitsSigned}
use Rattle.std.proofs.lemmas.Int.{to_z-of_z}
use Rattle.geom_rect.specs.declared.rect.Rect.{Rect}
use Rattle.geom_rect.specs.Rect.{Has, shift_of}
use Rattle.comp_stack.specs.Layers.{IsPosition}
use Rattle.effect_api.specs.Planes.{HasSides}
use Rattle.frame_draw.proofs.Areas.{back_fits, request_near, request_has}
use Rattle.frame_draw.proofs.layers.Position.request.Goals as goal

pub returns-clause-near : goal.returns-clause-near
returns-clause-near c =
    let x : ℤ = c.args.self.now.x in
    let y : ℤ = c.args.self.now.y in
    let across : IsPosition x = search rules in
    let down : IsPosition y = search rules in
    let x_fits : FitsSigned w32 x = search rules in
    let y_fits : FitsSigned w32 y = search rules in
    let left : FitsSigned w32 (pos 0 -ℤ x) = back_fits x across in
    let up : FitsSigned w32 (pos 0 -ℤ y) = back_fits y down in
    let value : c.shift.result ≡ shift_of c.args.area (pos 0 -ℤ x) (pos 0 -ℤ y) = simp to_z-of_z at c.shift.ensures.value in
    subst HasSides (sym value) (request_near c.args.area x y c.requires across down)

pub returns-clause-points : goal.returns-clause-points
returns-clause-points c =
    let x : ℤ = c.args.self.now.x in
    let y : ℤ = c.args.self.now.y in
    let across : IsPosition x = search rules in
    let down : IsPosition y = search rules in
    let x_fits : FitsSigned w32 x = search rules in
    let y_fits : FitsSigned w32 y = search rules in
    let left : FitsSigned w32 (pos 0 -ℤ x) = back_fits x across in
    let up : FitsSigned w32 (pos 0 -ℤ y) = back_fits y down in
    let value : c.shift.result ≡ shift_of c.args.area (pos 0 -ℤ x) (pos 0 -ℤ y) = simp to_z-of_z at c.shift.ensures.value in
    λ u v h. subst (λ (r : Rect). Has r (u -ℤ x) (v -ℤ y)) (sym value) (request_has c.args.area x y u v h)
