use Rattle.std.proofs.Common.{rules, ◌≡◌, ℕ, ◌<◌, ℤ, pos, ◌+ℤ◌, ◌-ℤ◌, ◌≤ℤ◌, ◌<ℤ◌, ap, subst, sym, ◌∙◌, length, get_or, arith, w32, w64}
use Rattle.std.specs.Int.RustNames.{FitsSigned}
use Rattle.std.specs.Int.{int_rem_euclid}
use Rattle.std.proofs.lemmas.Int.{ints, to_z-of_z}
use Rattle.geom_rect.specs.declared.rect.Rect.{Rect}
use Rattle.geom_rect.specs.Rect.{count_between, width_of}
use Rattle.argb_pixel.specs.Pixel.{clear}
use Rattle.argb_world.specs.Picture.{at}
use Rattle.fx_spatial.specs.Offset.{wrapped}
use Rattle.fx_spatial.proofs.Runs.{runs_inside, runs_beside}
use Rattle.fx_spatial.proofs.offset.offset_row.Goals as goal

pub returns-clause-inside : goal.returns-clause-inside
returns-clause-inside g c k l low high =
    let e = c.extent-extent.result in
    let is : e ≡ c.args.input.now.extent = c.extent-extent.ensures in
    let p = c.args.input.now in
    let u : ℤ = c.args.x +ℤ pos k in
    let n = c.count-width.result in
    let turn = c.remainder-turn.result in
    let x_fits : FitsSigned w32 c.args.x = c.ranges.x in
    let y_fits : FitsSigned w64 c.args.y = c.ranges.y in
    let dx_fits : FitsSigned w32 c.args.dx = c.ranges.dx in
    let dx_wide : FitsSigned w64 c.args.dx = search rules in
    let left_fits : FitsSigned w32 e.left = search rules in
    let right_fits : FitsSigned w32 e.right = search rules in
    let from_fits : FitsSigned w64 c.wide.result = search rules in
    let to_fits : FitsSigned w64 c.wide-2.result = search rules in
    let middle_fits : FitsSigned w64 c.middle-middle.result = search rules in
    let ahead_fits : FitsSigned w64 c.apart.result = search rules in
    let back_fits : FitsSigned w64 c.apart-2.result = search rules in
    let from : c.wide.result ≡ e.left = simp to_z-of_z at c.wide.ensures.value in
    let to : c.wide-2.result ≡ e.right = simp to_z-of_z at c.wide-2.ensures.value in
    let middle : c.middle-middle.result ≡ e.left +ℤ pos turn = simp to_z-of_z at c.middle-middle.ensures.value in
    let n_is : n ≡ count_between e.left e.right = simp to_z-of_z at c.count-width.ensures in
    let turn_is : pos turn ≡ int_rem_euclid c.args.dx (pos n) = simp to_z-of_z at c.remainder-turn.ensures.value in
    let ahead : c.apart.result ≡ pos n -ℤ pos turn = c.apart.ensures.value in
    let back : c.apart-2.result ≡ pos 0 -ℤ pos turn = c.apart-2.ensures.value in
    let first = simp to_z-of_z at c.copy_run.ensures.inside in
    let second = simp to_z-of_z at c.copy_run-2.ensures.inside in
    let stays = simp to_z-of_z at c.copy_run-2.ensures.beside in
    let l2 : k < length c.copy_run.new.into = omega (arith, l, c.copy_run.auto.into) in
    let low_e : e.left ≤ℤ u = subst (λ (r : Rect). r.left ≤ℤ u) (sym is) low in
    let high_e : u <ℤ e.right = subst (λ (r : Rect). u <ℤ r.right) (sym is) high in
    runs_inside p e.left e.right c.args.dx u c.args.y n turn (get_or c.copy_run.new.into k clear) (get_or c.copy_run-2.new.into k clear) low_e high_e n_is turn_is
    (λ a b. first k l (omega (arith, ints, from, a)) (omega (arith, ints, middle, b)) ∙ ap (λ (z : ℤ). at p (u +ℤ z) c.args.y) ahead)
    (λ a b. second k l2 (omega (arith, ints, middle, a)) (omega (arith, ints, to, b)) ∙ ap (λ (z : ℤ). at p (u +ℤ z) c.args.y) back)
    (λ out. stays k l2 (λ h. out (omega (arith, ints, middle, h.0), omega (arith, ints, to, h.1))))
    ∙ ap (λ (m : ℕ). at p (wrapped e.left m (u -ℤ c.args.dx)) c.args.y) n_is
    ∙ ap (λ (r : Rect). at p (wrapped r.left (width_of r) (u -ℤ c.args.dx)) c.args.y) is

pub returns-clause-beside : goal.returns-clause-beside
returns-clause-beside g c k l out =
    let e = c.extent-extent.result in
    let is : e ≡ c.args.input.now.extent = c.extent-extent.ensures in
    let u : ℤ = c.args.x +ℤ pos k in
    let n = c.count-width.result in
    let turn = c.remainder-turn.result in
    let x_fits : FitsSigned w32 c.args.x = c.ranges.x in
    let left_fits : FitsSigned w32 e.left = search rules in
    let right_fits : FitsSigned w32 e.right = search rules in
    let from_fits : FitsSigned w64 c.wide.result = search rules in
    let to_fits : FitsSigned w64 c.wide-2.result = search rules in
    let middle_fits : FitsSigned w64 c.middle-middle.result = search rules in
    let from : c.wide.result ≡ e.left = simp to_z-of_z at c.wide.ensures.value in
    let to : c.wide-2.result ≡ e.right = simp to_z-of_z at c.wide-2.ensures.value in
    let middle : c.middle-middle.result ≡ e.left +ℤ pos turn = simp to_z-of_z at c.middle-middle.ensures.value in
    let n_is : n ≡ count_between e.left e.right = simp to_z-of_z at c.count-width.ensures in
    let first = simp to_z-of_z at c.copy_run.ensures.beside in
    let second = simp to_z-of_z at c.copy_run-2.ensures.beside in
    let l2 : k < length c.copy_run.new.into = omega (arith, l, c.copy_run.auto.into) in
    let room : e.left <ℤ e.right = subst (λ (r : Rect). r.left <ℤ r.right) (sym is) c.requires in
    let neither = runs_beside e.left e.right u n turn room n_is c.remainder-turn.ensures.within (subst (λ (r : Rect). ¬ ((r.left ≤ℤ u) × (u <ℤ r.right))) (sym is) out) in
    second k l2 (λ h. neither.1 (omega (arith, ints, middle, h.0), omega (arith, ints, to, h.1)))
    ∙ first k l (λ h. neither.0 (omega (arith, ints, from, h.0), omega (arith, ints, middle, h.1)))
