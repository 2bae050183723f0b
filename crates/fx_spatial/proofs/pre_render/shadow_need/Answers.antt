use Rattle.project_model.specs.Effects.{use_of}
use Rattle.std.proofs.Common.{rules, ◌≡◌, ℤ, neg_ℤ, ap, ap₂, ◌∙◌, w32}
use Rattle.std.specs.Int.RustNames.{FitsSigned}
use Rattle.std.proofs.lemmas.Int.{to_z-of_z}
use Rattle.geom_rect.specs.Rect.{cover_of, shift_of}
use Rattle.fx_spatial.specs.Laws.{right_within, down_within}
use Rattle.fx_spatial.proofs.pre_render.shadow_need.Goals as goal

pub near_number-requires-clause-range : goal.near_number-requires-clause-range
near_number-requires-clause-range c = right_within (use_of c.args.fx.now) c.args.at c.requires.fits

pub near_number-requires-2-clause-range : goal.near_number-requires-2-clause-range
near_number-requires-2-clause-range c = down_within (use_of c.args.fx.now) c.args.at c.requires.fits

pub returns : goal.returns
returns c =
    let right_fits : FitsSigned w32 c.near_number.result = search rules in
    let down_fits : FitsSigned w32 c.near_number-2.result = search rules in
    let dx_fits : FitsSigned w32 c.opposite-dx.result = search rules in
    let dy_fits : FitsSigned w32 c.opposite-dy.result = search rules in
    let dx : c.opposite-dx.result ≡ neg_ℤ c.near_number.result = simp to_z-of_z at c.opposite-dx.ensures.value in
    let dy : c.opposite-dy.result ≡ neg_ℤ c.near_number-2.result = simp to_z-of_z at c.opposite-dy.ensures.value in
    (simp to_z-of_z at c.cover_moved.ensures)
    ∙ ap₂ (λ (x y : ℤ). cover_of c.args.rect (shift_of c.args.rect x y)) (dx ∙ ap neg_ℤ c.near_number.ensures.value) (dy ∙ ap neg_ℤ c.near_number-2.ensures.value)
