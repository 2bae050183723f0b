use Rattle.project_model.specs.Effects.{use_of}
use Rattle.std.proofs.Common.{rules, ℤ, ap₂, ◌∙◌, w32}
use Rattle.std.specs.Int.RustNames.{FitsSigned}
use Rattle.std.proofs.lemmas.Int.{to_z-of_z}
use Rattle.geom_rect.specs.Rect.{cover_of, shift_of}
use Rattle.fx_spatial.specs.Laws.{right_within, down_within}
use Rattle.fx_spatial.proofs.pre_render.shadow_bounds.Goals as goal

pub near_number-requires-clause-range : goal.near_number-requires-clause-range
near_number-requires-clause-range c = right_within (use_of c.args.fx.now) c.args.at c.requires.fits

pub near_number-requires-2-clause-range : goal.near_number-requires-2-clause-range
near_number-requires-2-clause-range c = down_within (use_of c.args.fx.now) c.args.at c.requires.fits

pub returns : goal.returns
returns c =
    let right_fits : FitsSigned w32 c.near_number.result = search rules in
    let down_fits : FitsSigned w32 c.near_number-2.result = search rules in
    (simp to_z-of_z at c.cover_moved.ensures) ∙ ap₂ (λ (x y : ℤ). cover_of c.args.extent (shift_of c.args.extent x y)) c.near_number.ensures.value c.near_number-2.ensures.value
