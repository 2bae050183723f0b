use Rattle.project_model.specs.Effects.{use_of}
use Rattle.std.proofs.Common.{rules, ◌≡◌, ℕ, pos, ap, ap₂, ◌∙◌, w32}
use Rattle.std.specs.Int.RustNames.{FitsSigned}
use Rattle.std.proofs.lemmas.Int.{to_z-of_z}
use Rattle.geom_rect.specs.Rect.{grow_of}
use Rattle.fx_spatial.specs.Displace.{reach_of}
use Rattle.fx_spatial.specs.Laws.{displace_right, displace_down}
use Rattle.fx_spatial.proofs.pre_render.displace_need.Goals as goal

pub near_number-requires-clause-range : goal.near_number-requires-clause-range
near_number-requires-clause-range c = displace_right (use_of c.args.fx.now) c.args.at c.requires.fits

pub near_number-requires-2-clause-range : goal.near_number-requires-2-clause-range
near_number-requires-2-clause-range c = displace_down (use_of c.args.fx.now) c.args.at c.requires.fits

pub returns : goal.returns
returns c =
    let right_fits : FitsSigned w32 c.near_number.result = search rules in
    let down_fits : FitsSigned w32 c.near_number-2.result = search rules in
    let far : c.reach.result ≡ reach_of c.near_number.result c.near_number-2.result = simp to_z-of_z at c.reach.ensures.value in
    c.grown.ensures ∙ ap (λ (n : ℕ). grow_of c.args.rect (pos n)) (far ∙ ap₂ reach_of c.near_number.ensures.value c.near_number-2.ensures.value)
