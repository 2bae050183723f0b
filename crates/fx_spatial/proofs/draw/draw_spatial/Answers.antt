use Rattle.std.proofs.Common.{ℕ, ℤ, ap, ap₂, sym, ◌∙◌}
use Rattle.std.proofs.lemmas.Result.{on_ok_weaker}
use Rattle.argb_pixel.specs.Pixel.{Argb}
use Rattle.comp_stack.specs.Stack.{Plane}
use Rattle.comp_stack.specs.Layers.{plane_of}
use Rattle.project_model.specs.Effects.{use_of}
use Rattle.effect_api.specs.Checked.{planes_of}
use Rattle.fx_blur.specs.Blur.{blur_at}
use Rattle.fx_blur.specs.Mosaic.{mosaic_at}
use Rattle.fx_color.specs.Color.{number_of}
use Rattle.fx_spatial.specs.declared.kind.SpatialKind.{SpatialKind}
use Rattle.fx_spatial.specs.Shadow.{shadow_of, shadowed_at}
use Rattle.fx_spatial.specs.Spatial.{spatial_draws}
use Rattle.fx_spatial.proofs.draw.draw_spatial.Goals as goal

pub returns-in-BoxBlur-clause-drawn : goal.returns-in-BoxBlur-clause-drawn
returns-in-BoxBlur-clause-drawn g c =
    on_ok_weaker c.blur_world.result
    (λ shows x y h. shows x y h ∙ ap₂ (λ (n : ℕ) (p : Plane). blur_at n p x y) c.radius_at.ensures.value c.checkout_want-in-BoxBlur.ensures.plane
    ∙ ap (λ (k : SpatialKind). spatial_draws g.row.MAX k (use_of c.args.fx.now) c.args.at (planes_of c.args.pixels.now.pairs) x y) (sym c.in-BoxBlur.is))
    c.blur_world.ensures.drawn

pub returns-in-Mosaic-clause-drawn : goal.returns-in-Mosaic-clause-drawn
returns-in-Mosaic-clause-drawn g c =
    on_ok_weaker c.mosaic_world.result
    (λ shows x y h. shows x y h ∙ ap₂ (λ (n : ℕ) (p : Plane). mosaic_at n p x y) c.size_at.ensures.value c.checkout_want-in-Mosaic.ensures.plane
    ∙ ap (λ (k : SpatialKind). spatial_draws g.row.MAX k (use_of c.args.fx.now) c.args.at (planes_of c.args.pixels.now.pairs) x y) (sym c.in-Mosaic.is))
    c.mosaic_world.ensures.drawn

pub returns-in-DropShadow-clause-drawn : goal.returns-in-DropShadow-clause-drawn
returns-in-DropShadow-clause-drawn g c =
    let fx = use_of c.args.fx.now in
    let s = c.shadowed_at.result in
    let plane_is = ap plane_of c.shadowed_at.ensures.input ∙ c.checkout_want-in-DropShadow.ensures.plane in
    on_ok_weaker c.draw_rows-in-DropShadow.result
    (λ shows x y h. shows x y h
    ∙ ap₂ (λ (dx dy : ℤ). shadowed_at g.row.MAX dx dy (shadow_of s.cast.opacity s.cast.red s.cast.green s.cast.blue) (plane_of s.input.now) x y) c.shadowed_at.ensures.dx c.shadowed_at.ensures.dy
    ∙ ap₂ (λ (cast : Argb → Argb) (p : Plane). shadowed_at g.row.MAX (number_of fx 0 c.args.at) (number_of fx 1 c.args.at) cast p x y) c.shadowed_at.ensures.cast plane_is
    ∙ ap (λ (k : SpatialKind). spatial_draws g.row.MAX k fx c.args.at (planes_of c.args.pixels.now.pairs) x y) (sym c.in-DropShadow.is))
    c.draw_rows-in-DropShadow.ensures.drawn
