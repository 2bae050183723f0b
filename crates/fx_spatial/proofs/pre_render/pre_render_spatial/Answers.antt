use Rattle.std.proofs.Common.{ℕ, ap, subst, sym, ◌∙◌}
use Rattle.geom_rect.specs.declared.rect.Rect.{Rect}
use Rattle.geom_rect.specs.Rect.{HasCoordinates}
use Rattle.project_model.specs.Effects.{use_of}
use Rattle.effect_api.specs.Planes.{extent_at}
use Rattle.effect_api.specs.Render.{AreCheckouts, AreExact}
use Rattle.fx_spatial.specs.Spatial.{spatial_wants, spatial_need}
use Rattle.fx_spatial.specs.Asked.{checkouts_of}
use Rattle.fx_spatial.proofs.Answered.{first_near, sides_coordinates, result_near, answered_result, answered_checkouts, answered_exact}
use Rattle.fx_spatial.proofs.pre_render.pre_render_spatial.Goals as goal

pub result_over-result_rect-requires-clause-near : goal.result_over-result_rect-requires-clause-near
result_over-result_rect-requires-clause-near c = sides_coordinates (extent_at c.args.extents.now 0) (first_near c.args.kind c.args.at c.args.extents.now c.requires.extents)

pub bounds_over-requires-clause-near : goal.bounds_over-requires-clause-near
bounds_over-requires-clause-near c = sides_coordinates (extent_at c.args.extents.now 0) (first_near c.args.kind c.args.at c.args.extents.now c.requires.extents)

pub need_over-need-requires-clause-near : goal.need_over-need-requires-clause-near
need_over-need-requires-clause-near c =
    subst HasCoordinates (sym c.result_over-result_rect.ensures)
    (result_near c.args.kind (use_of c.args.fx.now) c.args.at (extent_at c.args.extents.now 0) c.args.request c.requires.fits
    (first_near c.args.kind c.args.at c.args.extents.now c.requires.extents) c.requires.request)

pub returns-clause-rects : goal.returns-clause-rects
returns-clause-rects c =
    answered_result c.args.kind (use_of c.args.fx.now) c.args.at (extent_at c.args.extents.now 0) c.args.request
    record { result_rect = c.result_over-result_rect.result; max_result_rect = c.bounds_over.result; extra = c.leaves.result; checkouts = c.in_ok-checkouts.checkouts }
    c.requires.fits c.bounds_over.ensures c.result_over-result_rect.ensures c.leaves.ensures

pub returns-clause-checkouts : goal.returns-clause-checkouts
returns-clause-checkouts c =
    let rect = c.result_over-result_rect.result in
    let extents = c.args.extents.now in
    let need : ℕ → Rect = λ i. spatial_need c.args.kind (use_of c.args.fx.now) c.args.at extents i rect in
    subst (AreCheckouts (spatial_wants c.args.kind c.args.at) extents need)
    (sym (c.in_ok-checkouts.ensures ∙ ap (λ (n : Rect). checkouts_of c.args.kind c.args.at extents n rect) c.need_over-need.ensures))
    (answered_checkouts extents need c.args.kind c.args.at)

pub returns-clause-exact : goal.returns-clause-exact
returns-clause-exact c =
    let rect = c.result_over-result_rect.result in
    let extents = c.args.extents.now in
    let need : ℕ → Rect = λ i. spatial_need c.args.kind (use_of c.args.fx.now) c.args.at extents i rect in
    subst (AreExact extents need)
    (sym (c.in_ok-checkouts.ensures ∙ ap (λ (n : Rect). checkouts_of c.args.kind c.args.at extents n rect) c.need_over-need.ensures))
    (answered_exact extents need c.args.kind c.args.at)
