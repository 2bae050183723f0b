use Rattle.std.proofs.Common.{IfOk, subst, sym, ◌∙◌}
use Rattle.project_model.specs.Effects.{use_of}
use Rattle.effect_api.specs.Fits.{FitsSchema}
use Rattle.effect_api.specs.Render.{AreCheckouts, AreExact}
use Rattle.fx_stock.specs.declared.part.Part.{Part}
use Rattle.fx_stock.specs.Stock.{part_schema, part_wants, part_need}
use Rattle.fx_stock.specs.Laws.{fits_part}
use Rattle.fx_stock.proofs.stock.StockEffect.pre_render.Goals as goal

pub pre_render_spatial-requires-clause-fits : goal.pre_render_spatial-requires-clause-fits
pre_render_spatial-requires-clause-fits c =
    let fx = use_of c.args.fx.now in
    subst (λ (p : Part). FitsSchema (part_schema p) fx) (sym c.part_of.ensures ∙ c.in-Spatial.is) (fits_part fx c.requires.given.fits).fits

pub returns-in-Color-clause-exact : goal.returns-in-Color-clause-exact
returns-in-Color-clause-exact c =
    subst (λ (p : Part). IfOk c.own_pre_render.result (λ pre. AreExact c.args.extents.now (λ i. part_need p (use_of c.args.fx.now) c.args.at c.args.extents.now i pre.result_rect) pre.checkouts.items))
    (sym (sym c.part_of.ensures ∙ c.in-Color.is)) c.own_pre_render.ensures.exact

pub returns-in-Spatial-clause-checkouts : goal.returns-in-Spatial-clause-checkouts
returns-in-Spatial-clause-checkouts c =
    let fx = use_of c.args.fx.now in
    subst (λ (p : Part). IfOk c.pre_render_spatial.result (λ pre. AreCheckouts (part_wants p fx c.args.at) c.args.extents.now (λ i. part_need p fx c.args.at c.args.extents.now i pre.result_rect) pre.checkouts.items))
    (sym (sym c.part_of.ensures ∙ c.in-Spatial.is)) c.pre_render_spatial.ensures.checkouts

pub returns-in-Spatial-clause-exact : goal.returns-in-Spatial-clause-exact
returns-in-Spatial-clause-exact c =
    subst (λ (p : Part). IfOk c.pre_render_spatial.result (λ pre. AreExact c.args.extents.now (λ i. part_need p (use_of c.args.fx.now) c.args.at c.args.extents.now i pre.result_rect) pre.checkouts.items))
    (sym (sym c.part_of.ensures ∙ c.in-Spatial.is)) c.pre_render_spatial.ensures.exact

pub pre_render_time-requires-clause-fits : goal.pre_render_time-requires-clause-fits
pre_render_time-requires-clause-fits c =
    let fx = use_of c.args.fx.now in
    subst (λ (p : Part). FitsSchema (part_schema p) fx) (sym c.part_of.ensures ∙ c.in-Time.is) (fits_part fx c.requires.given.fits).fits

pub returns-in-Time-clause-checkouts : goal.returns-in-Time-clause-checkouts
returns-in-Time-clause-checkouts c =
    let fx = use_of c.args.fx.now in
    subst (λ (p : Part). IfOk c.pre_render_time.result (λ pre. AreCheckouts (part_wants p fx c.args.at) c.args.extents.now (λ i. part_need p fx c.args.at c.args.extents.now i pre.result_rect) pre.checkouts.items))
    (sym (sym c.part_of.ensures ∙ c.in-Time.is)) c.pre_render_time.ensures.checkouts

pub returns-in-Time-clause-exact : goal.returns-in-Time-clause-exact
returns-in-Time-clause-exact c =
    subst (λ (p : Part). IfOk c.pre_render_time.result (λ pre. AreExact c.args.extents.now (λ i. part_need p (use_of c.args.fx.now) c.args.at c.args.extents.now i pre.result_rect) pre.checkouts.items))
    (sym (sym c.part_of.ensures ∙ c.in-Time.is)) c.pre_render_time.ensures.exact

pub returns-in-Analysis-clause-exact : goal.returns-in-Analysis-clause-exact
returns-in-Analysis-clause-exact c =
    subst (λ (p : Part). IfOk c.own_pre_render-in-Analysis.result (λ pre. AreExact c.args.extents.now (λ i. part_need p (use_of c.args.fx.now) c.args.at c.args.extents.now i pre.result_rect) pre.checkouts.items))
    (sym (sym c.part_of.ensures ∙ c.in-Analysis.is)) c.own_pre_render-in-Analysis.ensures.exact

pub returns-in-Color-clause-checkouts : goal.returns-in-Color-clause-checkouts
returns-in-Color-clause-checkouts c =
    let fx = use_of c.args.fx.now in
    subst (λ (p : Part). IfOk c.own_pre_render.result (λ pre. AreCheckouts (part_wants p fx c.args.at) c.args.extents.now (λ i. part_need p fx c.args.at c.args.extents.now i pre.result_rect) pre.checkouts.items))
    (sym (sym c.part_of.ensures ∙ c.in-Color.is)) c.own_pre_render.ensures.checkouts

pub returns-in-Analysis-clause-checkouts : goal.returns-in-Analysis-clause-checkouts
returns-in-Analysis-clause-checkouts c =
    let fx = use_of c.args.fx.now in
    subst (λ (p : Part). IfOk c.own_pre_render-in-Analysis.result (λ pre. AreCheckouts (part_wants p fx c.args.at) c.args.extents.now (λ i. part_need p fx c.args.at c.args.extents.now i pre.result_rect) pre.checkouts.items))
    (sym (sym c.part_of.ensures ∙ c.in-Analysis.is)) c.own_pre_render-in-Analysis.ensures.checkouts
