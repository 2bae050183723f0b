use Rattle.std.proofs.Common.{refl}
use Rattle.geom_rect.specs.Rect.{meet_of}
use Rattle.effect_api.specs.Own.{own_bounds}
use Rattle.effect_api.specs.Render.{IsResult, IsMet, AreExact}
use Rattle.effect_api.proofs.Requested.{four_ok, own_met, own_result, own_exact}
use Rattle.effect_api.proofs.own.own_pre_render.Goals as goal

pub returns-clause-rects : goal.returns-clause-rects
returns-clause-rects c =
    let e = c.own_answer.ensures in
    four_ok c.own_answer.result _ _ _ _ (IsResult (own_bounds c.args.extents.now) c.args.request) (λ pre most result few _. own_result pre _ c.args.request most result few)
    e.most e.result_is e.no_more e.checkouts

pub returns-clause-met : goal.returns-clause-met
returns-clause-met c =
    let e = c.own_answer.ensures in
    four_ok c.own_answer.result _ _ _ _ (IsMet (own_bounds c.args.extents.now) c.args.request) (λ pre _ result few _. own_met pre _ c.args.request result few)
    e.most e.result_is e.no_more e.checkouts

pub returns-clause-exact : goal.returns-clause-exact
returns-clause-exact c =
    let e = c.own_answer.ensures in
    four_ok c.own_answer.result _ _ _ _ (λ pre. AreExact c.args.extents.now (λ i. pre.result_rect) pre.checkouts.items) (λ pre _ result _ checkouts.
    own_exact pre c.args.extents.now c.args.request record { id = 0; want = record { input = 0; tick = c.args.at.tick }; request = meet_of c.args.request (own_bounds c.args.extents.now) } pre.checkouts.items result refl checkouts)
    e.most e.result_is e.no_more e.checkouts
