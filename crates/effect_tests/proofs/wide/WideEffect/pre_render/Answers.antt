use Rattle.effect_api.specs.Own.{own_bounds}
use Rattle.effect_api.specs.Render.{IsResult}
use Rattle.effect_api.proofs.Requested.{four_ok, own_result}
use Rattle.effect_tests.proofs.wide.WideEffect.pre_render.Goals as goal

pub returns-clause-rects : goal.returns-clause-rects
returns-clause-rects c =
    let e = c.answer.ensures in
    four_ok c.answer.result _ _ _ _ (IsResult (own_bounds c.args.extents.now) c.args.request) (λ pre most result few _. own_result pre _ c.args.request most result few)
    e.most e.result_is e.no_more e.checkouts
