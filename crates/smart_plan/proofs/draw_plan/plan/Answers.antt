use Rattle.std.proofs.Common.{List, subst}
use Rattle.project_model.specs.Effects.{use_of}
use Rattle.effect_api.specs.declared.pre_render.Checkout.{Checkout}
use Rattle.smart_plan.specs.Held.{AreMarks}
use Rattle.smart_plan.proofs.Sufficing.{part_from_result, checkouts_held, requests_held, marks_of_wants, suffices_from_local}
use Rattle.smart_plan.proofs.draw_plan.plan.Goals as goal

pub returns-clause-part : goal.returns-clause-part
returns-clause-part g c = part_from_result _ c.args.request c.in_ok-pre.pre c.in_ok-pre.ensures.rects

pub returns-clause-checkouts : goal.returns-clause-checkouts
returns-clause-checkouts g c =
    checkouts_held (g.E.Effect.wants (use_of c.args.fx.now) c.args.at) c.args.extents.now (λ i. g.E.Effect.need (use_of c.args.fx.now) c.args.at c.args.extents.now i c.in_ok-pre.pre.result_rect)
    c.args.at c.in_ok-pre.pre.checkouts.items c.hold_requests.new.checkouts.items c.hold_requests.ensures.long c.hold_requests.ensures.held c.in_ok-pre.ensures.checkouts

pub returns-clause-requests : goal.returns-clause-requests
returns-clause-requests g c =
    requests_held c.args.extents.now c.args.at c.in_ok-pre.pre.checkouts.items c.hold_requests.new.checkouts.items c.hold_requests.ensures.long c.hold_requests.ensures.held

pub returns-clause-marks : goal.returns-clause-marks
returns-clause-marks g c =
    marks_of_wants (g.E.Effect.wants (use_of c.args.fx.now) c.args.at) c.args.extents.now (λ i. g.E.Effect.need (use_of c.args.fx.now) c.args.at c.args.extents.now i c.in_ok-pre.pre.result_rect)
    c.args.at c.in_ok-pre.pre.checkouts.items c.in_ok-whole.whole.items c.in_ok-pre.ensures.checkouts
    (subst (λ (cs : List Checkout). AreMarks c.args.at cs c.in_ok-whole.whole.items) c.deref.ensures.value c.in_ok-whole.ensures)

pub returns-clause-suffices : goal.returns-clause-suffices
returns-clause-suffices g c =
    suffices_from_local g.row.MAX g.E.Draw.sums_of (g.E.Effect.wants (use_of c.args.fx.now) c.args.at) (g.E.Effect.asks (use_of c.args.fx.now) c.args.at) c.args.extents.now
    (λ rect i. g.E.Effect.need (use_of c.args.fx.now) c.args.at c.args.extents.now i rect) (g.E.Draw.draws (use_of c.args.fx.now) c.args.at) c.in_ok-pre.pre.result_rect c.hold_requests.new.checkouts.items
    (g.met.E.Draw.draws_locally (use_of c.args.fx.now) c.args.at c.args.extents.now c.requires.given) (returns-clause-checkouts g c)
