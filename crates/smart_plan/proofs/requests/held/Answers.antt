use Rattle.std.proofs.Common.{◌≡◌, ◌≢◌, true, sym, subst, ap, ◌∙◌}
use Rattle.geom_rect.specs.declared.rect.Rect.{Rect}
use Rattle.smart_plan.specs.Plan.{trimmed}
use Rattle.smart_plan.specs.Held.{IsHeld}
use Rattle.smart_plan.proofs.Holding.{with_request, held_whole, held_part}
use Rattle.smart_plan.proofs.requests.held.Goals as goal
use Rattle.smart_plan.proofs.requests.held.Goals.{then-is_elsewhen, else-is_elsewhen}

pub returns : goal.returns
returns c =
    let Held : Rect → Type 0 = λ r. IsHeld c.args.at c.args.extent.now c.args.checkout.now (with_request c.args.checkout.now r) in
    elim c.if-is_elsewhen.branch [
      | then-is_elsewhen w ↦ subst Held (sym w.request-is) (held_whole c.args.at c.args.extent.now c.args.checkout.now c.requires)
      | else-is_elsewhen w ↦
          let here : ¬ (c.args.checkout.now.want.tick ≢ c.args.at.tick) = λ other. let set : c.is_elsewhen.result ≡ true = c.is_elsewhen.ensures.1 other in cc in
          subst Held (sym (w.request-is ∙ w.trimmed-request.ensures ∙ ap trimmed w.meet.ensures.value)) (held_part c.args.at c.args.extent.now c.args.checkout.now c.requires here)
    ]
