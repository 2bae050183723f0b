use Rattle.std.proofs.Common.{pos, List, [], ◌∷◌, ◌++◌, ap₂, sym, ◌∙◌, arith}
use Rattle.std.proofs.lemmas.List.{get_or_default}
use Rattle.std.proofs.lemmas.List.FromFn.{map-range_with_len_more}
use Rattle.geom_rect.specs.declared.rect.Rect.{Rect}
use Rattle.geom_rect.specs.Rect.{origin}
use Rattle.effect_api.specs.declared.moment.Want.{Want}
use Rattle.effect_api.specs.declared.pre_render.Checkout.{Checkout}
use Rattle.effect_api.specs.Planes.{extent_at}
use Rattle.fx_spatial.specs.Asked.{asked}
use Rattle.fx_time.specs.Asked.{want_in}
use Rattle.fx_time.proofs.pre_render.ask_each.Goals as goal

pub loop-k-preserved : goal.loop-k-preserved
loop-k-preserved c =
    let k = c.loop-k.k in
    let wants = c.args.wants.now in
    let extents = c.args.extents.now in
    c.in_ok-push.ensures.items
    ∙ ap₂ (λ (xs : List Checkout) (x : Checkout). xs ++ x ∷ []) c.loop-k.invariant
    (c.asked.ensures ∙ ap₂ (λ (w : Want) (e : Rect). asked w k c.args.rect e)
    (get_or_default wants k _ (record { input = 0; tick = record { 0 = pos 0 } }) c.loop-k-test.true)
    (get_or_default extents k _ origin (omega (arith, c.loop-k-test.true, c.requires.one_each))))
    ∙ sym (map-range_with_len_more (λ i. asked (want_in wants i) i c.args.rect (extent_at extents i)) 0 k k (omega arith))
