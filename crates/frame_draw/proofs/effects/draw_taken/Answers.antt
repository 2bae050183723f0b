use Rattle.std.proofs.Common.{◌≡◌, ◌<◌, ◌+◌, refl, subst, sym, ap, ◌∙◌, arith, rules}
use Rattle.std.specs.Prelude.{List, map}
use Rattle.project_model.specs.Plain.{plain_comp, plain_layer}
use Rattle.project_model.specs.Effects.{use_of}
use Rattle.effect_api.specs.declared.moment.Moment.{Moment}
use Rattle.effect_api.specs.Sets.{EffectSet, Drawing}
use Rattle.scene_meaning.specs.Scene.{plain_scene}
use Rattle.scene_meaning.specs.Parts.{wanted_by}
use Rattle.frame_draw.proofs.Drawing.{most_is_depth}
use Rattle.scene_meaning.specs.Parts.{drawn_from}
use Rattle.frame_draw.proofs.effects.draw_taken.Goals as goal
use Rattle.std.specs.List.{AllZip}
use Rattle.std.proofs.Math.Nat.{le_trans}
use Rattle.geom_rect.specs.declared.rect.Rect.{Rect}
use Rattle.geom_rect.specs.Rect.{IsWithin}
use Rattle.argb_world.proofs.Places.{area_within}
use Rattle.effect_api.specs.Checked.{planes_of}
use Rattle.effect_api.specs.Planes.{extents_of}
use Rattle.effect_api.specs.declared.pre_render.Checkout.{Checkout}
use Rattle.smart_plan.specs.Plan.{IsPart}
use Rattle.scene_meaning.proofs.Boxes.{bounds_boxed, boxed_area}
use Rattle.scene_meaning.proofs.Extents.{wanted_boxed, wanted_count, wanted_same}
use Rattle.frame_draw.specs.Uses.{AreWanted, IsAnswer}
use Rattle.effect_api.specs.declared.moment.Want.{Want}
use Rattle.effect_api.specs.declared.moment.Ask.{Ask}
use Rattle.effect_api.specs.Checked.{AreSums}
use Rattle.frame_draw.proofs.Wanted.{answer_sums, answer_values, asked_planes}
use Rattle.rational_time.specs.declared.time.Tick.{Tick}
use Rattle.frame_draw.proofs.Wanted.{are_checked, plan_wants, stand_extents, effect_stands}

pub draw_effect-requires : goal.draw_effect-requires
draw_effect-requires g c =
    let set : EffectSet = record {
      schemas = g.E.Effect.schemas;
      class_names = g.E.Effect.class_names;
      wants = g.E.Effect.wants;
      asks = g.E.Effect.asks;
      bounds = g.E.Effect.bounds;
      need = g.E.Effect.need;
    } in
    let drawing : Drawing = record { draws = g.E.Draw.draws; sums_of = g.E.Draw.sums_of } in
    let scene = plain_scene c.args.context.now.scene.now set drawing in
    let layer = c.args.layer.now in
    let fx = c.args.fx.now in
    let at = c.args.at in
    let plan = c.args.plan.now in
    let planned = c.requires.taken.planned in
    let checkouts : List Checkout = plan.pre.checkouts.items in
    let wants : List Want = g.E.Effect.wants (use_of fx) at in
    let asks : List Ask = g.E.Effect.asks (use_of fx) at in
    let wanted = wanted_by (drawn_from scene) (plain_comp c.args.comp.now) (plain_layer layer) c.args.number fx.layers in
    let checked : map (λ k. k.want) checkouts ≡ wants = plan_wants _ c.args.extents.now _ checkouts planned.checkouts in
    let pairs = c.args.taken.pixels.pairs in
    let tick : c.args.tick ≡ at.tick = sym (ap (λ (m : Moment). m.tick) planned.moment) in
    let are = c.requires.taken.wanted in
    let on_tick : AreWanted wanted at.tick checkouts pairs = subst (λ (k : Tick). AreWanted wanted k checkouts pairs) tick are in
    let answered = subst (λ (list : List Ask). AllZip (IsAnswer drawing.sums_of wanted) list c.args.taken.sums.items) planned.asked c.requires.taken.asked in
    let few : c.args.number < 8 = omega (arith, c.requires.taken.within, layer.few_effects) in
    let rects = wanted_boxed set c.args.context.now.scene.now (plain_comp c.args.comp.now) (plain_layer layer) c.args.number fx.layers wants c.args.extents.now planned.extents_are in
    let many = wanted_count set c.args.context.now.scene.now (plain_comp c.args.comp.now) (plain_layer layer) c.args.number fx.layers wants c.args.extents.now planned.extents_are in
    let limit : Rect = g.E.Effect.bounds (use_of fx) at c.args.extents.now in
    let boxed = bounds_boxed c.args.number c.args.extents.now limit (omega (arith, few)) rects (c.set_is_lawful.ensures.bounds_are (use_of fx) at c.args.extents.now planned.given many) in
    let there : extents_of (planes_of pairs) ≡ c.args.extents.now =
    stand_extents wanted at.tick checkouts pairs on_tick.each ∙ ap (λ ws. extents_of (map wanted ws)) checked
    ∙ sym (wanted_same set c.args.context.now.scene.now (plain_comp c.args.comp.now) (plain_layer layer) c.args.number fx.layers wants c.args.extents.now drawing planned.extents_are) in
    let fit = are_checked wanted wants at c.args.extents.now checkouts pairs checked on_tick there (λ k d within. (rects k d within).near) in
    let depth = most_is_depth g.row.MAX c.args.context.now.scene.now.project.depth c.requires.taken.depth in
    let values = answer_values drawing.sums_of wanted asks c.args.taken.sums.items answered in
    let sums = subst (λ ls. AreSums g.row.MAX drawing.sums_of asks ls) (sym (answer_sums drawing.sums_of wanted asks c.args.taken.sums.items answered))
    (asked_planes {most = g.row.MAX} c.args.context.now.scene.now set drawing c.args.of c.args.number c.args.comp.now layer fx.layers asks c.requires.taken.depth c.planes_are_boxed.ensures c.requires.taken.inside c.requires.taken.within planned.named planned.asks) in
    let part : IsPart limit c.args.request c.part.result = subst (IsPart limit c.args.request) (sym c.part.ensures.value) planned.part_is in
    let inside : IsWithin c.part.result plan.pre.max_result_rect = subst (IsWithin c.part.result) (sym planned.most_is) part.inside in
    let area = le_trans (area_within c.part.result limit part.inside) (boxed_area (c.args.number + 1) limit (omega (arith, few)) boxed) in
    search (rules, depth, planned.given, planned.based, fit, values, sums, inside, part.near boxed.near, area, c.requires.own, c.requires.opened)

pub returns-clause-stands : goal.returns-clause-stands
returns-clause-stands g c =
    let set : EffectSet = record {
      schemas = g.E.Effect.schemas;
      class_names = g.E.Effect.class_names;
      wants = g.E.Effect.wants;
      asks = g.E.Effect.asks;
      bounds = g.E.Effect.bounds;
      need = g.E.Effect.need;
    } in
    let drawing : Drawing = record { draws = g.E.Draw.draws; sums_of = g.E.Draw.sums_of } in
    let scene = plain_scene c.args.context.now.scene.now set drawing in
    let layer = c.args.layer.now in
    let fx = c.args.fx.now in
    let at = c.args.at in
    let plan = c.args.plan.now in
    let planned = c.requires.taken.planned in
    let checkouts : List Checkout = plan.pre.checkouts.items in
    let wants : List Want = g.E.Effect.wants (use_of fx) at in
    let asks : List Ask = g.E.Effect.asks (use_of fx) at in
    let wanted = wanted_by (drawn_from scene) (plain_comp c.args.comp.now) (plain_layer layer) c.args.number fx.layers in
    let checked : map (λ k. k.want) checkouts ≡ wants = plan_wants _ c.args.extents.now _ checkouts planned.checkouts in
    let pairs = c.args.taken.pixels.pairs in
    let tick : c.args.tick ≡ at.tick = sym (ap (λ (m : Moment). m.tick) planned.moment) in
    let are = c.requires.taken.wanted in
    let on_tick : AreWanted wanted at.tick checkouts pairs = subst (λ (k : Tick). AreWanted wanted k checkouts pairs) tick are in
    let answered = subst (λ (list : List Ask). AllZip (IsAnswer drawing.sums_of wanted) list c.args.taken.sums.items) planned.asked c.requires.taken.asked in
    let depth = most_is_depth g.row.MAX c.args.context.now.scene.now.project.depth c.requires.taken.depth in
    effect_stands c.args.context.now.scene.now set drawing c.args.of c.args.number c.args.comp.now layer fx c.args.tick.0 at _ wants c.args.extents.now _ checkouts plan.pre.max_result_rect c.part.result _ c.args.request pairs c.args.taken.sums.items c.draw_effect.result
    c.requires.taken.depth depth c.worlds_stand_for_planes.ensures c.requests_are_shown.ensures c.drawing_is_lawful.ensures c.planes_are_boxed.ensures c.requires.taken.inside c.requires.taken.within planned.named planned.given planned.moment refl planned.wants planned.asks planned.extents_are
    planned.checkouts planned.suffices planned.part_is on_tick answered c.part.ensures.value planned.most_is c.draw_effect.ensures.drawn
