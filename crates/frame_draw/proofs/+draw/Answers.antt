use Rattle.std.proofs.Common.{◌≡◌, ℕ, suc, ◌*◌, ℤ, ◌-ℤ◌, ◌<◌, ◌≤◌, ◌-◌, ◌+◌, length, Some, drop, refl, subst, sym, ap, ◌∙◌, arith, rules}
use Rattle.std.proofs.Common.{[], ◌∷◌, ◌++◌}
use Rattle.std.specs.Prelude.{slice_get, slice_index_or, take, option_map, IfOk, List, map, true, false}
use Rattle.std.proofs.lemmas.List.{length-append}
use Rattle.std.proofs.lemmas.Option.{slice_get-get_or, slice_get-map, slice_get_within}
use Rattle.argb_pixel.specs.Pixel.{clear}
use Rattle.argb_world.specs.Picture.{at}
use Rattle.comp_stack.specs.Stack.{Plane, solid_plane, stack_over}
use Rattle.project_model.specs.Plain.{plain_comp, plain_fx, plain_layer, plain_of}
use Rattle.project_model.specs.declared.effect.FxUse.{FxUse}
use Rattle.rational_time.specs.Times.{tick_of}
use Rattle.scene_meaning.specs.Drawn.{moment_at}
use Rattle.project_model.specs.Effects.{use_of}
use Rattle.project_model.specs.Sound.{IsWritten}
use Rattle.effect_api.specs.declared.moment.Moment.{Moment}
use Rattle.project_model.specs.declared.item.Item.{Item}
use Rattle.project_model.specs.declared.layer.Layer.{Layer}
use Rattle.effect_api.specs.Sets.{EffectSet, Drawing}
use Rattle.scene_meaning.specs.Scene.{plain_scene}
use Rattle.scene_meaning.proofs.Nodes.{behind_more}
use Rattle.scene_meaning.specs.Shown.{base_in, clip_plane, fx_plane, placed_layers, plane_behind, plane_of_item, since}
use Rattle.scene_meaning.specs.Parts.{wanted_by}
use Rattle.frame_draw.proofs.Drawing.{most_is_depth}
use Rattle.scene_meaning.specs.Parts.{drawn_from}
use Rattle.frame_draw.specs.Layers.{brought}
use Rattle.scene_meaning.proofs.Inside.{comp_here, read_at}
use Rattle.frame_draw.proofs.Frames.{same_found}
use Rattle.scene_meaning.proofs.Inside.{there_is}
use Rattle.frame_draw.proofs.+draw.Goals as goal
use Rattle.frame_draw.proofs.+draw.Goals.{draw::draw_layer-then-not-is_seen-via-then-not-is_seen, draw::draw_layer-then-not-is_seen-via-else-not-is_seen+then-serves_as_matte}
use Rattle.std.specs.List.{All, AllZip}
use Rattle.std.proofs.Math.Nat.{le_trans}
use Rattle.geom_rect.specs.declared.rect.Rect.{Rect}
use Rattle.geom_rect.specs.Rect.{Has, IsWithin, frame_rect}
use Rattle.argb_world.specs.Picture.{Picture}
use Rattle.argb_world.proofs.Places.{area_within}
use Rattle.effect_api.specs.Planes.{HasSides}
use Rattle.effect_api.specs.Wants.{IsWant}
use Rattle.effect_api.specs.declared.pre_render.Checkout.{Checkout}
use Rattle.scene_meaning.specs.Boxes.{IsBoxed}
use Rattle.scene_meaning.specs.Extents.{IsWantedExtent}
use Rattle.scene_meaning.proofs.Boxes.{frame_boxed, boxed_area}
use Rattle.scene_meaning.proofs.Extents.{zip_push, are_extents}
use Rattle.scene_meaning.proofs.Uses.{fx_given, use_is, named_wanted, wants_are_wanted}
use Rattle.frame_draw.specs.Areas.{IsArea, StandsFor, area_in}
use Rattle.frame_draw.specs.Levels.{IsShareUnder, comp_level}
use Rattle.frame_draw.specs.Planned.{IsPlanned}
use Rattle.frame_draw.specs.Uses.{AreWanted, IsAnswer, OpensAll, receipts_in}
use Rattle.comp_stack.specs.Layers.{plane_of}
use Rattle.geom_rect.specs.Rect.{area_of}
use Rattle.argb_world.specs.Picture.{greatest_part}
use Rattle.effect_api.specs.declared.moment.Want.{Want}
use Rattle.effect_api.specs.declared.moment.Ask.{Ask}
use Rattle.scene_cache.proofs.Sharing.{mine_later}
use Rattle.frame_draw.proofs.Behind.{behind_plane, level_falls}
use Rattle.frame_draw.proofs.Areas.{whole_ok}
use Rattle.frame_draw.proofs.Taken.{answer_of, begun_mine, begun_theirs, needs_kept, ok_kept, on_err, one_taken, opens_taken, waited_is, waited_some}
use Rattle.frame_draw.proofs.Wanted.{asks_are_asked}
use Rattle.frame_draw.proofs.Behind.{plane_made}
use Rattle.frame_draw.proofs.Sharing.{before_same, early_here, early_later, early_opened, early_refused, opens_back, opens_here, opens_more, opens_on, opens_one, shares_before, shares_opened}
use Rattle.frame_draw.proofs.Taken.{drawn_wanted, receipts_push, shared_wanted}
use Rattle.scene_cache.proofs.Sharing.{as_before_trans, later_own}
use Rattle.scene_cache.specs.Sharing.{effects_behind, level_in, receipt_of, receipts_of}
use Rattle.scene_meaning.specs.Right.{value_of}
use Rattle.scene_meaning.specs.Shown.{plane}
use Rattle.scene_meaning.proofs.Inside.{found_holds}
use Rattle.effect_api.specs.Wants.{IsAsk}
use Rattle.frame_draw.proofs.Areas.{area_inside, area_is, stands_whole, stands_ok, stands_by, plane_by}
use Rattle.frame_draw.proofs.Wanted.{length_push, wanted_more, new_number, plan_wants, checkouts_want, requests_near}
use Rattle.frame_draw.proofs.Placing.{unseen_brings, matte_brings, seen_brings, unseen_matte, seen_matte, draw_step, none_drawn, out_of_time, in_time, comp_whole, whole_part, layer_is, placed_in, step_on}

pub draw::source_world-since_start-since-requires : goal.draw::source_world-since_start-since-requires
draw::source_world-since_start-since-requires g t c = subst (λ (b : ℕ). IsWritten b c.args.layer.now.start) (sym c.base_of.ensures.ticks) c.requires.layer.start

pub draw::draw_comp-is_in_time-requires : goal.draw::draw_comp-is_in_time-requires
draw::draw_comp-is_in_time-requires g t c = subst (λ (b : ℕ). IsWritten b c.comp_at-comp.result.now.frame) (sym c.base_of.ensures.ticks) c.comp_at-comp.ensures.sound.frame

pub draw::draw_comp-blank-requires : goal.draw::draw_comp-blank-requires
draw::draw_comp-blank-requires g t c =
    let comp = c.comp_at-comp.result.now in
    let frame : c.frame_rect-frame.result ≡ frame_rect comp.width comp.height = c.frame_rect-frame.ensures in
    let area : c.area_in.result ≡ area_in (frame_rect comp.width comp.height) c.args.request = c.area_in.ensures ∙ ap (λ (r : Rect). area_in r c.args.request) frame in
    let inside : IsWithin c.area_in.result c.frame_rect-frame.result = subst (λ (r : Rect). IsWithin r c.frame_rect-frame.result) (sym c.area_in.ensures) (area_inside c.frame_rect-frame.result c.args.request) in
    let size = c.comp_at-comp.ensures.sound.size in
    let boxed = subst (IsBoxed 0) (sym frame) (frame_boxed comp.width comp.height size.width_bound size.height_bound) in
    let few = le_trans (area_within c.area_in.result c.frame_rect-frame.result inside) (boxed_area 0 c.frame_rect-frame.result (omega arith) boxed) in
    search (rules, most_is_depth g.row.MAX c.args.context.now.scene.now.project.depth c.requires.ready.depth, inside, few)

pub draw::draw_comp-returns-then-not-is_in_time-clause-stands : goal.draw::draw_comp-returns-then-not-is_in_time-clause-stands
draw::draw_comp-returns-then-not-is_in_time-clause-stands g t c =
    let set : EffectSet = record {
      schemas = g.E.Effect.schemas;
      class_names = g.E.Effect.class_names;
      wants = g.E.Effect.wants;
      asks = g.E.Effect.asks;
      bounds = g.E.Effect.bounds;
      need = g.E.Effect.need;
    } in
    let drawing : Drawing = record { draws = g.E.Draw.draws; sums_of = g.E.Draw.sums_of } in
    let comp = c.comp_at-comp.result.now in
    let frame : c.frame_rect-frame.result ≡ frame_rect comp.width comp.height = c.frame_rect-frame.ensures in
    let area : c.area_in.result ≡ area_in (frame_rect comp.width comp.height) c.args.request = c.area_in.ensures ∙ ap (λ (r : Rect). area_in r c.args.request) frame in
    stands_whole c.args.request _ c.in_ok-ground.ground
    (out_of_time (plain_scene c.args.context.now.scene.now set drawing) c.args.index c.base_of.result.ticks (plain_comp comp) c.args.tick.0 c.is_in_time.result c.in_ok-ground.ground
    c.comp_at-comp.ensures.nesting (comp_here c.args.context.now.scene.now.project c.args.index comp c.comp_at-comp.ensures.here) c.base_of.ensures.ticks c.is_in_time.ensures c.if-not-is_in_time.true
    (c.in_ok-ground.ensures.extent ∙ frame) c.in_ok-ground.ensures.transparent)

pub draw::draw_comp-loop-done-init : goal.draw::draw_comp-loop-done-init
draw::draw_comp-loop-done-init g t c =
    let set : EffectSet = record {
      schemas = g.E.Effect.schemas;
      class_names = g.E.Effect.class_names;
      wants = g.E.Effect.wants;
      asks = g.E.Effect.asks;
      bounds = g.E.Effect.bounds;
      need = g.E.Effect.need;
    } in
    let drawing : Drawing = record { draws = g.E.Draw.draws; sums_of = g.E.Draw.sums_of } in
    let comp = c.comp_at-comp.result.now in
    let frame : c.frame_rect-frame.result ≡ frame_rect comp.width comp.height = c.frame_rect-frame.ensures in
    record {
      count = ap length c.as_slice-count.ensures;
      extent = c.in_ok-ground.ensures.extent ∙ frame;
      part = c.in_ok-ground.ensures.part ∙ c.area_in.ensures ∙ ap (λ (r : Rect). area_in r c.args.request) frame;
      kept = c.requires.kept;
      pass = before_same c.args.pass.now;
      drawn = λ x y h. c.in_ok-ground.ensures.transparent x y ∙ sym (none_drawn g.row.MAX (drawn_from (plain_scene c.args.context.now.scene.now set drawing)) comp c.args.tick.0 (length c.as_slice-count.result.now) x y (ap length c.as_slice-count.ensures));
    }

pub draw::draw_comp-draw_layer-requires : goal.draw::draw_comp-draw_layer-requires
draw::draw_comp-draw_layer-requires g t c =
    let comp = c.comp_at-comp.result.now in
    let frame : c.frame_rect-frame.result ≡ frame_rect comp.width comp.height = c.frame_rect-frame.ensures in
    let area : c.area_in.result ≡ area_in (frame_rect comp.width comp.height) c.args.request = c.area_in.ensures ∙ ap (λ (r : Rect). area_in r c.args.request) frame in
    let inv = c.loop-done.invariant in
    let size = c.comp_at-comp.ensures.sound.size in
    let part : IsArea c.loop-done.ground.part = subst IsArea (sym inv.part) (area_is comp.width comp.height c.args.request size.width_bound size.height_bound) in
    let shared = shares_before _ _ _ (comp_level (plain_of c.args.context.now.scene.now.project) c.args.index 209) _ _ c.loop-done.pass c.requires.shared inv.pass (omega arith) in
    search (rules, part, shared)

pub draw::draw_comp-loop-done-preserved : goal.draw::draw_comp-loop-done-preserved
draw::draw_comp-loop-done-preserved g t c =
    let set : EffectSet = record {
      schemas = g.E.Effect.schemas;
      class_names = g.E.Effect.class_names;
      wants = g.E.Effect.wants;
      asks = g.E.Effect.asks;
      bounds = g.E.Effect.bounds;
      need = g.E.Effect.need;
    } in
    let drawing : Drawing = record { draws = g.E.Draw.draws; sums_of = g.E.Draw.sums_of } in
    let inv = c.loop-done.invariant in
    let comp = c.comp_at-comp.result.now in
    let within : c.loop-done.done < length c.as_slice-count.result.now = omega (arith, c.loop-done-test.true, c.loop-done.auto.done-end) in
    record {
      count = inv.count;
      extent = c.in_ok-draw_layer.ensures.frame.0 ∙ inv.extent;
      part = c.in_ok-draw_layer.ensures.frame.1 ∙ inv.part;
      kept = c.in_ok-draw_layer.ensures.kept;
      pass = as_before_trans c.args.pass.now c.loop-done.pass c.draw_layer.new.pass inv.pass c.in_ok-draw_layer.ensures.pass;
      drawn =
          draw_step g.row.MAX (drawn_from (plain_scene c.args.context.now.scene.now set drawing)) comp c.args.tick.0 (length c.as_slice-count.result.now) c.loop-done.done (length c.as_slice-count.result.now - 1 - c.loop-done.done)
          c.loop-done.ground c.draw_layer.new.ground _ refl within inv.count inv.part inv.drawn c.in_ok-draw_layer.ensures.drawn;
    }

pub draw::draw_comp-returns-clause-stands : goal.draw::draw_comp-returns-clause-stands
draw::draw_comp-returns-clause-stands g t c =
    let set : EffectSet = record {
      schemas = g.E.Effect.schemas;
      class_names = g.E.Effect.class_names;
      wants = g.E.Effect.wants;
      asks = g.E.Effect.asks;
      bounds = g.E.Effect.bounds;
      need = g.E.Effect.need;
    } in
    let drawing : Drawing = record { draws = g.E.Draw.draws; sums_of = g.E.Draw.sums_of } in
    let inv = c.loop-done.invariant in
    let comp = c.comp_at-comp.result.now in
    let scene = plain_scene c.args.context.now.scene.now set drawing in
    let none : length c.as_slice-count.result.now - c.loop-done.done ≡ 0 = omega (arith, c.loop-done-test.false, c.loop-done.auto.done-end) in
    in_time scene c.args.index c.base_of.result.ticks g.row.MAX (plain_comp comp) c.args.tick.0 c.is_in_time.result c.loop-done.ground c.args.request
    c.comp_at-comp.ensures.nesting (comp_here c.args.context.now.scene.now.project c.args.index comp c.comp_at-comp.ensures.here) c.base_of.ensures.ticks c.requires.ready.depth c.is_in_time.ensures c.if-not-is_in_time.false
    inv.extent inv.part
    (λ x y h.
    inv.drawn x y h
    ∙ ap (λ (k : ℕ). stack_over g.row.MAX (placed_layers (drawn_from scene) (plain_comp comp) c.args.tick.0 k (drop k (plain_comp comp).layers)) x y clear) none)

pub draw::whole_comp-returns-clause-plane : goal.draw::whole_comp-returns-clause-plane
draw::whole_comp-returns-clause-plane g t c =
    let set : EffectSet = record {
      schemas = g.E.Effect.schemas;
      class_names = g.E.Effect.class_names;
      wants = g.E.Effect.wants;
      asks = g.E.Effect.asks;
      bounds = g.E.Effect.bounds;
      need = g.E.Effect.need;
    } in
    let drawing : Drawing = record { draws = g.E.Draw.draws; sums_of = g.E.Draw.sums_of } in
    let comp = c.comp_at-comp.result.now in
    comp_whole (plain_scene c.args.context.now.scene.now set drawing) c.args.index (plain_comp comp) c.args.tick.0 c.frame_rect-frame.result c.draw_comp.result
    c.comp_at-comp.ensures.nesting (comp_here c.args.context.now.scene.now.project c.args.index comp c.comp_at-comp.ensures.here) c.frame_rect-frame.ensures c.draw_comp.ensures.part c.draw_comp.ensures.stands

pub draw::whole_comp-returns-clause-part : goal.draw::whole_comp-returns-clause-part
draw::whole_comp-returns-clause-part g t c =
    let set : EffectSet = record {
      schemas = g.E.Effect.schemas;
      class_names = g.E.Effect.class_names;
      wants = g.E.Effect.wants;
      asks = g.E.Effect.asks;
      bounds = g.E.Effect.bounds;
      need = g.E.Effect.need;
    } in
    let drawing : Drawing = record { draws = g.E.Draw.draws; sums_of = g.E.Draw.sums_of } in
    let comp = c.comp_at-comp.result.now in
    whole_part (plain_scene c.args.context.now.scene.now set drawing) c.args.index (plain_comp comp) c.args.tick.0 c.frame_rect-frame.result c.draw_comp.result
    (comp_here c.args.context.now.scene.now.project c.args.index comp c.comp_at-comp.ensures.here) c.frame_rect-frame.ensures c.comp_at-comp.ensures.sound.size.some_width c.comp_at-comp.ensures.sound.size.some_height c.draw_comp.ensures.part c.draw_comp.ensures.stands

pub draw::draw_layer-is_seen-requires-clause-begin : goal.draw::draw_layer-is_seen-requires-clause-begin
draw::draw_layer-is_seen-requires-clause-begin g t c =
    let comp = c.args.comp.now in
    let layer = c.layer_at-layer.result.now in
    let sound = c.layer_at-layer.ensures.sound in
    let found : slice_get comp.layers c.args.index ≡ Some layer = c.layer_at-layer.ensures.here comp c.requires.here in
    subst (λ (b : ℕ). IsWritten b layer.in_point) (sym c.base_of.ensures.ticks) sound.in_point

pub draw::draw_layer-layer_at-layer-requires : goal.draw::draw_layer-layer_at-layer-requires
draw::draw_layer-layer_at-layer-requires g t c = record {
  comp = slice_get_within c.args.context.now.scene.now.project.comps c.args.of c.args.comp.now c.requires.here;
  layer = λ comp e. same_found c.args.context.now.scene.now.project.comps c.args.of c.args.comp.now comp c.args.index c.requires.here e c.requires.layer;
}

pub draw::draw_layer-place_layer-requires : goal.draw::draw_layer-place_layer-requires
draw::draw_layer-place_layer-requires g t c =
    let comp = c.args.comp.now in
    let layer = c.layer_at-layer.result.now in
    let found : slice_get comp.layers c.args.index ≡ Some layer = c.layer_at-layer.ensures.here comp c.requires.here in
    let inside = c.layer_at-layer.ensures.inside comp c.requires.here in
    let area : IsArea c.part-area.result = subst IsArea (sym c.part-area.ensures.value) c.requires.area in
    let shared = shares_before _ _ _ (comp_level (plain_of c.args.context.now.scene.now.project) c.args.of 208) _ _ c.args.pass.now c.requires.shared (before_same c.args.pass.now) (omega arith) in
    search (rules, found, inside, area, shared)

pub draw::draw_layer-returns-then-not-is_seen-clause-drawn : goal.draw::draw_layer-returns-then-not-is_seen-clause-drawn
draw::draw_layer-returns-then-not-is_seen-clause-drawn g t c =
    let set : EffectSet = record {
      schemas = g.E.Effect.schemas;
      class_names = g.E.Effect.class_names;
      wants = g.E.Effect.wants;
      asks = g.E.Effect.asks;
      bounds = g.E.Effect.bounds;
      need = g.E.Effect.need;
    } in
    let drawing : Drawing = record { draws = g.E.Draw.draws; sums_of = g.E.Draw.sums_of } in
    let comp = c.args.comp.now in
    let layer = c.layer_at-layer.result.now in
    let sound = c.layer_at-layer.ensures.sound in
    let found : slice_get comp.layers c.args.index ≡ Some layer = c.layer_at-layer.ensures.here comp c.requires.here in
    let sources = drawn_from (plain_scene c.args.context.now.scene.now set drawing) in
    λ other at_other x y h.
    let same : layer ≡ other = cc in
    subst (λ (l : Layer). at c.args.ground.now x y ≡ stack_over g.row.MAX (brought sources (plain_comp comp) c.args.tick.0 c.args.index (plain_layer l)) x y (at c.args.ground.now x y)) same
    (elim c.then-not-is_seen.branch [
      | draw::draw_layer-then-not-is_seen-via-then-not-is_seen w ↦
          unseen_brings g.row.MAX sources c.base_of.result.ticks (plain_comp comp) c.args.tick.0 c.args.index (plain_layer layer) c.is_seen.result x y (at c.args.ground.now x y) c.base_of.ensures.ticks c.is_seen.ensures w.if-not-is_seen.true
      | draw::draw_layer-then-not-is_seen-via-else-not-is_seen+then-serves_as_matte w ↦
          matte_brings g.row.MAX sources (plain_comp comp) c.args.tick.0 c.args.index (plain_layer layer) w.serves_as_matte.result x y (at c.args.ground.now x y) w.serves_as_matte.ensures w.if-serves_as_matte.true
    ])

pub draw::draw_layer-returns-clause-drawn : goal.draw::draw_layer-returns-clause-drawn
draw::draw_layer-returns-clause-drawn g t c =
    let set : EffectSet = record {
      schemas = g.E.Effect.schemas;
      class_names = g.E.Effect.class_names;
      wants = g.E.Effect.wants;
      asks = g.E.Effect.asks;
      bounds = g.E.Effect.bounds;
      need = g.E.Effect.need;
    } in
    let drawing : Drawing = record { draws = g.E.Draw.draws; sums_of = g.E.Draw.sums_of } in
    let comp = c.args.comp.now in
    let layer = c.layer_at-layer.result.now in
    let found : slice_get comp.layers c.args.index ≡ Some layer = c.layer_at-layer.ensures.here comp c.requires.here in
    let sources = drawn_from (plain_scene c.args.context.now.scene.now set drawing) in
    λ other at_other x y h.
    let same : layer ≡ other = cc in
    let there : Has c.part-area.result x y = subst (λ (r : Rect). Has r x y) (sym c.part-area.ensures.value) h in
    subst (λ (l : Layer). at c.stack.new.ground x y ≡ stack_over g.row.MAX (brought sources (plain_comp comp) c.args.tick.0 c.args.index (plain_layer l)) x y (at c.args.ground.now x y)) same
    (c.stack.ensures.stacked x y h
    ∙ step_on c.part-area.result sources c.args.tick.0 (plain_comp comp) c.args.index (plain_layer layer) c.in_ok-place_layer.field-0 x y (at c.args.ground.now x y) c.in_ok-place_layer.ensures.placed there
    ∙ seen_brings g.row.MAX sources c.base_of.result.ticks (plain_comp comp) c.args.tick.0 c.args.index (plain_layer layer) c.is_seen.result c.serves_as_matte.result x y (at c.args.ground.now x y)
    c.base_of.ensures.ticks c.is_seen.ensures c.if-not-is_seen.false c.serves_as_matte.ensures c.if-serves_as_matte.false)

pub draw::place_layer-returns-clause-placed : goal.draw::place_layer-returns-clause-placed
draw::place_layer-returns-clause-placed g t c =
    let set : EffectSet = record {
      schemas = g.E.Effect.schemas;
      class_names = g.E.Effect.class_names;
      wants = g.E.Effect.wants;
      asks = g.E.Effect.asks;
      bounds = g.E.Effect.bounds;
      need = g.E.Effect.need;
    } in
    let drawing : Drawing = record { draws = g.E.Draw.draws; sums_of = g.E.Draw.sums_of } in
    layer_is c.args.area (drawn_from (plain_scene c.args.context.now.scene.now set drawing)) c.args.tick.0 (plain_comp c.args.comp.now) c.args.index c.args.layer.now c.in_ok-show_layer.field-0 c.in_ok-over.over c.in_ok-show_layer.ensures.shown c.in_ok-over.ensures.matte

pub draw::show_matte-is_seen-requires-clause-begin : goal.draw::show_matte-is_seen-requires-clause-begin
draw::show_matte-is_seen-requires-clause-begin g t c =
    let comp = c.args.comp.now in
    let above = c.layer_at-above.result.now in
    let sound = c.layer_at-above.ensures.sound in
    let some : 1 ≤ c.args.index = omega (arith, c.if-index-eq0.false) in
    let found : slice_get comp.layers (c.args.index - 1) ≡ Some above = c.layer_at-above.ensures.here comp c.requires.here in
    subst (λ (b : ℕ). IsWritten b above.in_point) (sym c.base_of.ensures.ticks) sound.in_point

pub draw::show_matte-layer_at-above-requires : goal.draw::show_matte-layer_at-above-requires
draw::show_matte-layer_at-above-requires g t c =
    let there : c.args.index < length c.args.comp.now.layers = slice_get_within c.args.comp.now.layers c.args.index c.args.layer.now c.requires.layer in
    record {
      comp = slice_get_within c.args.context.now.scene.now.project.comps c.args.of c.args.comp.now c.requires.here;
      layer = λ comp e. same_found c.args.context.now.scene.now.project.comps c.args.of c.args.comp.now comp (c.args.index - 1) c.requires.here e (omega (arith, there, c.if-index-eq0.false));
    }

pub draw::show_matte-returns-then-not-is_seen-clause-matte : goal.draw::show_matte-returns-then-not-is_seen-clause-matte
draw::show_matte-returns-then-not-is_seen-clause-matte g t c =
    let set : EffectSet = record {
      schemas = g.E.Effect.schemas;
      class_names = g.E.Effect.class_names;
      wants = g.E.Effect.wants;
      asks = g.E.Effect.asks;
      bounds = g.E.Effect.bounds;
      need = g.E.Effect.need;
    } in
    let drawing : Drawing = record { draws = g.E.Draw.draws; sums_of = g.E.Draw.sums_of } in
    let comp = c.args.comp.now in
    let above = c.layer_at-above.result.now in
    let some : 1 ≤ c.args.index = omega (arith, c.if-index-eq0.false) in
    let found : slice_get comp.layers (c.args.index - 1) ≡ Some above = c.layer_at-above.ensures.here comp c.requires.here in
    unseen_matte {most = g.row.MAX} c.args.area (drawn_from (plain_scene c.args.context.now.scene.now set drawing)) c.base_of.result.ticks c.args.tick.0 comp c.args.index (plain_layer c.args.layer.now) above c.is_seen.result some found c.base_of.ensures.ticks c.is_seen.ensures c.if-not-is_seen.true

pub draw::show_matte-returns-clause-matte : goal.draw::show_matte-returns-clause-matte
draw::show_matte-returns-clause-matte g t c =
    let set : EffectSet = record {
      schemas = g.E.Effect.schemas;
      class_names = g.E.Effect.class_names;
      wants = g.E.Effect.wants;
      asks = g.E.Effect.asks;
      bounds = g.E.Effect.bounds;
      need = g.E.Effect.need;
    } in
    let drawing : Drawing = record { draws = g.E.Draw.draws; sums_of = g.E.Draw.sums_of } in
    let comp = c.args.comp.now in
    let above = c.layer_at-above.result.now in
    let some : 1 ≤ c.args.index = omega (arith, c.if-index-eq0.false) in
    let found : slice_get comp.layers (c.args.index - 1) ≡ Some above = c.layer_at-above.ensures.here comp c.requires.here in
    seen_matte {most = g.row.MAX} c.args.area (drawn_from (plain_scene c.args.context.now.scene.now set drawing)) c.base_of.result.ticks c.args.tick.0 comp c.args.index (plain_layer c.args.layer.now) above c.is_seen.result c.has_matte.result c.in_ok-show_layer.field-0 some found c.base_of.ensures.ticks
    c.is_seen.ensures c.if-not-is_seen.false c.has_matte.ensures c.if-not-has_matte.false c.in_ok-show_layer.ensures.shown

pub draw::show_layer-returns-clause-shown : goal.draw::show_layer-returns-clause-shown
draw::show_layer-returns-clause-shown g t c =
    let set : EffectSet = record {
      schemas = g.E.Effect.schemas;
      class_names = g.E.Effect.class_names;
      wants = g.E.Effect.wants;
      asks = g.E.Effect.asks;
      bounds = g.E.Effect.bounds;
      need = g.E.Effect.need;
    } in
    let drawing : Drawing = record { draws = g.E.Draw.draws; sums_of = g.E.Draw.sums_of } in
    let sources = drawn_from (plain_scene c.args.context.now.scene.now set drawing) in
    let layer = c.args.layer.now in
    placed_in sources c.base_of.result.ticks (plain_comp c.args.comp.now) c.args.tick.0 layer c.shown.result c.args.area c.request-request.result c.shown.ensures.fits c.base_of.ensures.ticks
    (c.shown.ensures.x ∙ c.position_of-position.ensures.x) (c.shown.ensures.y ∙ c.position_of-position.ensures.y) (c.shown.ensures.opacity ∙ c.position_of-position.ensures.opacity)
    (λ x y h. subst (λ (z : ℤ). Has c.request-request.result (x -ℤ z) (y -ℤ c.shown.result.y)) (sym c.shown.ensures.x) (subst (λ (z : ℤ). Has c.request-request.result (x -ℤ c.position_of-position.result.x) (y -ℤ z)) (sym c.shown.ensures.y) (c.request-request.ensures.points x y h)))
    (λ x y h.
    ap (λ (w : Picture). at w x y) c.shown.ensures.world
    ∙ c.in_ok-world.ensures.stands.agrees x y h
    ∙ ap (λ (n : ℕ). (plane_behind sources (plain_comp c.args.comp.now) (plain_layer layer) (take n (plain_layer layer).effects) c.args.tick.0).at x y) (ap length c.as_slice-count.ensures))

pub draw::layer_world-returns-else-count-eq0-clause-stands : goal.draw::layer_world-returns-else-count-eq0-clause-stands
draw::layer_world-returns-else-count-eq0-clause-stands g t c =
    let set : EffectSet = record {
      schemas = g.E.Effect.schemas;
      class_names = g.E.Effect.class_names;
      wants = g.E.Effect.wants;
      asks = g.E.Effect.asks;
      bounds = g.E.Effect.bounds;
      need = g.E.Effect.need;
    } in
    let drawing : Drawing = record { draws = g.E.Draw.draws; sums_of = g.E.Draw.sums_of } in
    let sources = drawn_from (plain_scene c.args.context.now.scene.now set drawing) in
    let layer = c.args.layer.now in
    let k : ℕ = c.args.count - 1 in
    let one : suc k ≡ c.args.count = omega (arith, c.if-count-eq0.false) in
    let found = there_is layer.effects k (omega (arith, one, c.requires.count)) in
    let plain = slice_get-map plain_fx layer.effects k ∙ ap (option_map plain_fx) found.1 in
    stands_by c.args.request _ _ c.effect_world.result
    (sym (ap (λ (p : ℤ → Plane). p c.args.tick.0) (behind_more sources (plain_comp c.args.comp.now) (plain_layer layer) (plain_layer layer).effects k (plain_fx found.0) plain))
    ∙ ap (λ (n : ℕ). plane_behind sources (plain_comp c.args.comp.now) (plain_layer layer) (take n (plain_layer layer).effects) c.args.tick.0) one)
    (c.effect_world.ensures.stands found.0 found.1)

-- ---- effects

pub draw::effect_world-moment_of-at-requires-clause-frame : goal.draw::effect_world-moment_of-at-requires-clause-frame
draw::effect_world-moment_of-at-requires-clause-frame g t c = subst (λ (b : ℕ). IsWritten b c.args.comp.now.frame) (sym c.base_of.ensures.ticks) c.requires.sound.frame

pub draw::effect_world-list_wants-requires-clause-given : goal.draw::effect_world-list_wants-requires-clause-given
draw::effect_world-list_wants-requires-clause-given g t c =
    let layer = c.args.layer.now in
    let fx = c.index-as_slice-number.result in
    let here : c.args.number < length c.as_slice.result.now = omega (arith, c.requires.number, ap length c.as_slice.ensures) in
    let found : slice_get layer.effects c.args.number ≡ Some fx = read_at layer.effects c.as_slice.result.now c.args.number fx c.as_slice.ensures here c.index-as_slice-number.is in
    let given =
    fx_given g.E.Effect.schemas c.args.context.now.scene.now.project c.args.of c.args.comp.now layer c.args.number fx c.moment_of-at.result c.base_of.result (tick_of c.base_of.result.ticks c.args.comp.now.frame) c.args.tick.0 c.requires.ready.uses c.requires.layer found
    c.base_of.ensures.base c.base_of.ensures.ticks c.moment_of-at.ensures.moment c.requires.held c.moment_of-at.ensures.low c.moment_of-at.ensures.high in
    given.0

pub draw::effect_world-list_wants-requires-clause-based : goal.draw::effect_world-list_wants-requires-clause-based
draw::effect_world-list_wants-requires-clause-based g t c =
    let layer = c.args.layer.now in
    let fx = c.index-as_slice-number.result in
    let here : c.args.number < length c.as_slice.result.now = omega (arith, c.requires.number, ap length c.as_slice.ensures) in
    let found : slice_get layer.effects c.args.number ≡ Some fx = read_at layer.effects c.as_slice.result.now c.args.number fx c.as_slice.ensures here c.index-as_slice-number.is in
    let given =
    fx_given g.E.Effect.schemas c.args.context.now.scene.now.project c.args.of c.args.comp.now layer c.args.number fx c.moment_of-at.result c.base_of.result (tick_of c.base_of.result.ticks c.args.comp.now.frame) c.args.tick.0 c.requires.ready.uses c.requires.layer found
    c.base_of.ensures.base c.base_of.ensures.ticks c.moment_of-at.ensures.moment c.requires.held c.moment_of-at.ensures.low c.moment_of-at.ensures.high in
    given.1

pub draw::effect_world-wanted_extents-requires-clause-layers : goal.draw::effect_world-wanted_extents-requires-clause-layers
draw::effect_world-wanted_extents-requires-clause-layers g t c =
    let layer = c.args.layer.now in
    let fx = c.index-as_slice-number.result in
    let here : c.args.number < length c.as_slice.result.now = omega (arith, c.requires.number, ap length c.as_slice.ensures) in
    let found : slice_get layer.effects c.args.number ≡ Some fx = read_at layer.effects c.as_slice.result.now c.args.number fx c.as_slice.ensures here c.index-as_slice-number.is in
    let given =
    fx_given g.E.Effect.schemas c.args.context.now.scene.now.project c.args.of c.args.comp.now layer c.args.number fx c.moment_of-at.result c.base_of.result (tick_of c.base_of.result.ticks c.args.comp.now.frame) c.args.tick.0 c.requires.ready.uses c.requires.layer found
    c.base_of.ensures.base c.base_of.ensures.ticks c.moment_of-at.ensures.moment c.requires.held c.moment_of-at.ensures.low c.moment_of-at.ensures.high in
    let mine = use_is g.E.Effect.schemas c.args.context.now.scene.now.project c.args.of c.args.comp.now layer c.args.number fx c.requires.ready.uses c.requires.layer found in
    mine.there

pub draw::effect_world-wanted_extents-requires-clause-wants : goal.draw::effect_world-wanted_extents-requires-clause-wants
draw::effect_world-wanted_extents-requires-clause-wants g t c =
    let set : EffectSet = record {
      schemas = g.E.Effect.schemas;
      class_names = g.E.Effect.class_names;
      wants = g.E.Effect.wants;
      asks = g.E.Effect.asks;
      bounds = g.E.Effect.bounds;
      need = g.E.Effect.need;
    } in
    let drawing : Drawing = record { draws = g.E.Draw.draws; sums_of = g.E.Draw.sums_of } in
    let layer = c.args.layer.now in
    let fx = c.index-as_slice-number.result in
    let here : c.args.number < length c.as_slice.result.now = omega (arith, c.requires.number, ap length c.as_slice.ensures) in
    let found : slice_get layer.effects c.args.number ≡ Some fx = read_at layer.effects c.as_slice.result.now c.args.number fx c.as_slice.ensures here c.index-as_slice-number.is in
    let given =
    fx_given g.E.Effect.schemas c.args.context.now.scene.now.project c.args.of c.args.comp.now layer c.args.number fx c.moment_of-at.result c.base_of.result (tick_of c.base_of.result.ticks c.args.comp.now.frame) c.args.tick.0 c.requires.ready.uses c.requires.layer found
    c.base_of.ensures.base c.base_of.ensures.ticks c.moment_of-at.ensures.moment c.requires.held c.moment_of-at.ensures.low c.moment_of-at.ensures.high in
    let base = base_in (plain_of c.args.context.now.scene.now.project) in
    let same : c.moment_of-at.result.base.ticks ≡ base = ap (λ (m : Moment). m.base.ticks) c.moment_of-at.ensures.moment ∙ c.base_of.ensures.ticks in
    let listed : c.deref.result.now ≡ g.E.Effect.wants (use_of fx) c.moment_of-at.result = c.deref.ensures.value ∙ c.in_ok-wants.ensures in
    let wanted = wants_are_wanted set (use_of fx) c.moment_of-at.result c.deref.result.now base c.set_is_lawful.ensures given.0 listed same in
    wanted.0

pub draw::effect_world-plan-requires-clause-given : goal.draw::effect_world-plan-requires-clause-given
draw::effect_world-plan-requires-clause-given g t c =
    let layer = c.args.layer.now in
    let fx = c.index-as_slice-number.result in
    let here : c.args.number < length c.as_slice.result.now = omega (arith, c.requires.number, ap length c.as_slice.ensures) in
    let found : slice_get layer.effects c.args.number ≡ Some fx = read_at layer.effects c.as_slice.result.now c.args.number fx c.as_slice.ensures here c.index-as_slice-number.is in
    let given =
    fx_given g.E.Effect.schemas c.args.context.now.scene.now.project c.args.of c.args.comp.now layer c.args.number fx c.moment_of-at.result c.base_of.result (tick_of c.base_of.result.ticks c.args.comp.now.frame) c.args.tick.0 c.requires.ready.uses c.requires.layer found
    c.base_of.ensures.base c.base_of.ensures.ticks c.moment_of-at.ensures.moment c.requires.held c.moment_of-at.ensures.low c.moment_of-at.ensures.high in
    given.0

pub draw::effect_world-plan-requires-clause-based : goal.draw::effect_world-plan-requires-clause-based
draw::effect_world-plan-requires-clause-based g t c =
    let layer = c.args.layer.now in
    let fx = c.index-as_slice-number.result in
    let here : c.args.number < length c.as_slice.result.now = omega (arith, c.requires.number, ap length c.as_slice.ensures) in
    let found : slice_get layer.effects c.args.number ≡ Some fx = read_at layer.effects c.as_slice.result.now c.args.number fx c.as_slice.ensures here c.index-as_slice-number.is in
    let given =
    fx_given g.E.Effect.schemas c.args.context.now.scene.now.project c.args.of c.args.comp.now layer c.args.number fx c.moment_of-at.result c.base_of.result (tick_of c.base_of.result.ticks c.args.comp.now.frame) c.args.tick.0 c.requires.ready.uses c.requires.layer found
    c.base_of.ensures.base c.base_of.ensures.ticks c.moment_of-at.ensures.moment c.requires.held c.moment_of-at.ensures.low c.moment_of-at.ensures.high in
    given.1

pub draw::effect_world-plan-requires-clause-extents : goal.draw::effect_world-plan-requires-clause-extents
draw::effect_world-plan-requires-clause-extents g t c =
    let set : EffectSet = record {
      schemas = g.E.Effect.schemas;
      class_names = g.E.Effect.class_names;
      wants = g.E.Effect.wants;
      asks = g.E.Effect.asks;
      bounds = g.E.Effect.bounds;
      need = g.E.Effect.need;
    } in
    let drawing : Drawing = record { draws = g.E.Draw.draws; sums_of = g.E.Draw.sums_of } in
    let layer = c.args.layer.now in
    let fx = c.index-as_slice-number.result in
    let here : c.args.number < length c.as_slice.result.now = omega (arith, c.requires.number, ap length c.as_slice.ensures) in
    let found : slice_get layer.effects c.args.number ≡ Some fx = read_at layer.effects c.as_slice.result.now c.args.number fx c.as_slice.ensures here c.index-as_slice-number.is in
    let given =
    fx_given g.E.Effect.schemas c.args.context.now.scene.now.project c.args.of c.args.comp.now layer c.args.number fx c.moment_of-at.result c.base_of.result (tick_of c.base_of.result.ticks c.args.comp.now.frame) c.args.tick.0 c.requires.ready.uses c.requires.layer found
    c.base_of.ensures.base c.base_of.ensures.ticks c.moment_of-at.ensures.moment c.requires.held c.moment_of-at.ensures.low c.moment_of-at.ensures.high in
    let base = base_in (plain_of c.args.context.now.scene.now.project) in
    let same : c.moment_of-at.result.base.ticks ≡ base = ap (λ (m : Moment). m.base.ticks) c.moment_of-at.ensures.moment ∙ c.base_of.ensures.ticks in
    let listed : c.deref.result.now ≡ g.E.Effect.wants (use_of fx) c.moment_of-at.result = c.deref.ensures.value ∙ c.in_ok-wants.ensures in
    let wanted = wants_are_wanted set (use_of fx) c.moment_of-at.result c.deref.result.now base c.set_is_lawful.ensures given.0 listed same in
    let zip = subst (AllZip (IsWantedExtent set c.args.context.now.scene.now (plain_comp c.args.comp.now) (plain_layer layer) c.args.number fx.layers) c.deref.result.now) (sym c.deref-2.ensures.value) c.in_ok-extents.ensures in
    are_extents set c.args.context.now.scene.now (plain_comp c.args.comp.now) (plain_layer layer) c.args.number fx.layers c.deref.result.now _ c.deref-2.result.now listed zip

pub take::wanted_world-source_world-requires : goal.take::wanted_world-source_world-requires
take::wanted_world-source_world-requires g t c =
    let inside = c.layer_at-other.ensures.inside c.args.comp.now c.requires.layer.here in
    search (rules, inside.sound, inside.below)

pub take::wanted_world-returns-clause-stands : goal.take::wanted_world-returns-clause-stands
take::wanted_world-returns-clause-stands g t c =
    let set : EffectSet = record {
      schemas = g.E.Effect.schemas;
      class_names = g.E.Effect.class_names;
      wants = g.E.Effect.wants;
      asks = g.E.Effect.asks;
      bounds = g.E.Effect.bounds;
      need = g.E.Effect.need;
    } in
    let drawing : Drawing = record { draws = g.E.Draw.draws; sums_of = g.E.Draw.sums_of } in
    let sources = drawn_from (plain_scene c.args.context.now.scene.now set drawing) in
    let comp = c.args.comp.now in
    let want = c.args.checkout.want in
    let i : ℕ = want.input - 1 in
    let one : want.input ≡ suc i = omega (arith, c.if-want-eq0.false) in
    let here : i < length c.as_slice.result.now = omega (arith, one, c.requires.want.input_is, ap length c.as_slice.ensures) in
    let named : ℕ = slice_index_or c.as_slice.result.now i 0 in
    let found : slice_get c.args.fx.now.layers i ≡ Some named = ap (λ l. slice_get l i) (sym c.as_slice.ensures) ∙ slice_get-get_or c.as_slice.result.now i 0 here in
    stands_by c.args.checkout.request _ _ c.source_world.result
    (named_wanted sources (plain_comp comp) _ c.args.fx.now.layers want.input i named (plain_layer c.layer_at-other.result.now) want.tick.0 one found
    (slice_get-map plain_layer comp.layers named ∙ ap (option_map plain_layer) (c.layer_at-other.ensures.here comp c.requires.layer.here)))
    c.source_world.ensures.stands

pub draw::source_world-returns-in-Solid-clause-stands : goal.draw::source_world-returns-in-Solid-clause-stands
draw::source_world-returns-in-Solid-clause-stands g t c =
    let set : EffectSet = record {
      schemas = g.E.Effect.schemas;
      class_names = g.E.Effect.class_names;
      wants = g.E.Effect.wants;
      asks = g.E.Effect.asks;
      bounds = g.E.Effect.bounds;
      need = g.E.Effect.need;
    } in
    let drawing : Drawing = record { draws = g.E.Draw.draws; sums_of = g.E.Draw.sums_of } in
    let sources = drawn_from (plain_scene c.args.context.now.scene.now set drawing) in
    let layer = c.args.layer.now in
    stands_ok c.args.request _ c.solid_world.result
    (plane_by c.solid_world.result _ _ (ap (solid_plane c.in-Solid.width c.in-Solid.height) c.of_channels.ensures ∙ sym (ap (λ (item : Item). plane_of_item sources layer.start item c.args.tick.0) c.in-Solid.is)) c.solid_world.ensures)

pub draw::source_world-returns-in-Clip-clause-stands : goal.draw::source_world-returns-in-Clip-clause-stands
draw::source_world-returns-in-Clip-clause-stands g t c =
    let set : EffectSet = record {
      schemas = g.E.Effect.schemas;
      class_names = g.E.Effect.class_names;
      wants = g.E.Effect.wants;
      asks = g.E.Effect.asks;
      bounds = g.E.Effect.bounds;
      need = g.E.Effect.need;
    } in
    let drawing : Drawing = record { draws = g.E.Draw.draws; sums_of = g.E.Draw.sums_of } in
    let scene = plain_scene c.args.context.now.scene.now set drawing in
    let layer = c.args.layer.now in
    stands_by c.args.request _ _ c.clip_world.result
    (ap (clip_plane scene c.in-Clip.index) (c.since_start-since.ensures.tick ∙ ap (λ (b : ℕ). since b layer.start c.args.tick.0) c.base_of.ensures.ticks)
    ∙ sym (ap (λ (item : Item). plane_of_item (drawn_from scene) layer.start item c.args.tick.0) c.in-Clip.is))
    (c.clip_world.ensures.stands set drawing)

-- ---- what is checked out

pub take::check_out-put-requires : goal.take::check_out-put-requires
take::check_out-put-requires g t c =
    let inv = c.loop-place.invariant in
    let within : c.loop-place.place < length c.args.checkouts.now = search rules in
    let room : length c.loop-place.pixels.pairs < c.loop-place.pixels.room = omega (arith, inv.count, inv.room, within) in
    let new = new_number _ _ _ c.loop-place.pixels.pairs c.loop-place.place inv.wanted (sym inv.count) in
    search (rules, room, new, c.in-Ok.ensures.wanted.world)

pub take::check_out-checkin_pixels-requires : goal.take::check_out-checkin_pixels-requires
take::check_out-checkin_pixels-requires g t c =
    let inv = c.loop-place.invariant in
    let left = opens_on c.args.context.now.cache.now c.args.pass.now c.loop-place.pass c.take_pixels.new.pass (receipts_of c.loop-place.pixels.pairs) inv.opened c.in-Err.ensures.refused in
    let own = later_own c.args.context.now.cache.now c.args.pass.now c.take_pixels.new.pass c.requires.shared.own left.later in
    let here = opens_here c.args.context.now.cache.now c.args.pass.now c.take_pixels.new.pass (receipts_of c.loop-place.pixels.pairs) left in
    search (rules, own, here)

pub take::check_out-returns-in-Err-clause-refused : goal.take::check_out-returns-in-Err-clause-refused
take::check_out-returns-in-Err-clause-refused g t c =
    let inv = c.loop-place.invariant in
    opens_back c.args.context.now.cache.now c.args.pass.now c.take_pixels.new.pass c.checkin_pixels.new.pass (receipts_of c.loop-place.pixels.pairs)
    (opens_on c.args.context.now.cache.now c.args.pass.now c.loop-place.pass c.take_pixels.new.pass (receipts_of c.loop-place.pixels.pairs) inv.opened c.in-Err.ensures.refused) c.checkin_pixels.ensures

pub take::check_out-loop-place-preserved : goal.take::check_out-loop-place-preserved
take::check_out-loop-place-preserved g t c =
    let set : EffectSet = record {
      schemas = g.E.Effect.schemas;
      class_names = g.E.Effect.class_names;
      wants = g.E.Effect.wants;
      asks = g.E.Effect.asks;
      bounds = g.E.Effect.bounds;
      need = g.E.Effect.need;
    } in
    let drawing : Drawing = record { draws = g.E.Draw.draws; sums_of = g.E.Draw.sums_of } in
    let scene = plain_scene c.args.context.now.scene.now set drawing in
    let inv = c.loop-place.invariant in
    let place : ℕ = c.loop-place.place in
    let checkouts = c.args.checkouts.now in
    let pairs = c.loop-place.pixels.pairs in
    let within : place < length checkouts = search rules in
    let wanted = wanted_by (drawn_from scene) (plain_comp c.args.comp.now) (plain_layer c.args.layer.now) c.args.number c.args.fx.now.layers in
    let next : suc place ≡ place + 1 = omega arith in
    record {
      kept = c.in-Ok.ensures.kept;
      room = subst (λ (n : ℕ). length checkouts ≤ n) (sym c.put.ensures.room) inv.room;
      count = ap length c.put.ensures.pairs ∙ length_push pairs _ ∙ ap suc inv.count ∙ next;
      wanted =
          subst (λ (n : ℕ). AreWanted wanted c.args.tick (take n checkouts) c.put.new.self.pairs) next
          (wanted_more wanted c.args.tick checkouts _ pairs c.put.new.self.pairs place c.in-Ok.taken inv.wanted inv.count (slice_get-get_or checkouts place _ within) c.put.ensures.pairs c.in-Ok.ensures.wanted);
      opened =
          subst (λ rs. OpensAll c.args.context.now.cache.now c.args.pass.now rs c.take_pixels.new.pass) (sym (ap receipts_of c.put.ensures.pairs ∙ receipts_push pairs place c.in-Ok.taken))
          (opens_more c.args.context.now.cache.now c.args.pass.now c.loop-place.pass c.take_pixels.new.pass (receipts_of pairs) (receipt_of c.in-Ok.taken) inv.opened c.in-Ok.ensures.opened);
    }

pub take::take_pixels-returns-then-is_now-clause-wanted : goal.take::take_pixels-returns-then-is_now-clause-wanted
take::take_pixels-returns-then-is_now-clause-wanted g t c =
    let set : EffectSet = record {
      schemas = g.E.Effect.schemas;
      class_names = g.E.Effect.class_names;
      wants = g.E.Effect.wants;
      asks = g.E.Effect.asks;
      bounds = g.E.Effect.bounds;
      need = g.E.Effect.need;
    } in
    let drawing : Drawing = record { draws = g.E.Draw.draws; sums_of = g.E.Draw.sums_of } in
    let scene = plain_scene c.args.context.now.scene.now set drawing in
    let same = c.is_now.ensures.0 c.if-is_now.true in
    drawn_wanted (wanted_by (drawn_from scene) (plain_comp c.args.comp.now) (plain_layer c.args.layer.now) c.args.number c.args.fx.now.layers) c.args.tick c.args.checkout c.drawn.result c.in_ok-world.world c.drawn.ensures.world c.drawn.ensures.plane c.in_ok-world.ensures.stands same

pub take::take_pixels-take_value-requires : goal.take::take_pixels-take_value-requires
take::take_pixels-take_value-requires g t c =
    let share = c.share_of-share.ensures.share (length g.E.Effect.class_names) (omega (arith, c.share_of-share.ensures.class)) in
    let shared = shares_before _ _ _ (level_in (plain_of c.args.context.now.scene.now.project) c.share_of-share.result.class c.share_of-share.result.node) _ _ c.args.pass.now c.requires.shared (before_same c.args.pass.now) (omega (arith, c.share_of-share.ensures.level)) in
    search (rules, share, shared)

pub take::take_pixels-returns-clause-wanted : goal.take::take_pixels-returns-clause-wanted
take::take_pixels-returns-clause-wanted g t c =
    let set : EffectSet = record {
      schemas = g.E.Effect.schemas;
      class_names = g.E.Effect.class_names;
      wants = g.E.Effect.wants;
      asks = g.E.Effect.asks;
      bounds = g.E.Effect.bounds;
      need = g.E.Effect.need;
    } in
    let drawing : Drawing = record { draws = g.E.Draw.draws; sums_of = g.E.Draw.sums_of } in
    let scene = plain_scene c.args.context.now.scene.now set drawing in
    let share = c.share_of-share.result in
    let near = c.node_is_boxed.ensures in
    let value = (waited_is scene share true c.args.context.now.cache.now c.args.pass.now c.take_value.new.pass c.in_ok-receipt.field-0 c.in-Some.receipt c.in_ok-receipt.ensures.taken c.in-Some.is).1 in
    let kept = c.kept_planes_show.ensures g.row.MAX set drawing (plane scene share.node share.tick.0) c.in-Some.receipt.value near.boxed.is
    (subst (λ (k : ℕ). value_of set drawing k 0 (plane scene share.node share.tick.0) ≡ Some c.in-Some.receipt.value) c.share_of-share.ensures.class
    (subst (λ (k : ℕ). value_of set drawing share.class k (plane scene share.node share.tick.0) ≡ Some c.in-Some.receipt.value) c.share_of-share.ensures.ask value)) in
    shared_wanted (wanted_by (drawn_from scene) (plain_comp c.args.comp.now) (plain_layer c.args.layer.now) c.args.number c.args.fx.now.layers) c.args.tick c.args.checkout c.in-Some.receipt (plane scene share.node share.tick.0) kept.0 kept.1 (c.share_of-share.ensures.wanted set drawing) near.boxed.is

pub take::take_pixels-returns-clause-opened : goal.take::take_pixels-returns-clause-opened
take::take_pixels-returns-clause-opened g t c =
    let set : EffectSet = record {
      schemas = g.E.Effect.schemas;
      class_names = g.E.Effect.class_names;
      wants = g.E.Effect.wants;
      asks = g.E.Effect.asks;
      bounds = g.E.Effect.bounds;
      need = g.E.Effect.need;
    } in
    let drawing : Drawing = record { draws = g.E.Draw.draws; sums_of = g.E.Draw.sums_of } in
    let scene = plain_scene c.args.context.now.scene.now set drawing in
    opens_one c.args.context.now.cache.now c.args.pass.now c.take_value.new.pass c.in-Some.receipt (waited_is scene c.share_of-share.result true c.args.context.now.cache.now c.args.pass.now c.take_value.new.pass c.in_ok-receipt.field-0 c.in-Some.receipt c.in_ok-receipt.ensures.taken c.in-Some.is).0

pub take::take_pixels-unreachable-requires : goal.take::take_pixels-unreachable-requires
take::take_pixels-unreachable-requires g t c =
    let set : EffectSet = record {
      schemas = g.E.Effect.schemas;
      class_names = g.E.Effect.class_names;
      wants = g.E.Effect.wants;
      asks = g.E.Effect.asks;
      bounds = g.E.Effect.bounds;
      need = g.E.Effect.need;
    } in
    let drawing : Drawing = record { draws = g.E.Draw.draws; sums_of = g.E.Draw.sums_of } in
    let scene = plain_scene c.args.context.now.scene.now set drawing in
    waited_some scene c.share_of-share.result c.args.context.now.cache.now c.args.pass.now c.take_value.new.pass c.in_ok-receipt.field-0 c.in_ok-receipt.ensures.taken c.in-None.is

-- ---- sums

pub take::take_sums-take_value-requires : goal.take::take_sums-take_value-requires
take::take_sums-take_value-requires g t c =
    let inv = c.loop-place.invariant in
    let ask = found_holds (IsAsk (length g.E.Effect.class_names) (length c.args.fx.now.layers) (base_in (plain_of c.args.context.now.scene.now.project))) c.args.asks.now c.loop-place.place c.ask_at-ask.result c.requires.asks c.ask_at-ask.ensures in
    let share = c.share_of-share.ensures.share (length g.E.Effect.class_names) ask.class_high in
    let shared = shares_opened _ _ _ (level_in (plain_of c.args.context.now.scene.now.project) c.share_of-share.result.class c.share_of-share.result.node) _ _ c.loop-place.pass c.loop-place.sums.items c.requires.shared inv.opened (omega (arith, c.share_of-share.ensures.level)) in
    search (rules, share, shared, inv.kept)

pub take::take_sums-checkin_all-requires-clause-open : goal.take::take_sums-checkin_all-requires-clause-open
take::take_sums-checkin_all-requires-clause-open g t c κs within =
    let inv = c.loop-place.invariant in
    opens_here c.args.context.now.cache.now c.args.pass.now c.take_value.new.pass c.loop-place.sums.items
    (opens_on c.args.context.now.cache.now c.args.pass.now c.loop-place.pass c.take_value.new.pass c.loop-place.sums.items inv.opened c.in-Err.ensures.refused)

pub take::take_sums-returns-in-Err-clause-refused : goal.take::take_sums-returns-in-Err-clause-refused
take::take_sums-returns-in-Err-clause-refused g t c =
    let inv = c.loop-place.invariant in
    opens_back c.args.context.now.cache.now c.args.pass.now c.take_value.new.pass c.checkin_all.new.pass c.loop-place.sums.items
    (opens_on c.args.context.now.cache.now c.args.pass.now c.loop-place.pass c.take_value.new.pass c.loop-place.sums.items inv.opened c.in-Err.ensures.refused) c.checkin_all.ensures

-- ---- shared values

pub take::compute_value-returns-then-share-eq0-clause-made : goal.take::compute_value-returns-then-share-eq0-clause-made
take::compute_value-returns-then-share-eq0-clause-made g t c =
    let set : EffectSet = record {
      schemas = g.E.Effect.schemas;
      class_names = g.E.Effect.class_names;
      wants = g.E.Effect.wants;
      asks = g.E.Effect.asks;
      bounds = g.E.Effect.bounds;
      need = g.E.Effect.need;
    } in
    let drawing : Drawing = record { draws = g.E.Draw.draws; sums_of = g.E.Draw.sums_of } in
    let scene = plain_scene c.args.context.now.scene.now set drawing in
    let share = c.args.share in
    plane_made set drawing share.class share.ask (plane scene share.node share.tick.0) (plane_of c.in_ok-world.world) c.made_plane.result c.if-share-eq0.true (c.requires.share.plane c.if-share-eq0.true) c.in_ok-world.ensures.plane
    (c.made_plane.ensures set drawing)

pub take::compute_value-analyse-sums-requires : goal.take::compute_value-analyse-sums-requires
take::compute_value-analyse-sums-requires g t c =
    let set : EffectSet = record {
      schemas = g.E.Effect.schemas;
      class_names = g.E.Effect.class_names;
      wants = g.E.Effect.wants;
      asks = g.E.Effect.asks;
      bounds = g.E.Effect.bounds;
      need = g.E.Effect.need;
    } in
    let drawing : Drawing = record { draws = g.E.Draw.draws; sums_of = g.E.Draw.sums_of } in
    let scene = plain_scene c.args.context.now.scene.now set drawing in
    let share = c.args.share in
    let near = c.node_is_boxed.ensures in
    let kept = c.kept_planes_show.ensures g.row.MAX set drawing (plane scene share.node share.tick.0) c.in-Some.plane.value near.boxed.is (waited_is scene (record { class = 0; node = c.args.share.node; ask = 0; tick = c.args.share.tick }) true c.args.context.now.cache.now c.args.pass.now c.take_value.new.pass c.in_ok-plane.field-0 c.in-Some.plane c.in_ok-plane.ensures.taken c.in-Some.is).1 in
    let some : 1 ≤ share.class = omega (arith, c.if-share-eq0.false) in
    let depth = most_is_depth g.row.MAX c.args.context.now.scene.now.project.depth c.requires.ready.depth in
    search (rules, depth, some, c.requires.share.class_is, c.requires.turn, c.requires.share.ask_is, kept.0, kept.2)

pub take::compute_value-checkin_one-requires-clause-open : goal.take::compute_value-checkin_one-requires-clause-open
take::compute_value-checkin_one-requires-clause-open g t c κs within =
    let set : EffectSet = record {
      schemas = g.E.Effect.schemas;
      class_names = g.E.Effect.class_names;
      wants = g.E.Effect.wants;
      asks = g.E.Effect.asks;
      bounds = g.E.Effect.bounds;
      need = g.E.Effect.need;
    } in
    let drawing : Drawing = record { draws = g.E.Draw.draws; sums_of = g.E.Draw.sums_of } in
    let scene = plain_scene c.args.context.now.scene.now set drawing in
    opens_here c.args.context.now.cache.now c.args.pass.now c.take_value.new.pass (c.in-Some.plane ∷ []) (opens_one c.args.context.now.cache.now c.args.pass.now c.take_value.new.pass c.in-Some.plane (waited_is scene (record { class = 0; node = c.args.share.node; ask = 0; tick = c.args.share.tick }) true c.args.context.now.cache.now c.args.pass.now c.take_value.new.pass c.in_ok-plane.field-0 c.in-Some.plane c.in_ok-plane.ensures.taken c.in-Some.is).0)

pub take::compute_value-returns-in_err-sums-clause-pass : goal.take::compute_value-returns-in_err-sums-clause-pass
take::compute_value-returns-in_err-sums-clause-pass g t c =
    let set : EffectSet = record {
      schemas = g.E.Effect.schemas;
      class_names = g.E.Effect.class_names;
      wants = g.E.Effect.wants;
      asks = g.E.Effect.asks;
      bounds = g.E.Effect.bounds;
      need = g.E.Effect.need;
    } in
    let drawing : Drawing = record { draws = g.E.Draw.draws; sums_of = g.E.Draw.sums_of } in
    let scene = plain_scene c.args.context.now.scene.now set drawing in
    opens_back c.args.context.now.cache.now c.args.pass.now c.take_value.new.pass c.checkin_one.new.pass (c.in-Some.plane ∷ []) (opens_one c.args.context.now.cache.now c.args.pass.now c.take_value.new.pass c.in-Some.plane (waited_is scene (record { class = 0; node = c.args.share.node; ask = 0; tick = c.args.share.tick }) true c.args.context.now.cache.now c.args.pass.now c.take_value.new.pass c.in_ok-plane.field-0 c.in-Some.plane c.in_ok-plane.ensures.taken c.in-Some.is).0) c.checkin_one.ensures

pub take::compute_value-returns-clause-made : goal.take::compute_value-returns-clause-made
take::compute_value-returns-clause-made g t c =
    let set : EffectSet = record {
      schemas = g.E.Effect.schemas;
      class_names = g.E.Effect.class_names;
      wants = g.E.Effect.wants;
      asks = g.E.Effect.asks;
      bounds = g.E.Effect.bounds;
      need = g.E.Effect.need;
    } in
    let drawing : Drawing = record { draws = g.E.Draw.draws; sums_of = g.E.Draw.sums_of } in
    let scene = plain_scene c.args.context.now.scene.now set drawing in
    let share = c.args.share in
    let near = c.node_is_boxed.ensures in
    let kept = c.kept_planes_show.ensures g.row.MAX set drawing (plane scene share.node share.tick.0) c.in-Some.plane.value near.boxed.is (waited_is scene (record { class = 0; node = c.args.share.node; ask = 0; tick = c.args.share.tick }) true c.args.context.now.cache.now c.args.pass.now c.take_value.new.pass c.in_ok-plane.field-0 c.in-Some.plane c.in_ok-plane.ensures.taken c.in-Some.is).1 in
    let some : 1 ≤ share.class = omega (arith, c.if-share-eq0.false) in
    c.made_sums.ensures set drawing share.class share.ask (plane scene share.node share.tick.0) some c.requires.share.class_is (c.in_ok-sums.ensures ∙ ap (drawing.sums_of share.class share.ask) kept.1)

pub take::compute_value-returns-clause-pass : goal.take::compute_value-returns-clause-pass
take::compute_value-returns-clause-pass g t c =
    let set : EffectSet = record {
      schemas = g.E.Effect.schemas;
      class_names = g.E.Effect.class_names;
      wants = g.E.Effect.wants;
      asks = g.E.Effect.asks;
      bounds = g.E.Effect.bounds;
      need = g.E.Effect.need;
    } in
    let drawing : Drawing = record { draws = g.E.Draw.draws; sums_of = g.E.Draw.sums_of } in
    let scene = plain_scene c.args.context.now.scene.now set drawing in
    opens_back c.args.context.now.cache.now c.args.pass.now c.take_value.new.pass c.checkin_one.new.pass (c.in-Some.plane ∷ []) (opens_one c.args.context.now.cache.now c.args.pass.now c.take_value.new.pass c.in-Some.plane (waited_is scene (record { class = 0; node = c.args.share.node; ask = 0; tick = c.args.share.tick }) true c.args.context.now.cache.now c.args.pass.now c.take_value.new.pass c.in_ok-plane.field-0 c.in-Some.plane c.in_ok-plane.ensures.taken c.in-Some.is).0) c.checkin_one.ensures

pub take::compute_value-unreachable-requires : goal.take::compute_value-unreachable-requires
take::compute_value-unreachable-requires g t c =
    let set : EffectSet = record {
      schemas = g.E.Effect.schemas;
      class_names = g.E.Effect.class_names;
      wants = g.E.Effect.wants;
      asks = g.E.Effect.asks;
      bounds = g.E.Effect.bounds;
      need = g.E.Effect.need;
    } in
    let drawing : Drawing = record { draws = g.E.Draw.draws; sums_of = g.E.Draw.sums_of } in
    let scene = plain_scene c.args.context.now.scene.now set drawing in
    waited_some scene (record { class = 0; node = c.args.share.node; ask = 0; tick = c.args.share.tick }) c.args.context.now.cache.now c.args.pass.now c.take_value.new.pass c.in_ok-plane.field-0 c.in_ok-plane.ensures.taken c.in_default.is

pub take::whole_node-layer_world-requires : goal.take::whole_node-layer_world-requires
take::whole_node-layer_world-requires g t c =
    let comp = c.comp_at-comp.result.now in
    let layer = c.layer_at-layer.result.now in
    let there = c.layer_at-layer.ensures.here comp c.comp_at-comp.ensures.here in
    let inside = c.layer_at-layer.ensures.inside comp c.comp_at-comp.ensures.here in
    let few = c.place_of-place.ensures.effects comp layer c.comp_at-comp.ensures.here there in
    let shared = shares_before _ _ _ (comp_level (plain_of c.args.context.now.scene.now.project) c.place_of-place.result.comp (16 * c.place_of-place.result.count + 2)) _ _ c.args.pass.now c.requires.shared (before_same c.args.pass.now)
    (subst (λ (n : ℕ). comp_level (plain_of c.args.context.now.scene.now.project) c.place_of-place.result.comp (16 * c.place_of-place.result.count + 2) ≤ comp_level (plain_of c.args.context.now.scene.now.project) n (16 * effects_behind c.args.node + 3)) c.place_of-place.ensures.comp
    (omega (arith, c.place_of-place.ensures.count))) in
    search (rules, there, inside, few, shared, c.comp_at-comp.ensures.sound, c.everywhere.ensures.near)

pub draw::effect_world-draw_planned-requires : goal.draw::effect_world-draw_planned-requires
draw::effect_world-draw_planned-requires g t c =
    let set : EffectSet = record {
      schemas = g.E.Effect.schemas;
      class_names = g.E.Effect.class_names;
      wants = g.E.Effect.wants;
      asks = g.E.Effect.asks;
      bounds = g.E.Effect.bounds;
      need = g.E.Effect.need;
    } in
    let drawing : Drawing = record { draws = g.E.Draw.draws; sums_of = g.E.Draw.sums_of } in
    let scene = plain_scene c.args.context.now.scene.now set drawing in
    let layer = c.args.layer.now in
    let fx = c.index-as_slice-number.result in
    let here : c.args.number < length c.as_slice.result.now = omega (arith, c.requires.number, ap length c.as_slice.ensures) in
    let found : slice_get layer.effects c.args.number ≡ Some fx = read_at layer.effects c.as_slice.result.now c.args.number fx c.as_slice.ensures here c.index-as_slice-number.is in
    let given =
    fx_given g.E.Effect.schemas c.args.context.now.scene.now.project c.args.of c.args.comp.now layer c.args.number fx c.moment_of-at.result c.base_of.result (tick_of c.base_of.result.ticks c.args.comp.now.frame) c.args.tick.0 c.requires.ready.uses c.requires.layer found
    c.base_of.ensures.base c.base_of.ensures.ticks c.moment_of-at.ensures.moment c.requires.held c.moment_of-at.ensures.low c.moment_of-at.ensures.high in
    let mine = use_is g.E.Effect.schemas c.args.context.now.scene.now.project c.args.of c.args.comp.now layer c.args.number fx c.requires.ready.uses c.requires.layer found in
    let base = base_in (plain_of c.args.context.now.scene.now.project) in
    let same : c.moment_of-at.result.base.ticks ≡ base = ap (λ (m : Moment). m.base.ticks) c.moment_of-at.ensures.moment ∙ c.base_of.ensures.ticks in
    let listed : c.deref.result.now ≡ g.E.Effect.wants (use_of fx) c.moment_of-at.result = c.deref.ensures.value ∙ c.in_ok-wants.ensures in
    let zip = subst (AllZip (IsWantedExtent set c.args.context.now.scene.now (plain_comp c.args.comp.now) (plain_layer layer) c.args.number fx.layers) c.deref.result.now) (sym c.deref-2.ensures.value) c.in_ok-extents.ensures in
    let told = c.in_ok-plan.ensures in
    let moment : c.moment_of-at.result ≡ moment_at base (tick_of base c.args.comp.now.frame) c.args.tick.0 = c.moment_of-at.ensures.moment ∙ ap (λ (b : ℕ). moment_at b (tick_of b c.args.comp.now.frame) c.args.tick.0) c.base_of.ensures.ticks in
    let planned : IsPlanned g.row.MAX set drawing c.args.context.now.scene.now c.args.comp.now layer c.args.number fx c.args.tick.0 c.moment_of-at.result c.deref-2.result.now c.args.request c.in_ok-plan.plan = record {
      given = given.0;
      based = given.1;
      moment = moment;
      named = mine.there;
      wants = (wants_are_wanted set (use_of fx) c.moment_of-at.result (g.E.Effect.wants (use_of fx) c.moment_of-at.result) base c.set_is_lawful.ensures given.0 refl same).0;
      asks = asks_are_asked set (use_of fx) c.moment_of-at.result (g.E.Effect.asks (use_of fx) c.moment_of-at.result) base c.set_is_lawful.ensures given.0 refl same;
      extents_are = subst (λ ws. AllZip (IsWantedExtent set c.args.context.now.scene.now (plain_comp c.args.comp.now) (plain_layer layer) c.args.number fx.layers) ws c.deref-2.result.now) listed zip;
      most_is = told.rects.most;
      part_is = told.part;
      checkouts = told.checkouts;
      requests = told.requests;
      asked = told.asks;
      suffices = told.suffices;
    } in
    let all = subst (λ rs. IsPlanned g.row.MAX set drawing c.args.context.now.scene.now c.args.comp.now layer c.args.number fx c.args.tick.0 c.moment_of-at.result rs c.args.request c.in_ok-plan.plan) (c.deref-2.ensures.value ∙ sym c.deref-3.ensures.value) planned in
    let shared = shares_before _ _ _ (comp_level (plain_of c.args.context.now.scene.now.project) c.args.of (16 * c.args.number + 11)) _ _ c.args.pass.now c.requires.shared (before_same c.args.pass.now) (omega arith) in
    search (rules, all, shared)

pub draw::effect_world-returns-clause-stands : goal.draw::effect_world-returns-clause-stands
draw::effect_world-returns-clause-stands g t c =
    let set : EffectSet = record {
      schemas = g.E.Effect.schemas;
      class_names = g.E.Effect.class_names;
      wants = g.E.Effect.wants;
      asks = g.E.Effect.asks;
      bounds = g.E.Effect.bounds;
      need = g.E.Effect.need;
    } in
    let drawing : Drawing = record { draws = g.E.Draw.draws; sums_of = g.E.Draw.sums_of } in
    let scene = plain_scene c.args.context.now.scene.now set drawing in
    let layer = c.args.layer.now in
    let fx = c.index-as_slice-number.result in
    let here : c.args.number < length c.as_slice.result.now = omega (arith, c.requires.number, ap length c.as_slice.ensures) in
    let found : slice_get layer.effects c.args.number ≡ Some fx = read_at layer.effects c.as_slice.result.now c.args.number fx c.as_slice.ensures here c.index-as_slice-number.is in
    let given =
    fx_given g.E.Effect.schemas c.args.context.now.scene.now.project c.args.of c.args.comp.now layer c.args.number fx c.moment_of-at.result c.base_of.result (tick_of c.base_of.result.ticks c.args.comp.now.frame) c.args.tick.0 c.requires.ready.uses c.requires.layer found
    c.base_of.ensures.base c.base_of.ensures.ticks c.moment_of-at.ensures.moment c.requires.held c.moment_of-at.ensures.low c.moment_of-at.ensures.high in
    let mine = use_is g.E.Effect.schemas c.args.context.now.scene.now.project c.args.of c.args.comp.now layer c.args.number fx c.requires.ready.uses c.requires.layer found in
    let base = base_in (plain_of c.args.context.now.scene.now.project) in
    let same : c.moment_of-at.result.base.ticks ≡ base = ap (λ (m : Moment). m.base.ticks) c.moment_of-at.ensures.moment ∙ c.base_of.ensures.ticks in
    let listed : c.deref.result.now ≡ g.E.Effect.wants (use_of fx) c.moment_of-at.result = c.deref.ensures.value ∙ c.in_ok-wants.ensures in
    let zip = subst (AllZip (IsWantedExtent set c.args.context.now.scene.now (plain_comp c.args.comp.now) (plain_layer layer) c.args.number fx.layers) c.deref.result.now) (sym c.deref-2.ensures.value) c.in_ok-extents.ensures in
    let told = c.in_ok-plan.ensures in
    λ other at_other.
    let same_fx : fx ≡ other = cc in
    subst
    (λ (f : FxUse). IfOk c.draw_planned.result (StandsFor c.args.request
    (fx_plane (drawn_from scene) (plain_comp c.args.comp.now) (plane_behind (drawn_from scene) (plain_comp c.args.comp.now) (plain_layer layer) (take c.args.number (plain_layer layer).effects)) (plain_fx f) c.args.tick.0))) same_fx
    c.draw_planned.ensures.stands

pub take::take_waiting-check_out-requires : goal.take::take_waiting-check_out-requires
take::take_waiting-check_out-requires g t c =
    let set : EffectSet = record {
      schemas = g.E.Effect.schemas;
      class_names = g.E.Effect.class_names;
      wants = g.E.Effect.wants;
      asks = g.E.Effect.asks;
      bounds = g.E.Effect.bounds;
      need = g.E.Effect.need;
    } in
    let drawing : Drawing = record { draws = g.E.Draw.draws; sums_of = g.E.Draw.sums_of } in
    let scene = plain_scene c.args.context.now.scene.now set drawing in
    let layer = c.args.layer.now in
    let fx = c.args.fx.now in
    let at = c.args.at in
    let plan = c.args.plan.now in
    let planned = c.requires.planned in
    let checkouts : List Checkout = plan.pre.checkouts.items in
    let wants : List Want = g.E.Effect.wants (use_of fx) at in
    let asks : List Ask = g.E.Effect.asks (use_of fx) at in
    let wanted = wanted_by (drawn_from scene) (plain_comp c.args.comp.now) (plain_layer layer) c.args.number fx.layers in
    let checked : map (λ k. k.want) checkouts ≡ wants = plan_wants _ c.args.extents.now _ checkouts planned.checkouts in
    let base = base_in (plain_of c.args.context.now.scene.now.project) in
    let them : c.deref.result.now ≡ checkouts = c.deref.ensures.value in
    let each = subst (All (λ (k : Checkout). IsWant (length fx.layers) base k.want)) (sym them) (checkouts_want (IsWant (length fx.layers) base) wants checkouts checked planned.wants) in
    let near = subst (All (λ (k : Checkout). HasSides k.request)) (sym them) (requests_near at c.args.extents.now checkouts planned.requests) in
    let few : length c.deref.result.now ≤ 16 = omega (arith, ap length them, planned.checkouts.one_each, (c.set_is_lawful.ensures.wants_are (use_of fx) at planned.given).few) in
    let shared = shares_before _ _ _ (comp_level (plain_of c.args.context.now.scene.now.project) c.args.of (16 * c.args.number + 9)) _ _ c.args.pass.now c.requires.shared (before_same c.args.pass.now) (omega arith) in
    search (rules, planned.named, each, near, few, shared)

pub take::take_waiting-take_sums-requires : goal.take::take_waiting-take_sums-requires
take::take_waiting-take_sums-requires g t c =
    let set : EffectSet = record {
      schemas = g.E.Effect.schemas;
      class_names = g.E.Effect.class_names;
      wants = g.E.Effect.wants;
      asks = g.E.Effect.asks;
      bounds = g.E.Effect.bounds;
      need = g.E.Effect.need;
    } in
    let drawing : Drawing = record { draws = g.E.Draw.draws; sums_of = g.E.Draw.sums_of } in
    let scene = plain_scene c.args.context.now.scene.now set drawing in
    let layer = c.args.layer.now in
    let fx = c.args.fx.now in
    let at = c.args.at in
    let plan = c.args.plan.now in
    let planned = c.requires.planned in
    let checkouts : List Checkout = plan.pre.checkouts.items in
    let wants : List Want = g.E.Effect.wants (use_of fx) at in
    let asks : List Ask = g.E.Effect.asks (use_of fx) at in
    let wanted = wanted_by (drawn_from scene) (plain_comp c.args.comp.now) (plain_layer layer) c.args.number fx.layers in
    let checked : map (λ k. k.want) checkouts ≡ wants = plan_wants _ c.args.extents.now _ checkouts planned.checkouts in
    let asking : c.deref-2.result.now ≡ asks = c.deref-2.ensures.value ∙ planned.asked in
    let all = subst (λ (list : List Ask). All (IsAsk (length g.E.Effect.class_names) (length fx.layers) (base_in (plain_of c.args.context.now.scene.now.project))) list) (sym asking) planned.asks in
    let shared = shares_opened _ _ _ (comp_level (plain_of c.args.context.now.scene.now.project) c.args.of (16 * c.args.number + 9)) _ _ c.check_out.new.pass _ c.requires.shared c.in_ok-pixels.ensures.opened (omega arith) in
    search (rules, planned.named, all, shared, c.in_ok-pixels.ensures.kept)

pub take::take_waiting-returns-in-Ok-clause-taken : goal.take::take_waiting-returns-in-Ok-clause-taken
take::take_waiting-returns-in-Ok-clause-taken g t c =
    let set : EffectSet = record {
      schemas = g.E.Effect.schemas;
      class_names = g.E.Effect.class_names;
      wants = g.E.Effect.wants;
      asks = g.E.Effect.asks;
      bounds = g.E.Effect.bounds;
      need = g.E.Effect.need;
    } in
    let drawing : Drawing = record { draws = g.E.Draw.draws; sums_of = g.E.Draw.sums_of } in
    let scene = plain_scene c.args.context.now.scene.now set drawing in
    let wanted = wanted_by (drawn_from scene) (plain_comp c.args.comp.now) (plain_layer c.args.layer.now) c.args.number c.args.fx.now.layers in
    record {
      depth = c.requires.ready.depth;
      uses = c.requires.ready.uses;
      inside = c.requires.layer;
      within = c.requires.number;
      planned = c.requires.planned;
      wanted = subst (λ ks. AreWanted wanted c.args.tick ks c.in_ok-pixels.pixels.pairs) c.deref.ensures.value c.in_ok-pixels.ensures.wanted;
      asked = subst (λ (list : List Ask). AllZip (IsAnswer drawing.sums_of wanted) list c.in-Ok.sums.items) c.deref-2.ensures.value c.in-Ok.ensures.asked;
    }

pub take::take_waiting-returns-in-Ok-clause-opened : goal.take::take_waiting-returns-in-Ok-clause-opened
take::take_waiting-returns-in-Ok-clause-opened g t c =
    opens_more c.args.context.now.cache.now c.args.pass.now c.check_out.new.pass c.take_sums.new.pass (receipts_of c.in_ok-pixels.pixels.pairs) c.in-Ok.sums.items c.in_ok-pixels.ensures.opened c.in-Ok.ensures.opened

pub draw::draw_planned-take_all-requires : goal.draw::draw_planned-take_all-requires
draw::draw_planned-take_all-requires g t c =
    let shared = shares_before _ _ _ (comp_level (plain_of c.args.context.now.scene.now.project) c.args.of (16 * c.args.number + 10)) _ _ c.args.pass.now c.requires.shared (before_same c.args.pass.now) (omega arith) in
    search (rules, shared, c.requires.planned)

pub draw::draw_planned-draw_taken-requires : goal.draw::draw_planned-draw_taken-requires
draw::draw_planned-draw_taken-requires g t c =
    let out = c.in_ok-taken.ensures.opened in
    let own = later_own c.args.context.now.cache.now c.args.pass.now c.take_all.new.pass c.requires.shared.own out.later in
    let open_here = opens_here c.args.context.now.cache.now c.args.pass.now c.take_all.new.pass (receipts_of c.in_ok-taken.taken.pixels.pairs ++ c.in_ok-taken.taken.sums.items) out in
    search (rules, c.in_ok-taken.ensures.taken, own, open_here)

pub draw::draw_planned-returns-clause-pass : goal.draw::draw_planned-returns-clause-pass
draw::draw_planned-returns-clause-pass g t c =
    opens_back c.args.context.now.cache.now c.args.pass.now c.take_all.new.pass c.draw_taken.new.pass (receipts_of c.in_ok-taken.taken.pixels.pairs ++ c.in_ok-taken.taken.sums.items) c.in_ok-taken.ensures.opened c.draw_taken.ensures.back

pub take::take_waiting-checkin_pixels-requires : goal.take::take_waiting-checkin_pixels-requires
take::take_waiting-checkin_pixels-requires g t c =
    let receipts = receipts_of c.in_ok-pixels.pixels.pairs in
    let left = opens_on c.args.context.now.cache.now c.args.pass.now c.check_out.new.pass c.take_sums.new.pass receipts c.in_ok-pixels.ensures.opened c.in-Err.ensures.refused in
    let own = later_own c.args.context.now.cache.now c.args.pass.now c.take_sums.new.pass c.requires.shared.own left.later in
    let open_here = opens_here c.args.context.now.cache.now c.args.pass.now c.take_sums.new.pass receipts left in
    search (rules, own, open_here)

pub take::take_waiting-returns-in-Err-clause-refused : goal.take::take_waiting-returns-in-Err-clause-refused
take::take_waiting-returns-in-Err-clause-refused g t c =
    let receipts = receipts_of c.in_ok-pixels.pixels.pairs in
    opens_back c.args.context.now.cache.now c.args.pass.now c.take_sums.new.pass c.checkin_pixels.new.pass receipts (opens_on c.args.context.now.cache.now c.args.pass.now c.check_out.new.pass c.take_sums.new.pass receipts c.in_ok-pixels.ensures.opened c.in-Err.ensures.refused) c.checkin_pixels.ensures

pub take::take_pixels-node_is_boxed-requires-clause-node : goal.take::take_pixels-node_is_boxed-requires-clause-node
take::take_pixels-node_is_boxed-requires-clause-node g t c = (c.share_of-share.ensures.share 0 (omega (arith, c.share_of-share.ensures.class))).node

pub take::take_pixels-node_is_boxed-requires-clause-layer : goal.take::take_pixels-node_is_boxed-requires-clause-layer
take::take_pixels-node_is_boxed-requires-clause-layer g t c = (c.share_of-share.ensures.share 0 (omega (arith, c.share_of-share.ensures.class))).of_layer

pub take::take_sums-loop-place-preserved : goal.take::take_sums-loop-place-preserved
take::take_sums-loop-place-preserved g t c =
    let set : EffectSet = record {
      schemas = g.E.Effect.schemas;
      class_names = g.E.Effect.class_names;
      wants = g.E.Effect.wants;
      asks = g.E.Effect.asks;
      bounds = g.E.Effect.bounds;
      need = g.E.Effect.need;
    } in
    let drawing : Drawing = record { draws = g.E.Draw.draws; sums_of = g.E.Draw.sums_of } in
    let scene = plain_scene c.args.context.now.scene.now set drawing in
    let inv = c.loop-place.invariant in
    let place : ℕ = c.loop-place.place in
    let asks = c.args.asks.now in
    let within : place < length asks = search rules in
    let wanted = wanted_by (drawn_from scene) (plain_comp c.args.comp.now) (plain_layer c.args.layer.now) c.args.number c.args.fx.now.layers in
    let next : suc place ≡ place + 1 = omega arith in
    let share = c.share_of-share.result in
    let told = waited_is scene share true c.args.context.now.cache.now c.loop-place.pass c.take_value.new.pass c.in-Ok-Some.field-0 c.in-Ok-Some.taken c.in-Ok-Some.ensures.taken c.in-Ok-Some.field-0-is in
    let ask = found_holds (IsAsk (length g.E.Effect.class_names) (length c.args.fx.now.layers) (base_in (plain_of c.args.context.now.scene.now.project))) asks place c.ask_at-ask.result c.requires.asks c.ask_at-ask.ensures in
    let answer = answer_of set drawing wanted asks place c.ask_at-ask.result share (plane scene share.node share.tick.0) c.in-Ok-Some.taken c.kept_sums_are.ensures told.1 c.share_of-share.ensures.class c.share_of-share.ensures.ask
    (c.share_of-share.ensures.wanted set drawing) ask.class_low c.ask_at-ask.ensures in
    record {
      kept = c.in-Ok-Some.ensures.kept;
      room = subst (λ (n : ℕ). length asks ≤ n) (sym c.push_reserved.ensures.capacity) inv.room;
      count = ap length c.push_reserved.ensures.items ∙ length_push c.loop-place.sums.items _ ∙ ap suc inv.count ∙ next;
      answers =
          subst (λ rs. AllZip (IsAnswer drawing.sums_of wanted) (take (place + 1) asks) rs) (sym c.push_reserved.ensures.items)
          (subst (λ (n : ℕ). AllZip (IsAnswer drawing.sums_of wanted) (take n asks) (c.loop-place.sums.items ++ c.in-Ok-Some.taken ∷ [])) next (zip_push (IsAnswer drawing.sums_of wanted) asks c.loop-place.sums.items place c.in-Ok-Some.taken inv.answers within answer));
      opened =
          subst (λ rs. OpensAll c.args.context.now.cache.now c.args.pass.now rs c.take_value.new.pass) (sym c.push_reserved.ensures.items)
          (opens_more c.args.context.now.cache.now c.args.pass.now c.loop-place.pass c.take_value.new.pass c.loop-place.sums.items (c.in-Ok-Some.taken ∷ []) inv.opened (opens_one c.args.context.now.cache.now c.loop-place.pass c.take_value.new.pass c.in-Ok-Some.taken told.0));
    }

pub take::take_sums-unreachable-requires : goal.take::take_sums-unreachable-requires
take::take_sums-unreachable-requires g t c =
    let set : EffectSet = record {
      schemas = g.E.Effect.schemas;
      class_names = g.E.Effect.class_names;
      wants = g.E.Effect.wants;
      asks = g.E.Effect.asks;
      bounds = g.E.Effect.bounds;
      need = g.E.Effect.need;
    } in
    let drawing : Drawing = record { draws = g.E.Draw.draws; sums_of = g.E.Draw.sums_of } in
    let scene = plain_scene c.args.context.now.scene.now set drawing in
    waited_some scene c.share_of-share.result c.args.context.now.cache.now c.loop-place.pass c.take_value.new.pass c.in-Ok-None.field-0 c.in-Ok-None.ensures.taken c.in-Ok-None.field-0-is

pub take::take_value-compute_value-made-requires : goal.take::take_value-compute_value-made-requires
take::take_value-compute_value-made-requires g t c =
    let set : EffectSet = record {
      schemas = g.E.Effect.schemas;
      class_names = g.E.Effect.class_names;
      wants = g.E.Effect.wants;
      asks = g.E.Effect.asks;
      bounds = g.E.Effect.bounds;
      need = g.E.Effect.need;
    } in
    let drawing : Drawing = record { draws = g.E.Draw.draws; sums_of = g.E.Draw.sums_of } in
    let scene = plain_scene c.args.context.now.scene.now set drawing in
    let mine = begun_mine scene c.args.share _ c.args.context.now.cache.now c.args.pass.now c.begin_share.new.pass c.in_ok-receipt.field-0 c.in-Mine.turn c.in-Mine.is c.in_ok-receipt.ensures.begun in
    let lower = mine.1 (level_in (plain_of c.args.context.now.scene.now.project) c.args.share.class c.args.share.node - 1) (level_falls (plain_of c.args.context.now.scene.now.project) c.args.share.class c.args.share.node) in
    search (rules, mine.0.class_is, lower)

pub take::take_value-end_share-requires : goal.take::take_value-end_share-requires
take::take_value-end_share-requires g t c =
    let set : EffectSet = record {
      schemas = g.E.Effect.schemas;
      class_names = g.E.Effect.class_names;
      wants = g.E.Effect.wants;
      asks = g.E.Effect.asks;
      bounds = g.E.Effect.bounds;
      need = g.E.Effect.need;
    } in
    let drawing : Drawing = record { draws = g.E.Draw.draws; sums_of = g.E.Draw.sums_of } in
    let scene = plain_scene c.args.context.now.scene.now set drawing in
    let mine = begun_mine scene c.args.share _ c.args.context.now.cache.now c.args.pass.now c.begin_share.new.pass c.in_ok-receipt.field-0 c.in-Mine.turn c.in-Mine.is c.in_ok-receipt.ensures.begun in
    let turned = mine_later (plain_of c.args.context.now.scene.now.project) c.args.share c.args.context.now.cache.now c.args.pass.now c.begin_share.new.pass c.compute_value-made.new.pass c.in-Mine.turn mine.0 c.compute_value-made.ensures.pass in
    let own = later_own c.args.context.now.cache.now c.args.pass.now c.compute_value-made.new.pass c.requires.shared.own turned.later in
    search (rules, own, turned)

pub take::take_value-returns-in_ok-receipt-in-Mine-clause-taken : goal.take::take_value-returns-in_ok-receipt-in-Mine-clause-taken
take::take_value-returns-in_ok-receipt-in-Mine-clause-taken g t c =
    let set : EffectSet = record {
      schemas = g.E.Effect.schemas;
      class_names = g.E.Effect.class_names;
      wants = g.E.Effect.wants;
      asks = g.E.Effect.asks;
      bounds = g.E.Effect.bounds;
      need = g.E.Effect.need;
    } in
    let drawing : Drawing = record { draws = g.E.Draw.draws; sums_of = g.E.Draw.sums_of } in
    let scene = plain_scene c.args.context.now.scene.now set drawing in
    let mine = begun_mine scene c.args.share _ c.args.context.now.cache.now c.args.pass.now c.begin_share.new.pass c.in_ok-receipt.field-0 c.in-Mine.turn c.in-Mine.is c.in_ok-receipt.ensures.begun in
    let turned = mine_later (plain_of c.args.context.now.scene.now.project) c.args.share c.args.context.now.cache.now c.args.pass.now c.begin_share.new.pass c.compute_value-made.new.pass c.in-Mine.turn mine.0 c.compute_value-made.ensures.pass in
    c.in_ok-receipt-in-Mine.ensures.ended c.args.pass.now turned

pub take::take_value-returns-in_ok-receipt-in-Mine-clause-kept : goal.take::take_value-returns-in_ok-receipt-in-Mine-clause-kept
take::take_value-returns-in_ok-receipt-in-Mine-clause-kept g t c =
    ok_kept _ _ _ c.in_ok-receipt-in-Mine.was (needs_kept c.compute_value-made.result c.end_share.result _ c.end_share.ensures.needs c.compute_value-made.ensures.kept)

pub take::take_value-returns-in_err-receipt-in-Mine-clause-refused : goal.take::take_value-returns-in_err-receipt-in-Mine-clause-refused
take::take_value-returns-in_err-receipt-in-Mine-clause-refused g t c =
    let set : EffectSet = record {
      schemas = g.E.Effect.schemas;
      class_names = g.E.Effect.class_names;
      wants = g.E.Effect.wants;
      asks = g.E.Effect.asks;
      bounds = g.E.Effect.bounds;
      need = g.E.Effect.need;
    } in
    let drawing : Drawing = record { draws = g.E.Draw.draws; sums_of = g.E.Draw.sums_of } in
    let scene = plain_scene c.args.context.now.scene.now set drawing in
    let mine = begun_mine scene c.args.share _ c.args.context.now.cache.now c.args.pass.now c.begin_share.new.pass c.in_ok-receipt.field-0 c.in-Mine.turn c.in-Mine.is c.in_ok-receipt.ensures.begun in
    let turned = mine_later (plain_of c.args.context.now.scene.now.project) c.args.share c.args.context.now.cache.now c.args.pass.now c.begin_share.new.pass c.compute_value-made.new.pass c.in-Mine.turn mine.0 c.compute_value-made.ensures.pass in
    on_err _ _ (c.in_err-receipt-in-Mine.ensures.ended c.args.pass.now turned)

pub take::take_value-returns-in-Theirs-clause-taken : goal.take::take_value-returns-in-Theirs-clause-taken
take::take_value-returns-in-Theirs-clause-taken g t c =
    let set : EffectSet = record {
      schemas = g.E.Effect.schemas;
      class_names = g.E.Effect.class_names;
      wants = g.E.Effect.wants;
      asks = g.E.Effect.asks;
      bounds = g.E.Effect.bounds;
      need = g.E.Effect.need;
    } in
    let drawing : Drawing = record { draws = g.E.Draw.draws; sums_of = g.E.Draw.sums_of } in
    let scene = plain_scene c.args.context.now.scene.now set drawing in
    begun_theirs scene c.args.share _ c.args.context.now.cache.now c.args.pass.now c.begin_share.new.pass c.in_ok-receipt.field-0 c.in-Theirs.is c.in_ok-receipt.ensures.begun

pub take::whole_node-whole_world-requires : goal.take::whole_node-whole_world-requires
take::whole_node-whole_world-requires g t c =
    let set : EffectSet = record {
      schemas = g.E.Effect.schemas;
      class_names = g.E.Effect.class_names;
      wants = g.E.Effect.wants;
      asks = g.E.Effect.asks;
      bounds = g.E.Effect.bounds;
      need = g.E.Effect.need;
    } in
    let drawing : Drawing = record { draws = g.E.Draw.draws; sums_of = g.E.Draw.sums_of } in
    let scene = plain_scene c.args.context.now.scene.now set drawing in
    let comp = c.comp_at-comp.result.now in
    let layer = c.layer_at-layer.result.now in
    let there = c.layer_at-layer.ensures.here comp c.comp_at-comp.ensures.here in
    let few = c.place_of-place.ensures.effects comp layer c.comp_at-comp.ensures.here there in
    let near = c.node_is_boxed.ensures in
    let same = behind_plane c.args.context.now.scene.now set drawing c.place_of-place.result.comp c.place_of-place.result.layer c.place_of-place.result.count comp layer c.args.node c.args.tick.0 c.place_of-place.ensures.node c.comp_at-comp.ensures.here there few in
    let extent = c.in_ok-world.ensures.stands.extent ∙ sym (ap (λ (p : Plane). p.extent) same) in
    let area : area_of c.in_ok-world.world.extent ≤ greatest_part = subst (λ (r : Rect). area_of r ≤ greatest_part) (sym extent) (boxed_area near.count (plane scene c.args.node c.args.tick.0).extent near.few near.boxed.boxed) in
    search (rules, area)

pub take::whole_node-returns-clause-plane : goal.take::whole_node-returns-clause-plane
take::whole_node-returns-clause-plane g t c =
    let set : EffectSet = record {
      schemas = g.E.Effect.schemas;
      class_names = g.E.Effect.class_names;
      wants = g.E.Effect.wants;
      asks = g.E.Effect.asks;
      bounds = g.E.Effect.bounds;
      need = g.E.Effect.need;
    } in
    let drawing : Drawing = record { draws = g.E.Draw.draws; sums_of = g.E.Draw.sums_of } in
    let scene = plain_scene c.args.context.now.scene.now set drawing in
    let comp = c.comp_at-comp.result.now in
    let layer = c.layer_at-layer.result.now in
    let there = c.layer_at-layer.ensures.here comp c.comp_at-comp.ensures.here in
    let few = c.place_of-place.ensures.effects comp layer c.comp_at-comp.ensures.here there in
    let near = c.node_is_boxed.ensures in
    let same = behind_plane c.args.context.now.scene.now set drawing c.place_of-place.result.comp c.place_of-place.result.layer c.place_of-place.result.count comp layer c.args.node c.args.tick.0 c.place_of-place.ensures.node c.comp_at-comp.ensures.here there few in
    let stands = subst (λ (p : Plane). StandsFor c.everywhere.result p c.in_ok-world.world) (sym same) c.in_ok-world.ensures.stands in
    whole_ok c.everywhere.result (plane scene c.args.node c.args.tick.0) c.in_ok-world.world c.whole_world.result stands (c.everywhere.ensures.all near.count (plane scene c.args.node c.args.tick.0).extent near.few near.boxed.boxed) near.boxed.is.outside
    c.whole_world.ensures.inside c.whole_world.ensures.extent c.whole_world.ensures.points

pub take::take_sums-share_of-share-requires-clause-want : goal.take::take_sums-share_of-share-requires-clause-want
take::take_sums-share_of-share-requires-clause-want g t c =
    (found_holds (IsAsk (length g.E.Effect.class_names) (length c.args.fx.now.layers) (base_in (plain_of c.args.context.now.scene.now.project))) c.args.asks.now c.loop-place.place c.ask_at-ask.result c.requires.asks c.ask_at-ask.ensures).over

-- ---- the first round

pub take::take_all-shares_of-requires : goal.take::take_all-shares_of-requires
take::take_all-shares_of-requires g t c =
    let fx = c.args.fx.now in
    let at = c.args.at in
    let planned = c.requires.planned in
    let base = base_in (plain_of c.args.context.now.scene.now.project) in
    let checkouts : List Checkout = c.args.plan.now.pre.checkouts.items in
    let wants : List Want = g.E.Effect.wants (use_of fx) at in
    let asks : List Ask = g.E.Effect.asks (use_of fx) at in
    let checked : map (λ k. k.want) checkouts ≡ wants = plan_wants _ c.args.extents.now _ checkouts planned.checkouts in
    let them : c.deref.result.now ≡ checkouts = c.deref.ensures.value in
    let each = subst (All (λ (k : Checkout). IsWant (length fx.layers) base k.want)) (sym them) (checkouts_want (IsWant (length fx.layers) base) wants checkouts checked planned.wants) in
    let asking : c.deref-2.result.now ≡ asks = c.deref-2.ensures.value ∙ planned.asked in
    let all = subst (All (IsAsk (length g.E.Effect.class_names) (length fx.layers) base)) (sym asking) planned.asks in
    search (rules, planned.named, each, all)

pub take::take_all-begin_early-requires : goal.take::take_all-begin_early-requires
take::take_all-begin_early-requires g t c =
    let shares = subst (All (IsShareUnder (plain_of c.args.context.now.scene.now.project) (length g.E.Effect.class_names) (comp_level (plain_of c.args.context.now.scene.now.project) c.args.of (16 * c.args.number + 7)))) (sym c.deref-3.ensures.value) c.in_ok-shares.ensures in
    let shared = shares_before _ _ _ (comp_level (plain_of c.args.context.now.scene.now.project) c.args.of (16 * c.args.number + 9)) _ _ c.args.pass.now c.requires.shared (before_same c.args.pass.now) (omega arith) in
    search (rules, shares, shared)

pub take::take_all-take_waiting-taken-requires : goal.take::take_all-take_waiting-taken-requires
take::take_all-take_waiting-taken-requires g t c =
    let shared = shares_opened _ _ _ (comp_level (plain_of c.args.context.now.scene.now.project) c.args.of (16 * c.args.number + 10)) _ _ c.begin_early.new.pass _ c.requires.shared c.in_ok-early.ensures.opened (omega arith) in
    search (rules, shared, c.requires.planned, c.in_ok-early.ensures.kept)

pub take::take_all-checkin_all-requires-clause-own : goal.take::take_all-checkin_all-requires-clause-own
take::take_all-checkin_all-requires-clause-own g t c κs within =
    later_own c.args.context.now.cache.now c.args.pass.now c.take_waiting-taken.new.pass c.requires.shared.own (early_later c.args.context.now.cache.now c.args.pass.now c.begin_early.new.pass c.take_waiting-taken.new.pass c.in_ok-early.early.items c.take_waiting-taken.result (λ k. receipts_of k.pixels.pairs ++ k.sums.items) c.in_ok-early.ensures.opened c.take_waiting-taken.ensures.opened c.take_waiting-taken.ensures.refused)

pub take::take_all-checkin_all-requires-clause-open : goal.take::take_all-checkin_all-requires-clause-open
take::take_all-checkin_all-requires-clause-open g t c κs within = early_here c.args.context.now.cache.now c.args.pass.now c.begin_early.new.pass c.take_waiting-taken.new.pass c.in_ok-early.early.items c.take_waiting-taken.result (λ k. receipts_of k.pixels.pairs ++ k.sums.items) c.in_ok-early.ensures.opened c.take_waiting-taken.ensures.opened c.take_waiting-taken.ensures.refused

pub take::take_all-returns-clause-opened : goal.take::take_all-returns-clause-opened
take::take_all-returns-clause-opened g t c =
    early_opened c.args.context.now.cache.now c.args.pass.now c.begin_early.new.pass c.take_waiting-taken.new.pass c.checkin_all.new.pass c.in_ok-early.early.items c.take_waiting-taken.result (λ k. receipts_of k.pixels.pairs ++ k.sums.items)
    c.in_ok-early.ensures.opened c.take_waiting-taken.ensures.opened c.checkin_all.ensures

pub take::take_all-returns-clause-refused : goal.take::take_all-returns-clause-refused
take::take_all-returns-clause-refused g t c =
    early_refused c.args.context.now.cache.now c.args.pass.now c.begin_early.new.pass c.take_waiting-taken.new.pass c.checkin_all.new.pass c.in_ok-early.early.items c.take_waiting-taken.result
    c.in_ok-early.ensures.opened c.take_waiting-taken.ensures.refused c.checkin_all.ensures

pub take::begin_early-take_value-requires : goal.take::begin_early-take_value-requires
take::begin_early-take_value-requires g t c =
    let inv = c.loop-place.invariant in
    let one = found_holds (IsShareUnder (plain_of c.args.context.now.scene.now.project) (length g.E.Effect.class_names) (comp_level (plain_of c.args.context.now.scene.now.project) c.args.of (16 * c.args.number + 7))) c.args.shares.now c.loop-place.place c.share_at-share.result c.requires.shares c.share_at-share.ensures in
    let under = one.under in
    let shared = shares_opened _ _ _ (level_in (plain_of c.args.context.now.scene.now.project) c.share_at-share.result.class c.share_at-share.result.node) _ _ c.loop-place.pass c.loop-place.early.items c.requires.shared inv.opened (omega (arith, under)) in
    search (rules, one.is, shared, inv.kept, under)

pub take::begin_early-push_taken-requires-clause-room : goal.take::begin_early-push_taken-requires-clause-room
take::begin_early-push_taken-requires-clause-room g t c κs within =
    let inv = c.loop-place.invariant in
    let here : c.loop-place.place < length c.args.shares.now = search rules in
    omega (arith, inv.count, inv.room, here)

pub take::begin_early-checkin_all-requires-clause-open : goal.take::begin_early-checkin_all-requires-clause-open
take::begin_early-checkin_all-requires-clause-open g t c κs within =
    let inv = c.loop-place.invariant in
    opens_here c.args.context.now.cache.now c.args.pass.now c.take_value.new.pass c.loop-place.early.items
    (opens_on c.args.context.now.cache.now c.args.pass.now c.loop-place.pass c.take_value.new.pass c.loop-place.early.items inv.opened c.in-Err.ensures.refused)

pub take::begin_early-returns-in-Err-clause-refused : goal.take::begin_early-returns-in-Err-clause-refused
take::begin_early-returns-in-Err-clause-refused g t c =
    let inv = c.loop-place.invariant in
    opens_back c.args.context.now.cache.now c.args.pass.now c.take_value.new.pass c.checkin_all.new.pass c.loop-place.early.items
    (opens_on c.args.context.now.cache.now c.args.pass.now c.loop-place.pass c.take_value.new.pass c.loop-place.early.items inv.opened c.in-Err.ensures.refused) c.checkin_all.ensures

pub take::begin_early-loop-place-preserved : goal.take::begin_early-loop-place-preserved
take::begin_early-loop-place-preserved g t c =
    let set : EffectSet = record {
      schemas = g.E.Effect.schemas;
      class_names = g.E.Effect.class_names;
      wants = g.E.Effect.wants;
      asks = g.E.Effect.asks;
      bounds = g.E.Effect.bounds;
      need = g.E.Effect.need;
    } in
    let drawing : Drawing = record { draws = g.E.Draw.draws; sums_of = g.E.Draw.sums_of } in
    let scene = plain_scene c.args.context.now.scene.now set drawing in
    let inv = c.loop-place.invariant in
    let taken = c.in-Ok.taken in
    record {
      kept = c.in-Ok.ensures.kept;
      room = subst (λ (n : ℕ). length c.args.shares.now ≤ n) (sym c.push_taken.ensures.capacity) inv.room;
      count = omega (arith, inv.count, ap length c.push_taken.ensures.items, length-append c.loop-place.early.items (receipts_in taken), one_taken taken);
      opened =
          subst (λ rs. OpensAll c.args.context.now.cache.now c.args.pass.now rs c.take_value.new.pass) (sym c.push_taken.ensures.items)
          (opens_more c.args.context.now.cache.now c.args.pass.now c.loop-place.pass c.take_value.new.pass c.loop-place.early.items (receipts_in taken) inv.opened
          (opens_taken scene c.share_at-share.result false c.args.context.now.cache.now c.loop-place.pass c.take_value.new.pass taken c.in-Ok.ensures.taken));
    }
