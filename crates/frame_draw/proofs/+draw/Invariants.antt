use Rattle.std.proofs.Common.{◌≡◌, ◌*◌, ◌+◌, ◌-◌, ◌≤◌, ℤ, length, drop}
use Rattle.std.specs.Prelude.{take}
use Rattle.geom_rect.specs.Rect.{Has, frame_rect}
use Rattle.argb_pixel.specs.Pixel.{clear}
use Rattle.argb_world.specs.Picture.{at}
use Rattle.comp_stack.specs.Stack.{stack_over}
use Rattle.project_model.specs.Plain.{plain_comp, plain_of}
use Rattle.effect_api.specs.Sets.{EffectSet, Drawing}
use Rattle.scene_meaning.specs.Scene.{plain_scene}
use Rattle.scene_meaning.specs.Shown.{placed_layers}
use Rattle.frame_draw.specs.Areas.{area_in}
use Rattle.frame_draw.specs.Kept.{AreRight}
use Rattle.project_model.specs.Plain.{plain_layer}
use Rattle.scene_meaning.specs.Parts.{drawn_from}
use Rattle.std.specs.List.{AllZip}
use Rattle.std.specs.Prelude.{vec_capacity}
use Rattle.compute_cache.specs.Suite.{IsAsBefore}
use Rattle.scene_cache.specs.Sharing.{comp_of, effects_behind, level_in, receipts_of}
use Rattle.frame_draw.specs.Uses.{AreWanted, IsAnswer, OpensAll}
use Rattle.scene_meaning.specs.Parts.{wanted_by}
use Rattle.project_model.specs.Nesting.{stack_rank, source_rank}
use Rattle.frame_draw.proofs.+draw.Given as goal

-- what is nested has a lesser rank, what an effect wants fewer effects before it, and sums stand above the plane that they are of
abbrev pub decreases-draw::draw_comp : goal.decreases-draw::draw_comp
decreases-draw::draw_comp g l = 256 * stack_rank (plain_of l.context.now.scene.now.project) l.index + 210

abbrev pub decreases-draw::draw_layer : goal.decreases-draw::draw_layer
decreases-draw::draw_layer g l = 256 * stack_rank (plain_of l.context.now.scene.now.project) l.of + 209

abbrev pub decreases-draw::place_layer : goal.decreases-draw::place_layer
decreases-draw::place_layer g l = 256 * stack_rank (plain_of l.context.now.scene.now.project) l.of + 208

abbrev pub decreases-draw::show_matte : goal.decreases-draw::show_matte
decreases-draw::show_matte g l = 256 * stack_rank (plain_of l.context.now.scene.now.project) l.of + 207

abbrev pub decreases-draw::show_layer : goal.decreases-draw::show_layer
decreases-draw::show_layer g l = 256 * stack_rank (plain_of l.context.now.scene.now.project) l.of + 206

abbrev pub decreases-draw::layer_world : goal.decreases-draw::layer_world
decreases-draw::layer_world g l = 256 * stack_rank (plain_of l.context.now.scene.now.project) l.of + (16 * l.count + 2)

abbrev pub decreases-draw::effect_world : goal.decreases-draw::effect_world
decreases-draw::effect_world g l = 256 * stack_rank (plain_of l.context.now.scene.now.project) l.of + (16 * l.number + 13)

abbrev pub decreases-draw::draw_planned : goal.decreases-draw::draw_planned
decreases-draw::draw_planned g l = 256 * stack_rank (plain_of l.context.now.scene.now.project) l.of + (16 * l.number + 12)

abbrev pub decreases-take::take_all : goal.decreases-take::take_all
decreases-take::take_all g l = 256 * stack_rank (plain_of l.context.now.scene.now.project) l.of + (16 * l.number + 11)

abbrev pub decreases-take::take_waiting : goal.decreases-take::take_waiting
decreases-take::take_waiting g l = 256 * stack_rank (plain_of l.context.now.scene.now.project) l.of + (16 * l.number + 10)

abbrev pub decreases-take::begin_early : goal.decreases-take::begin_early
decreases-take::begin_early g l = 256 * stack_rank (plain_of l.context.now.scene.now.project) l.of + (16 * l.number + 9)

abbrev pub decreases-take::check_out : goal.decreases-take::check_out
decreases-take::check_out g l = 256 * stack_rank (plain_of l.context.now.scene.now.project) l.of + (16 * l.number + 9)

abbrev pub decreases-take::take_sums : goal.decreases-take::take_sums
decreases-take::take_sums g l = 256 * stack_rank (plain_of l.context.now.scene.now.project) l.of + (16 * l.number + 9)

abbrev pub decreases-take::take_pixels : goal.decreases-take::take_pixels
decreases-take::take_pixels g l = 256 * stack_rank (plain_of l.context.now.scene.now.project) l.of + (16 * l.number + 8)

abbrev pub decreases-take::wanted_world : goal.decreases-take::wanted_world
decreases-take::wanted_world g l = 256 * stack_rank (plain_of l.context.now.scene.now.project) l.of + (16 * l.number + 3)

abbrev pub decreases-take::take_value : goal.decreases-take::take_value
decreases-take::take_value g l = level_in (plain_of l.context.now.scene.now.project) l.share.class l.share.node

abbrev pub decreases-take::compute_value : goal.decreases-take::compute_value
decreases-take::compute_value g l = level_in (plain_of l.context.now.scene.now.project) l.share.class l.share.node - 1

abbrev pub decreases-take::whole_node : goal.decreases-take::whole_node
decreases-take::whole_node g l = 256 * stack_rank (plain_of l.context.now.scene.now.project) (comp_of l.node) + (16 * effects_behind l.node + 3)

abbrev pub decreases-draw::source_world : goal.decreases-draw::source_world
decreases-draw::source_world g l = 256 * source_rank (stack_rank (plain_of l.context.now.scene.now.project)) l.layer.now.source

abbrev pub decreases-draw::whole_comp : goal.decreases-draw::whole_comp
decreases-draw::whole_comp g l = 256 * stack_rank (plain_of l.context.now.scene.now.project) l.index + 211

abbrev pub decreases-draw::comp_world : goal.decreases-draw::comp_world
decreases-draw::comp_world g l = 256 * stack_rank (plain_of l.context.now.scene.now.project) l.index + 212

-- the layers so far, from the last one on
abbrev pub invariant-draw::draw_comp-loop-done : goal.invariant-draw::draw_comp-loop-done
invariant-draw::draw_comp-loop-done g l =
    let frame = frame_rect l.comp.width l.comp.height in
    let comp = plain_comp l.comp in
    let set : EffectSet = record {
      schemas = g.E.Effect.schemas;
      class_names = g.E.Effect.class_names;
      wants = g.E.Effect.wants;
      asks = g.E.Effect.asks;
      bounds = g.E.Effect.bounds;
      need = g.E.Effect.need;
    } in
    let drawing : Drawing = record { draws = g.E.Draw.draws; sums_of = g.E.Draw.sums_of } in
    let scene = plain_scene l.context.scene.now set drawing in
    record {
      count : l.count ≡ length l.comp.layers;
      extent : l.ground.extent ≡ frame;
      part : l.ground.part ≡ area_in frame l.fn.request;
      kept : AreRight {most = g.row.MAX} scene l.planes.kept.items;
      pass : IsAsBefore l.fn.pass l.pass;
      drawn : (x y : ℤ) → Has (area_in frame l.fn.request) x y
          → at l.ground x y ≡ stack_over g.row.MAX (placed_layers (drawn_from scene) comp l.tick.0 (l.count - l.done) (drop (l.count - l.done) comp.layers)) x y clear;
    }

-- the pixels that were taken so far
abbrev pub invariant-take::check_out-loop-place : goal.invariant-take::check_out-loop-place
invariant-take::check_out-loop-place g l =
    let set : EffectSet = record {
      schemas = g.E.Effect.schemas;
      class_names = g.E.Effect.class_names;
      wants = g.E.Effect.wants;
      asks = g.E.Effect.asks;
      bounds = g.E.Effect.bounds;
      need = g.E.Effect.need;
    } in
    let drawing : Drawing = record { draws = g.E.Draw.draws; sums_of = g.E.Draw.sums_of } in
    let scene = plain_scene l.context.scene.now set drawing in
    record {
      kept : AreRight {most = g.row.MAX} scene l.planes.kept.items;
      room : length l.checkouts ≤ l.pixels.room;
      count : length l.pixels.pairs ≡ l.place;
      wanted : AreWanted (wanted_by (drawn_from scene) (plain_comp l.comp) (plain_layer l.layer) l.number l.fx.layers) l.tick (take l.place l.checkouts) l.pixels.pairs;
      opened : OpensAll l.context.cache.now l.fn.pass (receipts_of l.pixels.pairs) l.pass;
    }

-- the sums that were taken so far
abbrev pub invariant-take::take_sums-loop-place : goal.invariant-take::take_sums-loop-place
invariant-take::take_sums-loop-place g l =
    let set : EffectSet = record {
      schemas = g.E.Effect.schemas;
      class_names = g.E.Effect.class_names;
      wants = g.E.Effect.wants;
      asks = g.E.Effect.asks;
      bounds = g.E.Effect.bounds;
      need = g.E.Effect.need;
    } in
    let drawing : Drawing = record { draws = g.E.Draw.draws; sums_of = g.E.Draw.sums_of } in
    let scene = plain_scene l.context.scene.now set drawing in
    record {
      kept : AreRight {most = g.row.MAX} scene l.planes.kept.items;
      room : length l.asks ≤ vec_capacity l.sums;
      count : length l.sums.items ≡ l.place;
      answers : AllZip (IsAnswer drawing.sums_of (wanted_by (drawn_from scene) (plain_comp l.comp) (plain_layer l.layer) l.number l.fx.layers)) (take l.place l.asks) l.sums.items;
      opened : OpensAll l.context.cache.now l.fn.pass l.sums.items l.pass;
    }

-- the receipts of the first round so far
abbrev pub invariant-take::begin_early-loop-place : goal.invariant-take::begin_early-loop-place
invariant-take::begin_early-loop-place g l =
    let set : EffectSet = record {
      schemas = g.E.Effect.schemas;
      class_names = g.E.Effect.class_names;
      wants = g.E.Effect.wants;
      asks = g.E.Effect.asks;
      bounds = g.E.Effect.bounds;
      need = g.E.Effect.need;
    } in
    let drawing : Drawing = record { draws = g.E.Draw.draws; sums_of = g.E.Draw.sums_of } in
    let scene = plain_scene l.context.scene.now set drawing in
    record {
      kept : AreRight {most = g.row.MAX} scene l.planes.kept.items;
      room : length l.shares ≤ vec_capacity l.early;
      count : length l.early.items ≤ l.place;
      opened : OpensAll l.context.cache.now l.fn.pass l.early.items l.pass;
    }
