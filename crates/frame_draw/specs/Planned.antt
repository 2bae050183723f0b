-- A plan of an effect, and what it was made from.
use Rattle.std.specs.Prelude.{◌≡◌, ◌<◌, ℕ, ℤ, List, length, take}
use Rattle.std.specs.List.{All, AllZip}
use Rattle.geom_rect.specs.declared.rect.Rect.{Rect}
use Rattle.rational_time.specs.Times.{tick_of}
use Rattle.project_model.specs.Effects.{use_of}
use Rattle.comp_stack.specs.Stack.{Plane}
use Rattle.rational_time.specs.declared.time.Tick.{Tick}
use Rattle.compute_cache.specs.Suite.{ReceiptOf}
use Rattle.project_model.specs.Bounds.{most_of}
use Rattle.project_model.specs.Uses.{AreUses}
use Rattle.project_model.specs.Plain.{plain_comp, plain_fx, plain_layer, plain_of}
use Rattle.project_model.specs.declared.comp.Comp.{Comp}
use Rattle.project_model.specs.declared.effect.FxUse.{FxUse}
use Rattle.project_model.specs.declared.layer.Layer.{Layer}
use Rattle.effect_api.specs.declared.moment.Moment.{Moment}
use Rattle.effect_api.specs.Fits.{IsBased, IsGiven}
use Rattle.effect_api.specs.Render.{AreCheckouts}
use Rattle.effect_api.specs.Sets.{EffectSet, Drawing}
use Rattle.effect_api.specs.Wants.{IsAsk, IsWant}
use Rattle.smart_plan.specs.declared.draw_plan.DrawPlan.{DrawPlan}
use Rattle.smart_plan.specs.Plan.{IsPart, part_of}
use Rattle.smart_plan.specs.Requests.{AreRequests, request_at}
use Rattle.smart_plan.specs.Suffices.{Suffices}
use Rattle.scene_meaning.specs.Drawn.{moment_at}
use Rattle.scene_meaning.specs.Extents.{IsWantedExtent}
use Rattle.effect_api.specs.Checked.{Pixels}
use Rattle.effect_api.specs.declared.checkouts.Value.{Value}
use Rattle.scene_meaning.specs.Parts.{IsLayerIn, drawn_from, wanted_by}
use Rattle.scene_meaning.specs.Scene.{SceneParts, plain_scene}
use Rattle.scene_meaning.specs.Shown.{Sources, base_in, fx_plane, plane_behind}
use Rattle.frame_draw.specs.Uses.{AreWanted, IsAnswer}

-- the plan of a request to the effect of a number at a tick, by the extents of what it wants
pub record IsPlanned (most : ℕ) (set : EffectSet) (drawing : Drawing) (parts : SceneParts) (comp : Comp) (layer : Layer) (number : ℕ) (fx : FxUse) (t : ℤ) (at : Moment) (extents : List Rect) (request : Rect) (plan : DrawPlan) : Type 0 where
  pub given : IsGiven set.schemas (use_of fx) at
  pub based : IsBased fx at
  pub moment : at ≡ moment_at (base_in (plain_of parts.project)) (tick_of (base_in (plain_of parts.project)) comp.frame) t
  pub named : All (λ index. index < length comp.layers) fx.layers
  pub wants : All (IsWant (length fx.layers) (base_in (plain_of parts.project))) (set.wants (use_of fx) at)
  pub asks : All (IsAsk (length set.class_names) (length fx.layers) (base_in (plain_of parts.project))) (set.asks (use_of fx) at)
  pub extents_are : AllZip (IsWantedExtent set parts (plain_comp comp) (plain_layer layer) number fx.layers) (set.wants (use_of fx) at) extents
  pub most_is : plan.pre.max_result_rect ≡ set.bounds (use_of fx) at extents
  pub part_is : IsPart (set.bounds (use_of fx) at extents) request (part_of plan.pre)
  pub checkouts : AreCheckouts (set.wants (use_of fx) at) extents (λ i. set.need (use_of fx) at extents i plan.pre.result_rect) plan.pre.checkouts.items
  pub requests : AreRequests at extents plan.pre.checkouts.items
  pub asked : plan.asks.items ≡ set.asks (use_of fx) at
  pub suffices : Suffices most drawing.sums_of (set.wants (use_of fx) at) (set.asks (use_of fx) at) extents (drawing.draws (use_of fx) at) (request_at plan.pre.checkouts.items) (part_of plan.pre)

-- the plane of the effect of a number of a layer
abbrev pub effect_plane : EffectSet → Drawing → SceneParts → Comp → Layer → ℕ → FxUse → ℤ → Plane
effect_plane set drawing parts comp layer number fx t =
    let sources : Sources = drawn_from (plain_scene parts set drawing) in
    fx_plane sources (plain_comp comp) (plane_behind sources (plain_comp comp) (plain_layer layer) (take number (plain_layer layer).effects)) (plain_fx fx) t

-- what was taken for it by a plan: pixels of what it wants, and the sums that it asks for
pub record IsTaken {most : ℕ} {K : Type 0} (set : EffectSet) (drawing : Drawing) (parts : SceneParts) (of : ℕ) (comp : Comp) (layer : Layer) (number : ℕ) (fx : FxUse) (tick : Tick) (at : Moment) (extents : List Rect) (request : Rect) (plan : DrawPlan)
    (pairs : List (ℕ × Pixels most K)) (receipts : List (ReceiptOf (Value most) K)) : Type 0 where
  pub depth : most ≡ most_of parts.project.depth
  pub uses : AreUses set.schemas parts.project
  pub inside : IsLayerIn parts.project of comp layer
  pub within : number < length layer.effects
  pub planned : IsPlanned most set drawing parts comp layer number fx tick.0 at extents request plan
  pub wanted : AreWanted (wanted_by (drawn_from (plain_scene parts set drawing)) (plain_comp comp) (plain_layer layer) number fx.layers) tick plan.pre.checkouts.items pairs
  pub asked : AllZip (IsAnswer drawing.sums_of (wanted_by (drawn_from (plain_scene parts set drawing)) (plain_comp comp) (plain_layer layer) number fx.layers)) plan.asks.items receipts
