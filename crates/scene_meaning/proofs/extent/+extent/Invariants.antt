use Rattle.std.proofs.Common.{◌*◌, ◌+◌}
use Rattle.std.specs.Prelude.{take}
use Rattle.std.specs.List.{AllZip}
use Rattle.project_model.specs.Plain.{plain_comp, plain_layer}
use Rattle.effect_api.specs.Sets.{EffectSet}
use Rattle.scene_meaning.specs.Extents.{IsWantedExtent}
use Rattle.scene_meaning.specs.Known.{AreKnown}
use Rattle.scene_meaning.proofs.extent.+extent.Given as goal

-- what an effect wants has fewer effects before it
abbrev pub decreases-layer_extent : goal.decreases-layer_extent
decreases-layer_extent g l = 4 * l.count

abbrev pub decreases-effect_extent : goal.decreases-effect_extent
decreases-effect_extent g l = 4 * l.number + 3

abbrev pub decreases-extents_of_wants : goal.decreases-extents_of_wants
decreases-extents_of_wants g l = 4 * l.number + 2

abbrev pub decreases-wanted_extent : goal.decreases-wanted_extent
decreases-wanted_extent g l = 4 * l.number + 1

-- the extents so far
abbrev pub invariant-extents_of_wants-loop-place : goal.invariant-extents_of_wants-loop-place
invariant-extents_of_wants-loop-place g l =
    let set : EffectSet = record {
      schemas = g.E.Effect.schemas;
      class_names = g.E.Effect.class_names;
      wants = g.E.Effect.wants;
      asks = g.E.Effect.asks;
      bounds = g.E.Effect.bounds;
      need = g.E.Effect.need;
    } in
    record {
      extents : AllZip (IsWantedExtent set l.scene (plain_comp l.comp) (plain_layer l.layer) l.number l.fx.layers) (take l.place l.wants) l.extents.items;
      known : AreKnown set l.scene (plain_comp l.comp) (plain_layer l.layer) l.known;
    }
