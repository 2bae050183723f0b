use Rattle.project_model.specs.Plain.{plain_comp, plain_layer}
use Rattle.effect_api.specs.Sets.{EffectSet}
use Rattle.scene_meaning.proofs.KnownExtents.{none_known}
use Rattle.scene_meaning.proofs.extent.wanted_extents.Goals as goal

pub extents_of_wants-requires-clause-known : goal.extents_of_wants-requires-clause-known
extents_of_wants-requires-clause-known g c =
    let set : EffectSet = record {
      schemas = g.E.Effect.schemas;
      class_names = g.E.Effect.class_names;
      wants = g.E.Effect.wants;
      asks = g.E.Effect.asks;
      bounds = g.E.Effect.bounds;
      need = g.E.Effect.need;
    } in
    none_known set c.args.scene.now (plain_comp c.args.comp.now) (plain_layer c.args.layer.now) c.new-known.result c.new-known.ensures.empty
