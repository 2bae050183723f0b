use Rattle.std.proofs.Common.{◌<◌, length}
use Rattle.project_model.specs.Plain.{plain_comp, plain_layer}
use Rattle.effect_api.specs.Sets.{EffectSet}
use Rattle.scene_meaning.proofs.Extents.{fx_is, fx_within}
use Rattle.scene_meaning.proofs.KnownExtents.{none_known}
use Rattle.scene_meaning.proofs.extent.behind_effect.Goals as goal

pub returns : goal.returns
returns g c =
    let set : EffectSet = record {
      schemas = g.E.Effect.schemas;
      class_names = g.E.Effect.class_names;
      wants = g.E.Effect.wants;
      asks = g.E.Effect.asks;
      bounds = g.E.Effect.bounds;
      need = g.E.Effect.need;
    } in
    let comp = c.comp_at-comp.result.now in
    let layer = c.layer_at-layer.result.now in
    let there = c.layer_at-layer.ensures.here comp c.comp_at-comp.ensures.here in
    let within : c.args.number < length layer.effects = fx_within c.args.scene.now.project c.args.of c.args.index c.args.number comp layer c.comp_at-comp.ensures.here there c.requires.node in
    fx_is set c.args.scene.now c.args.of c.args.index c.args.number comp layer c.args.tick.0 c.layer_extent.result c.comp_at-comp.ensures.here there within c.layer_extent.ensures.extent

pub layer_extent-requires-clause-known : goal.layer_extent-requires-clause-known
layer_extent-requires-clause-known g c =
    let set : EffectSet = record {
      schemas = g.E.Effect.schemas;
      class_names = g.E.Effect.class_names;
      wants = g.E.Effect.wants;
      asks = g.E.Effect.asks;
      bounds = g.E.Effect.bounds;
      need = g.E.Effect.need;
    } in
    none_known set c.args.scene.now (plain_comp c.comp_at-comp.result.now) (plain_layer c.layer_at-layer.result.now) c.new-known.result c.new-known.ensures.empty
