use Rattle.std.proofs.Common.{◌≤◌, length}
use Rattle.effect_api.specs.Sets.{EffectSet, Drawing}
use Rattle.frame_draw.proofs.Behind.{behind_near}
use Rattle.frame_draw.proofs.shares.node_is_boxed.Goals as goal

pub returns : goal.returns
returns g c =
    let set : EffectSet = record {
      schemas = g.E.Effect.schemas;
      class_names = g.E.Effect.class_names;
      wants = g.E.Effect.wants;
      asks = g.E.Effect.asks;
      bounds = g.E.Effect.bounds;
      need = g.E.Effect.need;
    } in
    let drawing : Drawing = record { draws = g.E.Draw.draws; sums_of = g.E.Draw.sums_of } in
    let comp = c.comp_at-comp.result.now in
    let layer = c.layer_at-layer.result.now in
    let there = c.layer_at-layer.ensures.here comp c.comp_at-comp.ensures.here in
    let few : c.place_of-place.result.count ≤ length layer.effects = c.place_of-place.ensures.effects comp layer c.comp_at-comp.ensures.here there in
    behind_near g.row.MAX c.args.scene.now set drawing c.place_of-place.result.comp c.place_of-place.result.layer c.place_of-place.result.count comp layer c.args.node c.args.tick.0 c.requires.depth c.planes_are_boxed.ensures c.place_of-place.ensures.node
    c.comp_at-comp.ensures.here there few c.requires.held
