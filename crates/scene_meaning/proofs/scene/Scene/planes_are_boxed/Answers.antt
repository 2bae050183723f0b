use Rattle.std.proofs.Common.{subst}
use Rattle.effect_api.specs.Sets.{EffectSet, Drawing, IsLawfulDrawing}
use Rattle.scene_meaning.specs.Planes.{IsLawfulScene}
use Rattle.scene_meaning.specs.Scene.{SceneParts, IsScene}
use Rattle.scene_meaning.proofs.Planes.{planes_boxed}
use Rattle.scene_meaning.proofs.scene.Scene.planes_are_boxed.Goals as goal

pub returns : goal.returns
returns g c =
    let set : EffectSet = record {
      schemas = g.E.Effect.schemas;
      class_names = g.E.Effect.class_names;
      wants = g.E.Effect.wants;
      asks = g.E.Effect.asks;
      bounds = g.E.Effect.bounds;
      need = g.E.Effect.need;
    } in
    let drawing : Drawing = record { draws = g.E.Draw.draws; sums_of = g.E.Draw.sums_of } in
    let parts : SceneParts = c.args.self.now in
    let lawful : IsLawfulScene parts set drawing = record {
      scene = subst IsScene c.self.view_is c.self.invariant;
      uses = c.requires.uses;
      set_is = c.set_is_lawful.ensures;
      drawing_is = subst (λ most. IsLawfulDrawing most set drawing) c.requires.depth c.drawing_is_lawful.ensures;
    } in
    planes_boxed parts set drawing lawful
