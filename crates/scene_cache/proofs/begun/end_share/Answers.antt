use Rattle.std.proofs.Common.{◌≡◌, length, ap, sym, subst, ◌∙◌}
use Rattle.std.specs.Prelude.{Some, IfOk}
use Rattle.project_model.specs.Plain.{plain_of}
use Rattle.project_model.specs.Sound.{IsSound}
use Rattle.effect_api.specs.Sets.{EffectSet, Drawing}
use Rattle.scene_meaning.specs.Right.{kept}
use Rattle.scene_meaning.specs.Scene.{SceneParts, plain_scene}
use Rattle.scene_meaning.specs.Shown.{PlainScene}
use Rattle.scene_cache.specs.Sharing.{value_of_share}
use Rattle.scene_cache.proofs.Asked.{counted, ended_as_before, ended_opens, kept_by}
use Rattle.scene_cache.proofs.begun.end_share.Goals as goal

pub finish-requires-clause-right : goal.finish-requires-clause-right
finish-requires-clause-right g c κs within =
    let set : EffectSet = record {
      schemas = g.E.Effect.schemas;
      class_names = g.E.Effect.class_names;
      wants = g.E.Effect.wants;
      asks = g.E.Effect.asks;
      bounds = g.E.Effect.bounds;
      need = g.E.Effect.need;
    } in
    let drawing : Drawing = record { draws = g.E.Draw.draws; sums_of = g.E.Draw.sums_of } in
    let scene : PlainScene = plain_scene c.args.scene.now set drawing in
    let right : value_of_share scene c.args.share.now ≡ Some c.in-Ok.value = subst (λ made. IfOk made (λ value. value_of_share scene c.args.share.now ≡ Some value)) c.in-Ok.is c.requires.right in
    let is_counted = counted c.args.scene.now.project (subst IsSound c.project-project.ensures.project c.project-project.ensures.sound) in
    subst (λ (parts : SceneParts). kept g.row.MAX (plain_scene parts set drawing) c.args.turn.class c.args.turn.key ≡ Some c.in-Ok.value) (sym c.requires.job)
    (kept_by scene (length g.E.Effect.class_names) c.args.share.now c.nodes_are_kept.ensures is_counted c.set_is_lawful.ensures.class_names_are.few c.requires.share
    c.args.turn.class c.args.turn.key c.in-Ok.value c.requires.mine.mine.class_is c.requires.mine.mine.key_is right)

pub returns-in-Ok-clause-ended : goal.returns-in-Ok-clause-ended
returns-in-Ok-clause-ended g c =
    let set : EffectSet = record {
      schemas = g.E.Effect.schemas;
      class_names = g.E.Effect.class_names;
      wants = g.E.Effect.wants;
      asks = g.E.Effect.asks;
      bounds = g.E.Effect.bounds;
      need = g.E.Effect.need;
    } in
    let drawing : Drawing = record { draws = g.E.Draw.draws; sums_of = g.E.Draw.sums_of } in
    let scene : PlainScene = plain_scene c.args.scene.now set drawing in
    let right : value_of_share scene c.args.share.now ≡ Some c.in-Ok.value = subst (λ made. IfOk made (λ value. value_of_share scene c.args.share.now ≡ Some value)) c.in-Ok.is c.requires.right in
    λ before mine. (
      ended_opens (plain_of c.args.scene.now.project) c.args.share.now c.args.cache.now before c.args.pass.now c.finish.new.pass c.args.turn mine c.finish.result
          c.finish.ensures.called.1.called.later c.finish.ensures.turns c.finish.ensures.receipts c.finish.ensures.receipt.0 c.finish.ensures.receipt.1,
      right ∙ ap (λ value. Some value) (sym c.finish.ensures.value),
    )

pub returns-in-Err-clause-ended : goal.returns-in-Err-clause-ended
returns-in-Err-clause-ended g c = λ before mine.
    ended_as_before (plain_of c.args.scene.now.project) c.args.share.now c.args.cache.now before c.args.pass.now c.abandon.new.pass c.args.turn mine
    c.abandon.ensures.called.1.later c.abandon.ensures.turns c.abandon.ensures.receipts
