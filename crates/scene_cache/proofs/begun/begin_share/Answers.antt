use Rattle.std.proofs.Common.{◌≡◌, ◌^◌, ◌<◌, ◌≤◌, false, length, ap, subst, sym, ◌∙◌, arith}
use Rattle.std.specs.Prelude.{Some}
use Rattle.project_model.specs.Plain.{plain_of}
use Rattle.project_model.specs.Sound.{IsSound}
use Rattle.project_model.specs.declared.plain.PlainProject.{PlainProject}
use Rattle.compute_cache.specs.Passes.{has_turn, turns}
use Rattle.effect_api.specs.Sets.{EffectSet, Drawing}
use Rattle.scene_meaning.specs.Right.{kept}
use Rattle.scene_meaning.specs.Scene.{SceneParts, plain_scene}
use Rattle.scene_cache.specs.Sharing.{IsMine, key_of_share, level_in}
use Rattle.scene_cache.proofs.Asked.{counted, lower_shares, shared_by}
use Rattle.scene_cache.proofs.begun.begin_share.Goals as goal

pub returns-in-Ok-Hit-clause-begun : goal.returns-in-Ok-Hit-clause-begun
returns-in-Ok-Hit-clause-begun g c =
    let set : EffectSet = record {
      schemas = g.E.Effect.schemas;
      class_names = g.E.Effect.class_names;
      wants = g.E.Effect.wants;
      asks = g.E.Effect.asks;
      bounds = g.E.Effect.bounds;
      need = g.E.Effect.need;
    } in
    let drawing : Drawing = record { draws = g.E.Draw.draws; sums_of = g.E.Draw.sums_of } in
    let receipt = c.in-Ok-Hit.receipt in
    let hit = rw c.in-Ok-Hit.field-0-is at c.in-Ok-Hit.ensures.begun in
    let right : kept g.row.MAX (plain_scene c.args.scene.now set drawing) receipt.class receipt.key ≡ Some receipt.value =
    subst (λ (parts : SceneParts). kept g.row.MAX (plain_scene parts set drawing) receipt.class receipt.key ≡ Some receipt.value)
    (ap (λ lock. lock.origin.job.scene.now) hit.lock ∙ c.requires.job) c.value-right.ensures.right in
    let is_counted = counted c.args.scene.now.project (subst IsSound c.project-project.ensures.project c.project-project.ensures.sound) in (
      record {
        later = hit.notes.called.later;
        lock = hit.lock;
        pass = hit.pass ∙ sym hit.notes.called.later.number;
        turns_are = hit.turns_are;
        receipts = hit.receipts;
      },
      shared_by (plain_scene c.args.scene.now set drawing) (length g.E.Effect.class_names) c.args.share.now c.nodes_are_kept.ensures is_counted c.requires.shared.few c.requires.share
          receipt.class receipt.key receipt.value hit.class_is (hit.key_is ∙ c.key.ensures) right,
    )

pub returns-in-Ok-Turn-clause-begun : goal.returns-in-Ok-Turn-clause-begun
returns-in-Ok-Turn-clause-begun g c =
    let project : PlainProject = plain_of c.args.scene.now.project in
    let share = c.args.share.now in
    let begun = rw c.in-Ok-Turn.field-0-is at c.in-Ok-Turn.ensures.begun in
    let is_counted = counted c.args.scene.now.project (subst IsSound c.project-project.ensures.project c.project-project.ensures.sound) in
    let is = c.requires.share in
    let low : share.class < 2 ^ 8 = omega (arith, c.requires.shared.few, is.class_is) in
    let free : has_turn share.class (key_of_share project share) (turns c.args.pass.now) ≡ false =
    c.requires.shared.free share.class share.ask share.node share.tick.0 low is.ask_is is.node is.of_layer is.held (let same : level_in project share.class share.node ≤ level_in project share.class share.node = omega arith in same) in
    let mine : IsMine project share c.args.cache.now c.args.pass.now c.begin.new.pass c.in-Ok-Turn.turn = record {
      later = begun.notes.called.later;
      lock = begun.lock;
      pass = begun.pass ∙ sym begun.notes.called.later.number;
      class_is = begun.class_is;
      key_is = begun.key_is ∙ c.key.ensures;
      turns_are = begun.turns_are;
      further = free;
      receipts = begun.receipts;
    } in (
      mine,
      λ lower below.
          lower_shares project (length g.E.Effect.class_names) lower share c.args.cache.now c.args.pass.now c.begin.new.pass c.in-Ok-Turn.turn
          c.keys_differ.ensures c.node_numbers_differ.ensures is_counted is c.requires.shared mine below,
    )
