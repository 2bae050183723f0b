use Rattle.std.proofs.Common.{◌+◌, ◌*◌, length, subst, sym, arith}
use Rattle.std.specs.List.{All}
use Rattle.std.proofs.lemmas.List.Elements.{All-push}
use Rattle.project_model.specs.Plain.{plain_of}
use Rattle.effect_api.specs.declared.pre_render.Checkout.{Checkout}
use Rattle.effect_api.specs.Wants.{IsWant}
use Rattle.scene_meaning.specs.Shown.{base_in}
use Rattle.scene_meaning.proofs.Inside.{found_holds}
use Rattle.frame_draw.specs.Levels.{IsShareUnder, comp_level}
use Rattle.frame_draw.proofs.shares.add_planes.Goals as goal

pub share_of-share-requires-clause-want : goal.share_of-share-requires-clause-want
share_of-share-requires-clause-want g c =
    found_holds (λ (k : Checkout). IsWant (length c.args.fx.now.layers) (base_in (plain_of c.args.scene.now.project)) k.want) c.args.checkouts.now c.loop-place.place c.checkout_at-checkout.result c.requires.wants c.checkout_at-checkout.ensures

pub loop-place-preserved : goal.loop-place-preserved
loop-place-preserved g c =
    let share = c.share_of-share.result in
    let one : IsShareUnder (plain_of c.args.scene.now.project) (length g.E.Effect.class_names) (comp_level (plain_of c.args.scene.now.project) c.args.of (16 * c.args.number + 7)) share =
    record { is = c.share_of-share.ensures.share (length g.E.Effect.class_names) (omega (arith, c.share_of-share.ensures.class)); under = c.share_of-share.ensures.level } in
    subst (All (IsShareUnder (plain_of c.args.scene.now.project) (length g.E.Effect.class_names) (comp_level (plain_of c.args.scene.now.project) c.args.of (16 * c.args.number + 7)))) (sym c.in_ok-push.ensures.items) (All-push (IsShareUnder (plain_of c.args.scene.now.project) (length g.E.Effect.class_names) (comp_level (plain_of c.args.scene.now.project) c.args.of (16 * c.args.number + 7))) c.loop-place.shares.items share c.loop-place.invariant one)
