use denote.Exit.{no}
use denote.Param.{number, param}
use denote.Param.Send.{sendable, arg_sync, param_sync}
use denote.Signature.{named_lft}
use Rattle.project_model.specs.Plain.{plain_comp}
use Rattle.scene_meaning.specs.Scene.{plain_scene}
use Rattle.frame_span.specs.Forms.{frame_text}
use Rattle.effect_api.specs.Sets.{EffectSet, Drawing}
use Rattle.effect_api.proofs.checkouts.Value.TheSendSync as value
use Rattle.compute_cache.proofs.Crossing.{pass_send}
use Rattle.frame_span.proofs.Crossing.{maker_sync}
use Rattle.frame_span.proofs.Frames.{made_frames}
use Rattle.frame_span.proofs.Known.{if_ok_map}
use Rattle.frame_span.proofs.span.draw_beside.Goals as goal

pub write_beside-requires-send-F-Seat : goal.write_beside-requires-send-F-Seat
write_beside-requires-send-F-Seat g c κs within = search (sendable, pass_send, value.the_send, value.the_sync) depth 20

pub write_beside-requires-sync-F : goal.write_beside-requires-sync-F
write_beside-requires-sync-F g c κs within =
    param_sync 1 _ (arg_sync _ no _ (maker_sync (named_lft 12 11 tt κs) (named_lft 12 10 tt κs) _ (param 2 (number g.row.MAX)) g.E.Draw g.E.Effect c.type_bounds.sync-E))

pub returns-clause-next : goal.returns-clause-next
returns-clause-next g c =
    let set : EffectSet = record {
      schemas = g.E.Effect.schemas;
      class_names = g.E.Effect.class_names;
      wants = g.E.Effect.wants;
      asks = g.E.Effect.asks;
      bounds = g.E.Effect.bounds;
      need = g.E.Effect.need;
    } in
    let drawing : Drawing = record { draws = g.E.Draw.draws; sums_of = g.E.Draw.sums_of } in
    let frame = frame_text c.args.maker.now.form (plain_scene c.args.maker.now.scene.now set drawing) (plain_comp c.args.maker.now.comp.now) in
    if_ok_map c.write_beside.result (λ pieces made. made_frames (λ piece. piece.made.items) frame _ (λ n piece is. is.1) c.args.first c.args.count pieces.items made) c.write_beside.ensures.next
