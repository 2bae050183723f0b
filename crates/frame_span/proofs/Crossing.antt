-- The maker of frames may be shared by threads, where the effects may.
use denote.RattleType.{RattleType}
use denote.Param.{value_of}
use denote.Ref.{NamedLft}
use denote.Struct.Declared.{shape}
use denote.Param.Send.{IsSync, sendable, recorded_sync, struct_sync}
use Rattle.compute_cache.proofs.Crossing.{cache_sync}
use Rattle.effect_api.specs.declared.draw.Draw as draw
use Rattle.effect_api.specs.declared.effect.Effect as effect
use Rattle.effect_api.proofs.checkouts.Value.TheSendSync as value
use Rattle.project_model.proofs.comp.Comp.TheSendSync as comp
use Rattle.scene_meaning.proofs.scene.Scene.TheSendSync as scene
use Rattle.frame_span.specs.contracts.maker.SpanMaker.{the_row, the_type, the_field}

module _ (k l : NamedLft) (E MAX : RattleType) (d : draw.Ghosts E.Denot (value_of MAX)) (e : effect.Ghosts E.Denot) (sync : IsSync E) where
  pub maker_sync : IsSync (the_row k l E MAX d e)
  maker_sync =
      recorded_sync (the_field k l E MAX d e).row _ _ (the_type k l E MAX d e).to_one
      (struct_sync (shape (the_type k l E MAX d e)) (search (sendable) depth 20, (search (sendable, scene.the_sync) depth 20, (search (sendable, sync) depth 20, (search (sendable, comp.the_sync) depth 20, (search (sendable, cache_sync, value.the_send, value.the_sync) depth 20, (search (sendable) depth 20, tt)))))))
