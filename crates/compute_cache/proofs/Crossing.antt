-- A cache may be shared by threads, and a pass, a receipt or a turn may go to one, where a value may. Where threads are
-- joined, `search (sendable, shared)` shows it of what their closures take.
use denote.RattleType.{RattleType}
use denote.Struct.Declared.{shape}
use denote.Param.Send.{IsSend, IsSync, sendable, view_send, view_sync, recorded_send, recorded_sync, struct_send, struct_sync}
use Rattle.std.proofs.Crossing.{crosses}
use Rattle.cache_table.proofs.table.Table.TheSendSync as table
use Rattle.turn_lock.proofs.lock.TurnLock.TheSendSync as lock
use Rattle.turn_lock.proofs.pass.Pass.TheSendSync as base
use Rattle.compute_cache.specs.declared.keeps.Keeps.{Ghosts}
use Rattle.compute_cache.specs.contracts.state.State as State
use Rattle.compute_cache.specs.contracts.state.StateHistory.TheImpl.{ghosts, no_dict}
use Rattle.compute_cache.specs.contracts.cache.Cache as Cache
use Rattle.compute_cache.specs.contracts.cache.Cache.TheInside as CacheInside
use Rattle.compute_cache.specs.contracts.pass.Pass as Pass
use Rattle.compute_cache.specs.contracts.pass.Pass.TheInside as PassInside
use Rattle.compute_cache.specs.contracts.receipt.Receipt as Receipt
use Rattle.compute_cache.specs.contracts.receipt.Turn as Turn
use Rattle.compute_cache.proofs.classes.Classes.TheSendSync as classes
use Rattle.compute_cache.proofs.room.Receipts.TheSendSync as receipts

module _ (K V : RattleType) (g : Ghosts K.Denot V.Denot) (s : IsSend V) (y : IsSync V) where
  pub state_send : IsSend (State.the_row K V g)
  state_send = let t = table.the_send V s y in search (sendable, crosses) depth 20

  pub cache_sync : IsSync (Cache.the_row K V g)
  cache_sync =
      let state = state_send in
      view_sync (CacheInside.the_row K V g) _ _ _ _
      (recorded_sync (CacheInside.the_field K V g).row _ _ (CacheInside.the_type K V g).to_one
      (struct_sync (shape (CacheInside.the_type K V g)) (lock.the_sync (State.the_row K V g) K (ghosts K V g no_dict no_dict) state, (classes.the_sync, tt))))

  pub pass_send : IsSend (Pass.the_row K V g)
  pass_send =
      let state = state_send in
      view_send (PassInside.the_row K V g) _ _ _ _
      (recorded_send (PassInside.the_field K V g).row _ _ (PassInside.the_type K V g).to_one
      (struct_send (shape (PassInside.the_type K V g)) (base.the_send (State.the_row K V g) K (ghosts K V g no_dict no_dict) state, (receipts.the_send, tt))))

  pub receipt_send : IsSend (Receipt.the_row K V g)
  receipt_send = search (sendable, crosses) depth 20

  pub turn_send : IsSend (Turn.the_row K V g)
  turn_send = search (sendable, crosses) depth 20

pub ruleset shared = (crosses, cache_sync, pass_send, receipt_send, turn_send)
