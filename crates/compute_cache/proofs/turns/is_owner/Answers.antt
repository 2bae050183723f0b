use Rattle.std.proofs.Common.{◌∙◌, ap, sym, [], append-nil}
use Rattle.cache_core.specs.Rows.{is_running}
use Rattle.cache_core.specs.Core.{is_in}
use Rattle.cache_table.specs.Cache.{state_at}
use Rattle.turn_lock.specs.Lock.{Pass}
use Rattle.compute_cache.proofs.Turning.{turned_none, owner_is}
use Rattle.compute_cache.proofs.turns.is_owner.Goals as goal

pub returns-clause-turned : goal.returns-clause-turned
returns-clause-turned g c =
    let took = c.open-state.ensures in
    let state = c.open-state.result.0 in (
      state.cache.history,
      turned_none c.args.lock.now.origin.cache.budget c.args.pass.now c.open-state.new.pass c.put.new.pass state
          took.budget took.begins took.mine took.sound took.pass c.put.ensures.pass,
    )

pub returns-clause-owner : goal.returns-clause-owner
returns-clause-owner g c =
    let took = c.open-state.ensures in
    let state = c.open-state.result.0 in
    c.is_owner-owner.ensures
    ∙ ap (λ n. is_in (is_running n) (state_at c.args.class c.args.key state.cache)) c.number-number.ensures.number
    ∙ owner_is c.args.lock.now.origin.cache.budget c.args.pass.now state c.args.class c.args.key took.budget took.mine took.sound

-- nothing is added to the history that was taken
pub put-requires-clause-taken : goal.put-requires-clause-taken
put-requires-clause-taken g c =
    let history = c.open-state.result.0.cache.history in
    (history, [], ap (λ (p : Pass _). p.taken) c.open-state.ensures.pass, sym (append-nil history), tt)
