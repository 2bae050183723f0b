use Rattle.std.proofs.Common.{◌∙◌, ap, sym, subst, [], append-nil}
use Rattle.cache_core.specs.Rows.{is_running}
use Rattle.cache_core.specs.Core.{is_in}
use Rattle.cache_table.specs.Cache.{state_at}
use Rattle.turn_lock.specs.Lock.{Pass}
use Rattle.turn_lock.specs.Entries.{AreOf}
use Rattle.compute_cache.specs.Acts.{act_of}
use Rattle.compute_cache.proofs.Turning.{asked_log, turned_none, turned_from, owner_is, asked_from}
use Rattle.compute_cache.proofs.turns.try_ask.Goals as goal

pub returns-then-keeps_waiting-clause-waits : goal.returns-then-keeps_waiting-clause-waits
returns-then-keeps_waiting-clause-waits g c =
    let took = c.open-state.ensures in
    let state = c.open-state.result.0 in (
      state.cache.history,
      turned_none c.args.lock.now.origin.cache.budget c.args.pass.now c.open-state.new.pass c.put.new.pass state
          took.budget took.begins took.mine took.sound took.pass c.put.ensures.pass,
    )

pub ask-found-requires-clause-other : goal.ask-found-requires-clause-other
ask-found-requires-clause-other g c κs within =
    let took = c.open-state.ensures in
    let state = c.open-state.result.0 in
    ap (λ n. is_in (is_running n) (state_at c.args.class c.args.key state.cache)) c.number-number.ensures.number
    ∙ owner_is c.args.lock.now.origin.cache.budget c.args.pass.now state c.args.class c.args.key took.budget took.mine took.sound ∙ c.requires.other

pub returns-in-Ok-clause-asked : goal.returns-in-Ok-clause-asked
returns-in-Ok-clause-asked g c =
    let took = c.open-state.ensures in
    let found = c.in-Ok.ensures in
    asked_from c.args.lock.now.origin.job g.K.Keeps.meaning c.args.lock.now.origin.cache.budget c.args.call c.args.wait c.args.class c.args.key
    c.open-state.result.1 c.number-number.result c.in-Ok.found c.args.pass.now c.open-state.new.pass c.put-2.new.pass c.open-state.result.0 c.ask-found.new.self
    took.budget took.job took.begins took.mine took.sound took.pass c.put-2.ensures.pass took.place c.number-number.ensures.number
    (sym c.keeps_waiting.ensures ∙ c.if-keeps_waiting.false) found.goes found.act found.meant c.ask-found.ensures.sound

pub returns-in-Err-clause-asked : goal.returns-in-Err-clause-asked
returns-in-Err-clause-asked g c =
    let took = c.open-state.ensures in
    let state = c.open-state.result.0 in (
      state.cache.history,
      turned_from c.args.lock.now.origin.cache.budget c.args.pass.now c.open-state.new.pass c.put-2.new.pass state c.ask-found.new.self []
          took.budget took.begins took.mine c.ask-found.ensures.sound c.in-Err.ensures.err tt took.pass c.put-2.ensures.pass,
    )

-- nothing is added to the history that was taken
pub put-requires-clause-taken : goal.put-requires-clause-taken
put-requires-clause-taken g c =
    let history = c.open-state.result.0.cache.history in
    (history, [], ap (λ (p : Pass _). p.taken) c.open-state.ensures.pass, sym (append-nil history), tt)

-- one entry of the pass is added, or none
pub put-requires-2-clause-taken : goal.put-requires-2-clause-taken
put-requires-2-clause-taken g c =
    let asked = asked_log c.ask-found.result act_of c.open-state.result.0 c.ask-found.new.self c.number-number.result c.args.class c.args.key c.ask-found.ensures.goes c.ask-found.ensures.err in (
      c.open-state.result.0.cache.history,
      asked.0,
      ap (λ (p : Pass _). p.taken) c.open-state.ensures.pass,
      asked.1,
      subst (λ n. AreOf n asked.0) (c.number-number.ensures.number ∙ sym (ap (λ (p : Pass _). p.number) c.open-state.ensures.pass)) asked.2,
    )
