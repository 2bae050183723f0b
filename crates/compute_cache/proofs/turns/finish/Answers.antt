use Rattle.std.proofs.Common.{◌∷◌, ◌∙◌, ap, subst, refl, sym}
use Rattle.cache_core.specs.Rows.{is_running}
use Rattle.cache_core.specs.Core.{is_in}
use Rattle.cache_core.specs.declared.entry.Act.TheVariants.{Finish}
use Rattle.cache_table.specs.Cache.{state_at}
use Rattle.turn_lock.specs.Lock.{Pass}
use Rattle.turn_lock.specs.Entries.{AreOf}
use Rattle.compute_cache.specs.State.{entry_of, GoesAndEvicts}
use Rattle.compute_cache.proofs.Turning.{turned_from, owner_is, evicts_own}
use Rattle.compute_cache.proofs.turns.finish.Goals as goal

pub finish-serial-requires-clause-running : goal.finish-serial-requires-clause-running
finish-serial-requires-clause-running g c κs within =
    let took = c.open-state.ensures in
    let state = c.open-state.result.0 in
    ap (λ n. is_in (is_running n) (state_at c.args.class c.args.key state.cache)) c.number-number.ensures.number
    ∙ owner_is c.args.lock.now.origin.cache.budget c.args.pass.now state c.args.class c.args.key took.budget took.mine took.sound ∙ c.requires.turn

pub put-requires-clause-taken : goal.put-requires-clause-taken
put-requires-clause-taken g c =
    let went = c.finish-serial.ensures.goes in
    let number = c.number-number.result in
    let entry = entry_of number c.args.class c.args.key (Finish c.finish-serial.result c.args.size) in (
      c.open-state.result.0.cache.history,
      entry ∷ went.evicts,
      ap (λ (p : Pass _). p.taken) c.open-state.ensures.pass,
      went.goes.history,
      subst (λ n. AreOf n (entry ∷ went.evicts)) (c.number-number.ensures.number ∙ sym (ap (λ (p : Pass _). p.number) c.open-state.ensures.pass)) (refl, evicts_own number went.evicts went.each),
    )

pub returns : goal.returns
returns g c =
    let took = c.open-state.ensures in
    let state = c.open-state.result.0 in
    let number = c.args.pass.now.number in
    let entry = entry_of number c.args.class c.args.key (Finish c.finish-serial.result c.args.size) in
    let went = subst (λ n. GoesAndEvicts state c.finish-serial.new.self (entry_of n c.args.class c.args.key (Finish c.finish-serial.result c.args.size))) c.number-number.ensures.number c.finish-serial.ensures.goes in
    record {
      turned = (
        state.cache.history,
        record {
          evicts = went.evicts;
          each = went.each;
          turned =
              turned_from c.args.lock.now.origin.cache.budget c.args.pass.now c.open-state.new.pass c.put.new.pass state c.finish-serial.new.self (entry ∷ went.evicts)
              took.budget took.begins took.mine c.finish-serial.ensures.sound went.goes (refl, evicts_own number went.evicts went.each) took.pass c.put.ensures.pass;
        },
        c.finish-serial.ensures.serial,
      );
    }
