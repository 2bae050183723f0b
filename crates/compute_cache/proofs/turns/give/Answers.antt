use Rattle.std.proofs.Common.{◌∷◌, ◌∙◌, ap, subst, refl, sym}
use Rattle.cache_core.specs.Rows.{is_held_by}
use Rattle.cache_core.specs.Core.{is_in}
use Rattle.cache_core.specs.declared.entry.Act.TheVariants.{Give}
use Rattle.cache_table.specs.Cache.{state_at}
use Rattle.turn_lock.specs.Lock.{Pass}
use Rattle.turn_lock.specs.Entries.{AreOf}
use Rattle.compute_cache.specs.State.{entry_of, GoesAndEvicts}
use Rattle.compute_cache.proofs.Turning.{turned_from, holds_is, evicts_own}
use Rattle.compute_cache.proofs.turns.give.Goals as goal

pub give-requires-clause-held : goal.give-requires-clause-held
give-requires-clause-held g c κs within =
    let took = c.open-state.ensures in
    let state = c.open-state.result.0 in
    ap (λ n. is_in (is_held_by n) (state_at c.args.class c.args.key state.cache)) c.number-number.ensures.number
    ∙ (holds_is c.args.lock.now.origin.cache.budget c.args.pass.now state c.args.class c.args.key c.args.serial took.budget took.mine took.sound c.requires.held).held

pub put-requires-clause-taken : goal.put-requires-clause-taken
put-requires-clause-taken g c =
    let serial = c.give.ensures.goes.0 in
    let went = c.give.ensures.goes.2 in
    let number = c.number-number.result in
    let entry = entry_of number c.args.class c.args.key (Give serial) in (
      c.open-state.result.0.cache.history,
      entry ∷ went.evicts,
      ap (λ (p : Pass _). p.taken) c.open-state.ensures.pass,
      went.goes.history,
      subst (λ n. AreOf n (entry ∷ went.evicts)) (c.number-number.ensures.number ∙ sym (ap (λ (p : Pass _). p.number) c.open-state.ensures.pass)) (refl, evicts_own number went.evicts went.each),
    )

pub returns : goal.returns
returns g c =
    let took = c.open-state.ensures in
    let state = c.open-state.result.0 in
    let number = c.args.pass.now.number in
    let class = c.args.class in
    let key = c.args.key in
    let held = holds_is c.args.lock.now.origin.cache.budget c.args.pass.now state class key c.args.serial took.budget took.mine took.sound c.requires.held in
    let gave = c.give.ensures.goes in
    let serial_is = held.only gave.0 gave.1 in
    let entry = entry_of number class key (Give c.args.serial) in
    let went = subst (λ s. GoesAndEvicts state c.give.new.self (entry_of number class key (Give s))) serial_is
    (subst (λ n. GoesAndEvicts state c.give.new.self (entry_of n class key (Give gave.0))) c.number-number.ensures.number gave.2) in
    record {
      turned = (
        state.cache.history,
        record {
          evicts = went.evicts;
          each = went.each;
          turned =
              turned_from c.args.lock.now.origin.cache.budget c.args.pass.now c.open-state.new.pass c.put.new.pass state c.give.new.self (entry ∷ went.evicts)
              took.budget took.begins took.mine c.give.ensures.sound went.goes (refl, evicts_own number went.evicts went.each) took.pass c.put.ensures.pass;
        },
      );
    }
