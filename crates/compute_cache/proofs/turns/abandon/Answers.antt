use Rattle.std.proofs.Common.{◌∷◌, [], ◌∙◌, ap, subst, refl}
use Rattle.cache_core.specs.Rows.{is_running}
use Rattle.cache_core.specs.Core.{is_in}
use Rattle.cache_core.specs.declared.entry.Act.TheVariants.{Abandon}
use Rattle.cache_table.specs.Cache.{state_at}
use Rattle.compute_cache.specs.State.{entry_of, Goes}
use Rattle.compute_cache.proofs.Turning.{turned_from, owner_is}
use Rattle.compute_cache.proofs.turns.abandon.Goals as goal

pub abandon-requires-clause-running : goal.abandon-requires-clause-running
abandon-requires-clause-running g c κs within =
    let took = c.open-state.ensures in
    let state = c.open-state.result.0 in
    ap (λ n. is_in (is_running n) (state_at c.args.class c.args.key state.cache)) c.number-number.ensures.number
    ∙ owner_is c.args.lock.now.origin.cache.budget c.args.pass.now state c.args.class c.args.key took.budget took.mine took.sound ∙ c.requires.turn

pub returns : goal.returns
returns g c =
    let took = c.open-state.ensures in
    let state = c.open-state.result.0 in
    let entry = entry_of c.args.pass.now.number c.args.class c.args.key Abandon in
    record {
      turned = (
        state.cache.history,
        turned_from c.args.lock.now.origin.cache.budget c.args.pass.now c.open-state.new.pass c.put.new.pass state c.abandon.new.self (entry ∷ [])
            took.budget took.begins took.mine c.abandon.ensures.sound
            (subst (λ n. Goes state c.abandon.new.self (entry_of n c.args.class c.args.key Abandon ∷ [])) c.number-number.ensures.number c.abandon.ensures.goes) (refl, tt) took.pass c.put.ensures.pass,
      );
    }
