use Rattle.std.proofs.Common.{sym, subst, true}
use Rattle.std.specs.Prelude.{◌≡◌}
use Rattle.compute_cache.specs.Passes.{has_turn, turns}
use Rattle.compute_cache.specs.Suite.{TurnOf}
use Rattle.compute_cache.proofs.Callers.{turn_has}
use Rattle.compute_cache.proofs.cache.Cache.finish.Goals as goal

pub finish-serial-requires-clause-turn : goal.finish-serial-requires-clause-turn
finish-serial-requires-clause-turn g c κs within =
    subst (λ (t : TurnOf _ _). has_turn t.class t.key (turns c.args.pass.now) ≡ true) (sym c.turn.view_is) (turn_has c.args.self.now c.args.pass.now c.args.turn c.requires.turn)
