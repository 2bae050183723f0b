use Rattle.std.proofs.Common.{◌≡◌, subst₂, sym, false}
use Rattle.std.specs.Prelude.{Ok}
use Rattle.compute_cache.specs.declared.classes.ClassId.{ClassId}
use Rattle.compute_cache.specs.Passes.{has_turn, turns}
use Rattle.compute_cache.specs.Suite.{LeavesReceipt}
use Rattle.compute_cache.specs.Answers.{IsGivenTurn}
use Rattle.compute_cache.proofs.Callers.{given_turn, computed_leaves}
use Rattle.compute_cache.proofs.cache.Cache.compute_if_needed_and_checkout.Goals as goal

pub compute_begun-requires-clause-turn : goal.compute_begun-requires-clause-turn
compute_begun-requires-clause-turn g c κs within =
    subst₂ (λ class key. IsGivenTurn c.args.self.now c.begin.new.pass class key c.in-Ok.begun) c.class-id.ensures c.generate_key-key.ensures
    (given_turn c.args.self.now c.args.wait c.class-id.result c.generate_key-key.result c.args.pass.now c.begin.new.pass c.in-Ok.begun c.in-Ok.ensures.begun)

pub returns-in-Ok-clause-leaves : goal.returns-in-Ok-clause-leaves
returns-in-Ok-clause-leaves g c =
    let cache = c.args.self.now in
    let old = c.args.pass.now in
    let new = c.compute_begun.new.pass in
    let free = subst₂ (λ (class : ClassId) key. has_turn class.0 key (turns old) ≡ false) (sym c.class-id.ensures) (sym c.generate_key-key.ensures) c.requires.other in
    subst₂ (λ (class : ClassId) key. LeavesReceipt cache class.0 key old new c.compute_begun.result) c.class-id.ensures c.generate_key-key.ensures
    (computed_leaves cache g.K.Keeps.size_of c.args.wait c.class-id.result c.generate_key-key.result old free new c.compute_begun.result
    (record { begun = Ok c.in-Ok.begun; middle = c.begin.new.pass; begins = c.in-Ok.ensures.begun; ends = c.compute_begun.ensures.ended }))
