use Rattle.std.proofs.Common.{◌≡◌, sym, ap, ◌∙◌, subst, ◌+◌}
use Rattle.std.specs.Prelude.{is_some}
use mathlib.Core.Option.{some-injective}
use Rattle.turn_lock.specs.Entries.{IsClear, entries_of}
use Rattle.cache_core.specs.History.{IsLegal}
use Rattle.turn_lock.specs.Lock.{Lock, Pass}
use Rattle.turn_lock.proofs.Passes.{free_hand}
use Rattle.turn_lock.proofs.Turning.{some_is}
use Rattle.turn_lock.proofs.Closing.{closes}
use Rattle.turn_lock.proofs.lock.TurnLock.close.Goals as goal

pub unwrap-state-requires : goal.unwrap-state-requires
unwrap-state-requires g c =
    let h = g.S.History in
    let p = c.pass.inside in
    let me = p.seat.me in
    let shared = c.self.inside.table.shared in
    let hand = free_hand me.0.stage me.0.number me.0.seen me.0.mine me.1 (ap (λ (x : Pass _). x.taken) c.pass.view_is ∙ c.requires.free) c.pass.invariant.hand in
    let closed = closes h.budget h.log h.name shared.key.value p.seat.id me.0 _ _ hand.0 (ap (λ (x : Pass _). x.number) c.pass.view_is ∙ c.requires.opening)
    (subst (λ (x : Pass _). x.made ≡ x.joined + 1) (sym c.pass.view_is) c.requires.last) (subst (λ (x : Pass _). IsClear x.mine) (sym c.pass.view_is) c.requires.clear) c.close_with-closed.ensures.values.2 in
    ap is_some (some-injective _ _ (sym c.take.ensures.value ∙ closed.at))

pub returns : goal.returns
returns g c =
    let h = g.S.History in
    let p = c.pass.inside in
    let me = p.seat.me in
    let shared = c.self.inside.table.shared in
    let hand = free_hand me.0.stage me.0.number me.0.seen me.0.mine me.1 (ap (λ (x : Pass _). x.taken) c.pass.view_is ∙ c.requires.free) c.pass.invariant.hand in
    let closed = closes h.budget h.log h.name shared.key.value p.seat.id me.0 _ _ hand.0 (ap (λ (x : Pass _). x.number) c.pass.view_is ∙ c.requires.opening)
    (subst (λ (x : Pass _). x.made ≡ x.joined + 1) (sym c.pass.view_is) c.requires.last) (subst (λ (x : Pass _). IsClear x.mine) (sym c.pass.view_is) c.requires.clear) c.close_with-closed.ensures.values.2 in
    let state : closed.state ≡ c.unwrap-state.result = some_is closed.state c.unwrap-state.result (sym (some-injective _ _ (sym c.take.ensures.value ∙ closed.at)) ∙ c.unwrap-state.ensures) in
    let origin = ap (λ (l : Lock _). l.origin) c.self.view_is in
    let seen = ap (λ (x : Pass _). x.seen) c.pass.view_is in
    let log : h.log c.unwrap-state.result ≡ me.0.seen = sym (ap h.log state) ∙ closed.is.same_log in
    record {
      budget = sym (ap h.budget state) ∙ closed.is.same_budget ∙ ap h.budget origin;
      name = sym (ap h.name state) ∙ closed.is.same_name ∙ ap h.name origin;
      history = log ∙ seen;
      legal = subst (λ o. IsLegal (h.budget o) (h.log c.unwrap-state.result)) origin (subst (IsLegal (h.budget shared.key.value)) (sym log) closed.legal);
      clear = λ number. subst (λ l. IsClear (entries_of number l)) (sym log) (closed.clear number);
    }
