use Rattle.std.proofs.Common.{refl, sym, subst}
use Rattle.cache_core.specs.History.{IsLegal}
use Rattle.turn_lock.proofs.Notes.{notes_legal, notes_append}
use Rattle.turn_lock.proofs.tests.Plain.note.Goals as goal

pub returns-in_err-push-clause-legal : goal.returns-in_err-push-clause-legal
returns-in_err-push-clause-legal c = subst (IsLegal 0) (sym c.in_err-push.ensures.items) (notes_legal c.self.inside.entries.items c.self.invariant.1)

pub returns-clause-legal : goal.returns-clause-legal
returns-clause-legal c =
    let old = c.self.inside.entries.items in
    subst (IsLegal 0) (sym c.in_ok-push.ensures.items) (notes_legal _ (notes_append old _ c.self.invariant.1 (refl, tt)))
