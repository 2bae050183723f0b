use Rattle.std.proofs.Common.{◌≡◌, sym, ap, ◌∙◌, subst, [], ◌∷◌, ◌++◌}
use Rattle.std.specs.Prelude.{Some}
use Rattle.atomic_table.specs.Table.{opening}
use Rattle.turn_lock.specs.Rule.{first_view}
use Rattle.turn_lock.proofs.Turning.{Rule}
use Rattle.turn_lock.proofs.Closing.{opens}
use Rattle.turn_lock.proofs.lock.TurnLock.new.Goals as goal

pub new-requires : goal.new-requires
new-requires g c =
    let h = g.S.History in
    let origin = c.of-origin.result.value in
    let slots : c.push_reserved.new.self.items ≡ Some origin ∷ [] =
    c.push_reserved.ensures.items ∙ ap (λ l. l ++ Some c.args.state ∷ []) c.in_ok-slots.ensures.items ∙ ap (λ x. Some x ∷ []) (sym c.of-origin.ensures) in
    subst (λ l. Rule h.budget h.log h.name origin (opening (0 ∷ []) l (first_view origin))) (sym slots)
    (opens h.budget h.log h.name origin (ap h.log c.of-origin.ensures ∙ c.requires))
