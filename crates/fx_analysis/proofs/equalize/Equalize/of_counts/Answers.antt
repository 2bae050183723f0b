use Rattle.std.proofs.Common.{◌≤◌, ℕ, map, ap, sym, subst, ◌∙◌}
use Rattle.std.specs.List.{All}
use Rattle.fx_analysis.specs.Counts.{AreUpTo, share_of}
use Rattle.fx_analysis.proofs.Tables.{up_to_are}
use Rattle.fx_analysis.proofs.equalize.Equalize.of_counts.Goals as goal

pub full_shares-requires-clause-within : goal.full_shares-requires-clause-within
full_shares-requires-clause-within g c =
    let are = subst (λ (n : ℕ). AreUpTo n c.in_ok-up_to.up_to.items) (sym c.total-total.ensures.value)
    (subst (AreUpTo _) (sym c.in_ok-up_to.ensures) (up_to_are c.args.counts.now)) in
    subst (All (λ (n : ℕ). n ≤ c.total-total.result)) (sym c.deref.ensures.value) are.within

pub invariant_of-result-clause-up_to_within : goal.invariant_of-result-clause-up_to_within
invariant_of-result-clause-up_to_within g c =
    subst (λ (n : ℕ). AreUpTo n c.in_ok-up_to.up_to.items) (sym c.total-total.ensures.value)
    (subst (AreUpTo _) (sym c.in_ok-up_to.ensures) (up_to_are c.args.counts.now))

pub invariant_of-result-clause-full_is : goal.invariant_of-result-clause-full_is
invariant_of-result-clause-full_is g c = c.in_ok-full.ensures ∙ ap (map (share_of c.total-total.result g.row.MAX)) c.deref.ensures.value
