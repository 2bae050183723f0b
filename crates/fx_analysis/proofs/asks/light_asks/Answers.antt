use Rattle.std.proofs.Common.{ℕ, pos, ◌-ℤ◌, ◌∷◌, [], ◌++◌, ap, ap₂, sym, ◌∙◌, arith}
use Rattle.std.proofs.lemmas.List.FromFn.{map-range_with_len_more}
use Rattle.fx_analysis.specs.Analysis.{asked, tick_after}
use Rattle.fx_analysis.proofs.asks.light_asks.Goals as goal

pub loop-i-preserved : goal.loop-i-preserved
loop-i-preserved c =
    c.in_ok-push.ensures.items ∙ ap₂ (λ xs x. xs ++ x ∷ []) c.loop-i.invariant (c.asked.ensures ∙ ap (asked 2) c.tick_around.ensures)
    ∙ sym (map-range_with_len_more (λ (i : ℕ). asked 2 (tick_after c.args.at (pos i -ℤ pos c.args.radius))) 0 c.loop-i.i c.loop-i.i (omega arith))
