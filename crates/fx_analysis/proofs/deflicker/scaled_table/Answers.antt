use Rattle.std.proofs.Common.{ℕ, ◌+◌, ◌*◌, ◌∷◌, [], ◌++◌, ap, ap₂, sym, ◌∙◌, arith, min}
use Rattle.std.proofs.lemmas.List.FromFn.{map-range_with_len_more}
use Rattle.fx_analysis.specs.Counts.{scaled_to}
use Rattle.fx_analysis.proofs.Tables.{divided, next_multiple}
use Rattle.fx_analysis.proofs.deflicker.scaled_table.Goals as goal

pub loop-c-preserved : goal.loop-c-preserved
loop-c-preserved g c =
    let done = c.loop-c.invariant in
    let part = divided c.loop-c.scaled.part c.args.over c.loop-c.scaled.rest (c.loop-c.c * c.args.times) done.whole done.left in
    record {
      made = c.in_ok-push.ensures.items ∙ ap₂ (λ xs x. xs ++ x ∷ []) done.made (c.held.ensures ∙ ap (λ (q : ℕ). min q g.row.MAX) part)
          ∙ sym (map-range_with_len_more (scaled_to g.row.MAX c.args.times c.args.over) 0 c.loop-c.c c.loop-c.c (omega arith));
      whole = c.sum-scaled.ensures.whole ∙ next_multiple c.args.times c.args.over c.loop-c.c c.requires.some (c.loop-c.scaled.part * c.args.over + c.loop-c.scaled.rest) done.whole;
      left = c.sum-scaled.ensures.left;
    }
