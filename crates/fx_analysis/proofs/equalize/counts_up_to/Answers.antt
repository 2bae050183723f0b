use Rattle.std.proofs.Common.{◌≡◌, ℕ, ◌∷◌, [], ◌++◌, map, get_or, refl, ap, ap₂, sym, ◌∙◌, arith}
use Rattle.std.specs.List.{range_with_len}
use Rattle.std.proofs.lemmas.List.FromFn.{map-range_with_len_more}
use Rattle.fx_analysis.specs.Formulas.{count_to}
use Rattle.fx_analysis.proofs.Found.{front_more, front_within}
use Rattle.fx_analysis.proofs.equalize.counts_up_to.Goals as goal

pub overflow_add-count : goal.overflow_add-count
overflow_add-count c =
    let counts = c.args.counts.now in
    let level = c.loop-level.level in
    let here = front_more counts level c.loop-level.count (get_or counts level 0) c.requires c.loop-level-test.true c.loop-level.invariant.count refl in
    omega (arith, here, front_within counts level c.requires)

pub loop-level-preserved : goal.loop-level-preserved
loop-level-preserved c =
    let counts = c.args.counts.now in
    let level = c.loop-level.level in
    let here = front_more counts level c.loop-level.count (get_or counts level 0) c.requires c.loop-level-test.true c.loop-level.invariant.count refl in
    record {
      count = here;
      made = c.in_ok-push.ensures.items ∙ ap₂ (λ xs x. xs ++ x ∷ []) c.loop-level.invariant.made here
          ∙ sym (map-range_with_len_more (count_to counts) 0 level level (omega arith));
    }

pub returns : goal.returns
returns c =
    let all : c.loop-level.level ≡ 256 = omega (arith, c.loop-level.auto.level-end, c.loop-level-test.false) in
    c.loop-level.invariant.made ∙ ap (λ (n : ℕ). map (count_to c.args.counts.now) (range_with_len 0 n)) all
