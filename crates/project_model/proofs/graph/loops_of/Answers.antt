use Rattle.std.proofs.Common.{ℕ, Bool, List, ◌++◌, [], ◌∷◌, length, map, sym, ◌∙◌, ap, arith}
use Rattle.std.specs.List.{range_with_len}
use Rattle.std.proofs.lemmas.List.FromFn.{map-range_with_len_more}
use Rattle.project_model.specs.Nesting.{reaches}
use Rattle.project_model.specs.declared.plain.PlainComp.{PlainComp}
use Rattle.project_model.proofs.Ranked.{loops_told}
use Rattle.project_model.proofs.graph.loops_of.Goals as goal

pub loop-index-preserved : goal.loop-index-preserved
loop-index-preserved c =
    let f : ℕ → Bool = λ index. reaches c.args.project.now index index in
    c.in_ok-push.ensures.items
    ∙ ap (λ (xs : List Bool). xs ++ c.in_ok-reaches_itself.field-0 ∷ []) c.loop-index.invariant
    ∙ ap (λ (b : Bool). map f (range_with_len 0 c.loop-index.index) ++ b ∷ []) c.in_ok-reaches_itself.ensures
    ∙ sym (map-range_with_len_more f 0 c.loop-index.index c.loop-index.index (omega arith))

pub returns : goal.returns
returns c =
    let all = ap (length {A = PlainComp}) c.as_slice-index-end.ensures in
    loops_told c.args.project.now c.loop-index.loops.items c.loop-index.index c.loop-index.invariant
    (omega (arith, all, c.loop-index-test.false, c.loop-index.auto))
