use Rattle.std.proofs.Common.{◌≡◌, ℕ, ◌<◌, ◌^◌, List, length, map, slice_index_or, inl, inr, refl, sym, ◌∙◌, ap, subst, arith}
use Rattle.std.proofs.lemmas.List.{length-map}
use Rattle.project_model.specs.Nesting.{rank_over, stack_rank_in}
use Rattle.project_model.specs.declared.plain.PlainComp.{PlainComp}
use Rattle.project_model.proofs.Ranked.{ranks_more, ranks_listed, rank_small}
use Rattle.project_model.proofs.graph.stack_ranks.Goals as goal

pub loop-turn-init : goal.loop-turn-init
loop-turn-init c = (
  λ i. ap (λ (xs : List ℕ). slice_index_or xs i 1) c.new-ranks.ensures.items,
  inl (refl, ap (length {A = ℕ}) c.new-ranks.ensures.items),
)

pub ranks_of_one_more-requires-clause-small : goal.ranks_of_one_more-requires-clause-small
ranks_of_one_more-requires-clause-small c =
    let all = ap (length {A = PlainComp}) c.as_slice-comps.ensures in
    λ i. subst (λ (n : ℕ). n < 2 ^ 16)
    (sym (ap (λ (xs : List ℕ). slice_index_or xs i 1) c.as_slice.ensures.value ∙ c.loop-turn.invariant.0 i))
    (rank_small c.loop-turn._turn c.args.project.now i (omega (arith, all, c.requires.few_comps, c.loop-turn-test.true)) c.requires)

pub loop-turn-preserved : goal.loop-turn-preserved
loop-turn-preserved c =
    let ranks : List ℕ = c.as_slice.result.now in
    let made = c.in_ok-ranks.ensures ∙ ap (map (λ (comp : PlainComp). rank_over (λ index. slice_index_or ranks index 1) comp.layers)) c.as_slice-comps.ensures in (
      ranks_more c.args.project.now c.loop-turn._turn ranks c.in_ok-ranks.ranks.items
          (λ i. ap (λ (xs : List ℕ). slice_index_or xs i 1) c.as_slice.ensures.value ∙ c.loop-turn.invariant.0 i)
          made,
      inr (ap (length {A = ℕ}) made ∙ length-map c.args.project.now.comps _),
    )

pub returns-clause-told : goal.returns-clause-told
returns-clause-told c =
    let all = ap (length {A = PlainComp}) c.as_slice-comps.ensures in
    let turns : c.loop-turn._turn ≡ length c.args.project.now.comps = omega (arith, all, c.loop-turn-test.false, c.loop-turn.auto) in
    λ i. c.loop-turn.invariant.0 i ∙ ap (λ (n : ℕ). stack_rank_in n c.args.project.now i) turns

pub returns-clause-items : goal.returns-clause-items
returns-clause-items c =
    let all = ap (length {A = PlainComp}) c.as_slice-comps.ensures in
    let turns : c.loop-turn._turn ≡ length c.args.project.now.comps = omega (arith, all, c.loop-turn-test.false, c.loop-turn.auto) in
    ranks_listed c.args.project.now c.loop-turn.ranks.items c.loop-turn._turn turns c.loop-turn.invariant.0
    (elim c.loop-turn.invariant.1 [ inl none ↦ omega (arith, turns, none) | inr long ↦ long ])
