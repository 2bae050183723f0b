use Rattle.std.proofs.Common.{◌≡◌, ℕ, Bool, false, List, length, map, slice_index_or, ◌∙◌, ap, arith}
use Rattle.project_model.specs.Nesting.{lead_to, reaches_in}
use Rattle.project_model.specs.declared.plain.PlainComp.{PlainComp}
use Rattle.project_model.proofs.Ranked.{leading_more}
use Rattle.project_model.proofs.graph.reaches_itself.Goals as goal

pub loop-step-init : goal.loop-step-init
loop-step-init c = λ i. ap (λ (xs : List Bool). slice_index_or xs i false) c.new-leading.ensures.items

pub loop-step-preserved : goal.loop-step-preserved
loop-step-preserved c =
    let leading : List Bool = c.as_slice.result.now in
    leading_more c.args.project.now c.loop-step._step c.args.index leading c.in_ok-leading.leading.items
    (λ i. ap (λ (xs : List Bool). slice_index_or xs i false) c.as_slice.ensures.value ∙ c.loop-step.invariant i)
    (c.in_ok-leading.ensures
    ∙ ap (map (λ (comp : PlainComp). lead_to (λ nested. slice_index_or leading nested false) c.args.index comp.layers)) c.as_slice-comps.ensures)

pub returns : goal.returns
returns c =
    let all = ap (λ (xs : List PlainComp). length xs) c.as_slice-comps.ensures in
    let steps : c.loop-step._step ≡ length c.args.project.now.comps = omega (arith, all, c.loop-step-test.false, c.loop-step.auto) in
    c.is_leading.ensures
    ∙ ap (λ (xs : List Bool). slice_index_or xs c.args.index false) c.as_slice-2.ensures.value
    ∙ c.loop-step.invariant c.args.index
    ∙ ap (λ (n : ℕ). reaches_in n c.args.project.now c.args.index c.args.index) steps
