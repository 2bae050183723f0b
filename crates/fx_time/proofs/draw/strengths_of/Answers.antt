use Rattle.project_model.specs.Effects.{use_of}
use Rattle.std.proofs.Common.{◌≡◌, ℕ, ◌+◌, ◌<◌, ◌≤◌, List, [], ◌∷◌, ◌++◌, length, map, get_or, ap, ap₂, sym, subst, ◌∙◌, arith}
use Rattle.std.specs.List.{range_with_len}
use Rattle.std.proofs.lemmas.List.FromFn.{map-range_with_len_more, get_or-map-range_with_len, length-map-range_with_len}
use Rattle.fx_time.specs.Time.{strength_of}
use Rattle.fx_time.specs.Laws.{strength_within}
use Rattle.fx_time.proofs.draw.strengths_of.Goals as goal

pub loop-i-preserved : goal.loop-i-preserved
loop-i-preserved c =
    c.in_ok-push.ensures.items ∙ ap₂ (λ (xs : List ℕ) (x : ℕ). xs ++ x ∷ []) c.loop-i.invariant c.strength_of.ensures.value
    ∙ sym (map-range_with_len_more (λ i. strength_of (use_of c.args.fx.now) c.args.at (i + 1)) 0 c.loop-i.i c.loop-i.i (omega arith))

pub returns-clause-parts : goal.returns-clause-parts
returns-clause-parts c k l =
    let fx = use_of c.args.fx.now in
    let strength : ℕ → ℕ = λ i. strength_of fx c.args.at (i + 1) in
    let items : c.loop-i.strengths.items ≡ map strength (range_with_len 0 c.loop-i.i) = c.loop-i.invariant in
    let below : k < c.loop-i.i = omega (arith, l, ap length items, length-map-range_with_len strength 0 c.loop-i.i) in
    subst (λ (n : ℕ). n ≤ 10000) (sym (ap (λ (xs : List ℕ). get_or xs k 0) items ∙ get_or-map-range_with_len strength 0 c.loop-i.i k k 0 below (omega arith)))
    (strength_within fx c.args.at (k + 1) c.requires.fits)

pub returns-clause-many : goal.returns-clause-many
returns-clause-many c =
    let strength : ℕ → ℕ = λ i. strength_of (use_of c.args.fx.now) c.args.at (i + 1) in
    let items : c.loop-i.strengths.items ≡ map strength (range_with_len 0 c.loop-i.i) = c.loop-i.invariant in
    omega (arith, ap length items, length-map-range_with_len strength 0 c.loop-i.i, c.loop-i.auto.i-end, c.loop-i-test.false)
