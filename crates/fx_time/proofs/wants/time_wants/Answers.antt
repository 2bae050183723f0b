use Rattle.project_model.specs.Effects.{use_of}
use Rattle.std.proofs.Common.{◌≡◌, ℕ, List, [], ◌∷◌, ◌++◌, map, ap, ap₂, sym, ◌∙◌, arith}
use Rattle.std.specs.List.{range_with_len}
use Rattle.std.proofs.lemmas.List.FromFn.{map-range_with_len_more}
use Rattle.effect_api.specs.declared.moment.Want.{Want}
use Rattle.fx_time.specs.Time.{want_of}
use Rattle.fx_time.proofs.wants.time_wants.Goals as goal

pub loop-k-preserved : goal.loop-k-preserved
loop-k-preserved c =
    c.in_ok-push.ensures.items ∙ ap₂ (λ (xs : List Want) (x : Want). xs ++ x ∷ []) c.loop-k.invariant c.want_of.ensures
    ∙ sym (map-range_with_len_more (want_of c.args.kind (use_of c.args.fx.now) c.args.at) 0 c.loop-k.k c.loop-k.k (omega arith))

pub returns : goal.returns
returns c =
    let all : c.loop-k.k ≡ c.want_count-k-end.result = omega (arith, c.loop-k.auto.k-end, c.loop-k-test.false) in
    c.loop-k.invariant ∙ ap (λ (n : ℕ). map (want_of c.args.kind (use_of c.args.fx.now) c.args.at) (range_with_len 0 n)) (all ∙ c.want_count-k-end.ensures.value)
