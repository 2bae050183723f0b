use Rattle.std.proofs.Common.{[], ◌∷◌}
use Rattle.std.proofs.lemmas.List.Elements.{All-nil, All-cons, All-same}
use Rattle.param_stream.specs.Curve.{IsTimed}
use Rattle.project_tests.proofs.streams.pair.Goals as goal

pub new-requires-clause-timed : goal.new-requires-clause-timed
new-requires-clause-timed c =
    All-same (IsTimed 1) c.in-Ok.keys.items (c.key-start.result ∷ c.key-end.result ∷ []) (c.in-Ok.ensures.items_if_clones_equal (λ x y e. e))
    (All-cons (IsTimed 1) _ (c.key-end.result ∷ []) c.key-start.ensures (All-cons (IsTimed 1) _ [] c.key-end.ensures (All-nil (IsTimed 1))))
