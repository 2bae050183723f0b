use Rattle.std.proofs.Common.{◌+◌, ℤ, pos, neg_ℤ, [], ◌∷◌, ap}
use Rattle.geom_rect.specs.Rect.{positive_part}
use Rattle.effect_tests.proofs.AtFirst.{first_value}
use Rattle.effect_tests.proofs.time.echoed_once.Goals as goal

pub drawn_of_two-requires-clause-two : goal.drawn_of_two-requires-clause-two
drawn_of_two-requires-clause-two c =
    ap (λ (z : ℤ). positive_part z + 1) (first_value 24 (neg_ℤ (pos 864000)) (pos 1) (pos 1 ∷ pos 5000 ∷ []) c.in_ok-fx.fx.params c.in_ok-fx.ensures.values)
