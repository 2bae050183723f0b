use Rattle.std.proofs.Common.{◌-◌, [], ◌∷◌, ap, ◌∙◌, arith}
use lib.Lanes.{pick_l}
use Rattle.transfer_mode.proofs.Pairs.{part_of_pair, left_of_pair, over_pair}
use Rattle.transfer_mode.proofs.pair.OverPair.pair.Goals as goal

pub returns : goal.returns
returns g c p p' q q' h h' k k' es ed =
    over_pair _ p p' q q' _ _ c.requires.some c.requires.within h h' k k' es
    (part_of_pair _ _ _ (g.row.MAX - p.a) (g.row.MAX - p'.a) q q' _ _ _ _ c.requires.depth c.requires.small k k' (omega arith) (omega arith) ed (left_of_pair _ _ p.a p'.a _ _ c.requires.depth h.alpha h'.alpha (c.spread.ensures ∙ ap (λ v. pick_l 0 v (0 ∷ 0 ∷ 0 ∷ 0 ∷ 4 ∷ 4 ∷ 4 ∷ 4 ∷ [])) es) c.left.ensures) c.product.ensures c.rounded.ensures)
