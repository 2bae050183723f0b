use Rattle.std.proofs.Common.{[], ◌∷◌, ap, ◌∙◌}
use lib.Lanes.{pick_l}
use Rattle.transfer_mode.proofs.Pairs.{part_of_pair}
use Rattle.transfer_mode.proofs.pair.StencilAlphaPair.pair.Goals as goal

pub returns : goal.returns
returns g c p p' q q' h h' k k' es ed =
    part_of_pair _ _ _ p.a p'.a q q' _ _ _ _ c.requires.depth c.requires.small k k' h.alpha h'.alpha ed (c.spread.ensures ∙ ap (λ v. pick_l 0 v (0 ∷ 0 ∷ 0 ∷ 0 ∷ 4 ∷ 4 ∷ 4 ∷ 4 ∷ [])) es) c.product.ensures c.rounded.ensures
