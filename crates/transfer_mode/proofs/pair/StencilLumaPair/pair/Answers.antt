use Rattle.argb_pixel.specs.Pixel.{luma_of}
use Rattle.argb_pixel.proofs.Channels.{luma_within}
use Rattle.transfer_mode.proofs.Pairs.{part_of_pair, deeper}
use Rattle.transfer_mode.proofs.pair.StencilLumaPair.pair.Goals as goal

pub returns : goal.returns
returns g c p p' q q' h h' k k' es ed =
    part_of_pair _ _ _ (luma_of p) (luma_of p') q q' _ _ _ _ c.requires.depth c.requires.small k k' (luma_within _ p h) (luma_within _ p' h') ed (c.spread_luma.ensures p p' (deeper _ p c.requires.within h) (deeper _ p' c.requires.within h') es) c.product.ensures c.rounded.ensures
