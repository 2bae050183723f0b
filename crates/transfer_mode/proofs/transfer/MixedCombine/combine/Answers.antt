use Rattle.std.proofs.Common.{arith}
use Rattle.argb_pixel.proofs.Channels.{depth_pos}
use Rattle.transfer_mode.proofs.Bounds.{alpha_within}
use Rattle.transfer_mode.proofs.transfer.MixedCombine.combine.Goals as goal

pub of_channels-requires : goal.of_channels-requires
of_channels-requires g c =
    let fits = alpha_within _ c.a-sa.result c.a-da.result (depth_pos _ c.requires) (omega (arith, c.a-sa.ensures.premultiplied)) (omega (arith, c.a-da.ensures.premultiplied)) in (
      omega arith,
      (
        c.requires,
        record {
          alpha = omega (arith, fits, c.blend_channel.ensures);
          red = omega (arith, c.mix_channel.ensures.within, c.blend_channel.ensures);
          green = omega (arith, c.mix_channel-2.ensures.within, c.blend_channel.ensures);
          blue = omega (arith, c.mix_channel-3.ensures.within, c.blend_channel.ensures);
        },
      ),
    )
