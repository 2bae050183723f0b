use Rattle.std.proofs.Common.{arith}
use Rattle.argb_pixel.proofs.Channels.{depth_pos}
use Rattle.transfer_mode.proofs.Bounds.{channel_within}
use Rattle.transfer_mode.proofs.transfer.mix_channel.Goals as goal

pub returns-clause-within : goal.returns-clause-within
returns-clause-within g c = omega (arith, c.blend_channel.ensures, channel_within _ c.args.sa c.args.da c.args.s c.args.d c.both.result (depth_pos _ c.requires.depth) c.requires.source c.requires.destination c.both.ensures.bound)
