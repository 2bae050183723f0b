use Rattle.std.proofs.Common.{sym, ◌∙◌, arith}
use Rattle.argb_pixel.specs.Packed.{pixels_of}
use Rattle.transfer_mode.specs.declared.mode.Mode.TheVariants as mode
use Rattle.transfer_mode.proofs.Rules.{blend_premultiplied}
use Rattle.transfer_mode.proofs.Covered.{all_hidden}
use Rattle.transfer_mode.proofs.transfer.over_packed_each.Goals as goal

pub combine_packed_each-requires-else-a : goal.combine_packed_each-requires-else-a
combine_packed_each-requires-else-a g c = (omega arith, (c.requires.depth, (c.requires.destination, λ p q h k. blend_premultiplied g.row.MAX mode.Normal p q c.requires.depth h k)))

pub returns-then-a-clause-value : goal.returns-then-a-clause-value
returns-then-a-clause-value g c =
    c.combine_packed_each.ensures.value
    ∙ all_hidden g.row.MAX c.args.s (pixels_of g.row.MAX c.args.d.now) c.requires.depth (sym c.a.ensures.value ∙ c.if-a.true) c.requires.destination.premultiplied
