use Rattle.std.proofs.Common.{◌≡◌, true, false, sym, ap, ◌∙◌}
use Rattle.geom_rect.specs.Rect.{is_empty, meet_of}
use Rattle.fx_blur.specs.Mosaic.{blocks_between}
use Rattle.fx_blur.specs.Blocks.{none_meet, some_meet}
use Rattle.fx_blur.proofs.block_sides.blocks.Goals as goal

pub returns-then-is_empty : goal.returns-then-is_empty
returns-then-is_empty c =
    let empty : is_empty (meet_of c.args.rect c.args.extent) ≡ true = sym (ap is_empty c.meet-met.ensures.value) ∙ sym c.is_empty.ensures.value ∙ c.if-is_empty.true in
    sym (none_meet c.args.size c.args.extent c.args.rect empty)

pub returns-else-is_empty : goal.returns-else-is_empty
returns-else-is_empty c =
    let room : is_empty (meet_of c.args.rect c.args.extent) ≡ false = sym (ap is_empty c.meet-met.ensures.value) ∙ sym c.is_empty.ensures.value ∙ c.if-is_empty.false in
    c.blocks_between.ensures ∙ ap (blocks_between c.args.size c.args.extent) c.meet-met.ensures.value ∙ sym (some_meet c.args.size c.args.extent c.args.rect room)
