use Rattle.std.proofs.Common.{sym, ◌∙◌}
use Rattle.argb_world.proofs.world.World.read_packed_span.Goals as goal

pub copy_from_slice-requires : goal.copy_from_slice-requires
copy_from_slice-requires g c = c.requires.long ∙ sym c.in-Some.ensures.long
