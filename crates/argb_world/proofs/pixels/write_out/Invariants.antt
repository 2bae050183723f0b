use Rattle.std.proofs.Common.{◌≡◌, ◌-◌, vec_len, vec_capacity}
use Rattle.argb_world.specs.Kept.{kept, IsKept}
use Rattle.argb_world.proofs.pixels.write_out.Given as goal

-- whole rows are written out, and the pixels stay
abbrev pub invariant-loop-written : goal.invariant-loop-written
invariant-loop-written g l = record {
  rows : IsKept g.row.MAX l.written.items (vec_capacity l.written) l.ground.count l.ground.width l.ground.row.items l.ground.colour;
  same : kept g.row.MAX l.written.items l.ground.count l.ground.colour ≡ kept g.row.MAX l.fn.written.items l.ground.count l.ground.colour;
}

abbrev pub decreases-loop-written : goal.decreases-loop-written
decreases-loop-written g l = l.bytes - vec_len l.written
