use Rattle.std.proofs.Common.{◌≡◌, length}
use Rattle.argb_pixel.proofs.Places.{front_of}
use Rattle.comp_stack.specs.Layers.{plane_of}
use Rattle.fx_spatial.specs.Rows.{drawn_span}
use Rattle.fx_spatial.specs.Displace.{displaced_at}
use Rattle.fx_spatial.proofs.displace.displace_each.Given as goal

abbrev pub invariant-points : goal.invariant-points
invariant-points g l = record {
  row : l.into ≡ front_of (drawn_span (displaced_at g.row.MAX l.rule.max_x l.rule.max_y (plane_of l.rule.input.now) (plane_of l.rule.map.now)) l.x l.y (length l.fn.into)) l.fn.into l.k;
  end : l.k-end ≡ length l.fn.into;
}
