use Rattle.std.proofs.Common.{length, arith, ap, ap₂, replicate, ◌*◌, ◌∙◌}
use Rattle.geom_rect.specs.Rect.{area_of}
use Rattle.std.proofs.lemmas.List.{length-replicate}
use Rattle.argb_world.proofs.Places.{rows_there}
use Rattle.argb_world.proofs.Rows.{blank_at}
use Rattle.argb_world.proofs.world.World.blank.Goals as goal

pub returns-clause-transparent : goal.returns-clause-transparent
returns-clause-transparent g c = λ x y.
    blank_at c.args.extent c.args.part c.in_ok-pixels.pixels.pixels x y (c.in_ok-pixels.ensures.pixels ∙ ap₂ (λ w h. replicate (w * h) c.CLEAR.result) c.width.ensures c.height.ensures ∙ ap (replicate (area_of c.args.part)) c.CLEAR.ensures)

pub invariant_of-result : goal.invariant_of-result
invariant_of-result g c = record {
  depth = c.requires.depth;
  picture = record {
    inside = c.requires.inside;
    bound = c.requires.bound;
    filled = ap length c.in_ok-pixels.ensures.pixels ∙ length-replicate (c.width.result * c.height.result) c.CLEAR.result ∙ ap₂ (λ w h. w * h) c.width.ensures c.height.ensures;
  };
  wide = λ y h. c.in_ok-pixels.ensures.width (omega (arith, rows_there c.args.part y h, c.height.ensures)) ∙ c.width.ensures;
}
