use Rattle.std.proofs.Common.{sym, subst, ◌∙◌}
use Rattle.geom_rect.specs.declared.rect.Rect.{Rect}
use Rattle.geom_rect.specs.Rect.{Has}
use Rattle.frame_draw.proofs.effects.draw_part.Goals as goal

pub returns : goal.returns
returns g c = record {
  extent = c.in_ok-smart_render.ensures.frame.0 ∙ c.in_ok-target.ensures.extent;
  part_is = c.in_ok-smart_render.ensures.frame.1 ∙ c.in_ok-target.ensures.part;
  shows = λ x y h. c.in_ok-smart_render.ensures.drawn x y (subst (λ (r : Rect). Has r x y) (sym c.in_ok-target.ensures.part) h);
}
