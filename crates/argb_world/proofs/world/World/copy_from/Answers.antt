use Rattle.std.proofs.Common.{◌≡◌, ◌<◌, ◌+◌, ℤ, pos, ◌+ℤ◌, ◌<ℤ◌, sym, subst, ap, ◌∙◌, arith}
use Rattle.geom_rect.specs.declared.rect.Rect.{Rect}
use Rattle.geom_rect.specs.Rect.{Has, count_between}
use Rattle.argb_world.specs.Picture.{Picture, at}
use Rattle.argb_world.proofs.Spans.{copied_more, above_end}
use Rattle.argb_world.proofs.world.World.copy_from.Goals as goal

pub copy_row-requires : goal.copy_row-requires
copy_row-requires g c =
    let part_is : c.loop-k.self.part ≡ c.self.inside.part = c.loop-k.invariant.frame.1 ∙ sym (ap (λ (v : Picture). v.part) c.self.view_is) in
    let low : c.loop-k.k < count_between c.self.inside.part.top c.self.inside.part.bottom = omega (arith, c.loop-k-test.true, c.height-k-end.ensures) in
    (omega arith, subst (λ (r : Rect). c.loop-k.k < count_between r.top r.bottom) (sym part_is) low)

pub loop-k-preserved : goal.loop-k-preserved
loop-k-preserved g c =
    let e = c.loop-k.invariant.frame.1 in
    let frame = c.copy_row.ensures.frame in
    let was : (u v : ℤ) → Has c.loop-k.self.part u v → v <ℤ (c.loop-k.self.part.top +ℤ pos c.loop-k.k) → at c.loop-k.self u v ≡ at c.args.from.now u v =
    subst (λ (r : Rect). (u v : ℤ) → Has r u v → v <ℤ (r.top +ℤ pos c.loop-k.k) → at c.loop-k.self u v ≡ at c.args.from.now u v) (sym e) c.loop-k.invariant.copied in
    record {
      frame = (frame.0 ∙ c.loop-k.invariant.frame.0, frame.1 ∙ e);
      copied = subst (λ (r : Rect). (u v : ℤ) → Has r u v → v <ℤ (r.top +ℤ pos (c.loop-k.k + 1)) → at c.copy_row.new.self u v ≡ at c.args.from.now u v) e
          (copied_more c.loop-k.self c.copy_row.new.self c.args.from.now c.loop-k.k frame c.copy_row.ensures.row c.copy_row.ensures.others was);
    }

pub returns-clause-copied : goal.returns-clause-copied
returns-clause-copied g c =
    let rows : count_between c.self.inside.part.top c.self.inside.part.bottom ≡ count_between c.args.self.now.part.top c.args.self.now.part.bottom = ap (λ (v : Picture). count_between v.part.top v.part.bottom) c.self.view_is in
    λ x y h. c.loop-k.invariant.copied x y h (above_end c.args.self.now.part x y c.loop-k.k h (omega (arith, rows, c.height-k-end.ensures, c.loop-k-test.false)))
