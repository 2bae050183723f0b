use Rattle.std.proofs.Common.{arith}
use Rattle.std.proofs.lemmas.Int.{ints}
use Rattle.geom_rect.proofs.rect.Rect.has.Goals as goal

pub returns-then-spans : goal.returns-then-spans
returns-then-spans c = (
  λ h.
      let across = c.spans.ensures.0 c.if-spans.true in
      let down = c.spans-then-spans.ensures.0 h in
      (omega (arith, ints, across.0), omega (arith, ints, across.1), omega (arith, ints, down.0), omega (arith, ints, down.1)),
  λ h. c.spans-then-spans.ensures.1 (omega (arith, ints, h.2), omega (arith, ints, h.3)),
)
