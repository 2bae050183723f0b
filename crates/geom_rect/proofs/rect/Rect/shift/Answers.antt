use Rattle.std.proofs.Common.{arith, subst, sym, ◌↔◌, ◌+ℤ◌}
use Rattle.std.proofs.lemmas.Int.{ints}
use Rattle.geom_rect.specs.declared.rect.Rect.{Rect}
use Rattle.geom_rect.specs.Rect.{Has}
use Rattle.geom_rect.proofs.Points.{same_rect, Has-shift_of}
use Rattle.geom_rect.proofs.rect.Rect.shift.Goals as goal

pub returns-clause-value : goal.returns-clause-value
returns-clause-value c =
    same_rect _ _ (omega (arith, ints)) (omega (arith, ints)) (omega (arith, ints)) (omega (arith, ints))

pub returns-clause-points : goal.returns-clause-points
returns-clause-points c x y =
    subst
    (λ (r : Rect). Has r (x +ℤ c.args.dx) (y +ℤ c.args.dy) ↔ Has c.args.self.now x y)
    (sym (returns-clause-value c))
    (Has-shift_of c.args.self.now c.args.dx c.args.dy x y)
