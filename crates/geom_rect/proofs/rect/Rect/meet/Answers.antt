use Rattle.std.proofs.Common.{arith, subst, sym, ◌↔◌}
use Rattle.std.proofs.lemmas.Int.{ints, clamps}
use Rattle.geom_rect.specs.declared.rect.Rect.{Rect}
use Rattle.geom_rect.specs.Rect.{Has}
use Rattle.geom_rect.proofs.Points.{same_rect, Has-meet_of}
use Rattle.geom_rect.proofs.rect.Rect.meet.Goals as goal

pub returns-clause-value : goal.returns-clause-value
returns-clause-value c =
    same_rect _ _ (omega (arith, ints, clamps)) (omega (arith, ints, clamps)) (omega (arith, ints, clamps)) (omega (arith, ints, clamps))

pub returns-clause-points : goal.returns-clause-points
returns-clause-points c x y =
    subst
    (λ (r : Rect). Has r x y ↔ (Has c.args.self.now x y × Has c.args.other.now x y))
    (sym (returns-clause-value c))
    (Has-meet_of c.args.self.now c.args.other.now x y)
