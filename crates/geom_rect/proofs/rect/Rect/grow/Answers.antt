use Rattle.std.proofs.Common.{◌≡◌, ◌↔◌, false, arith, subst, sym, ◌∙◌}
use Rattle.std.proofs.lemmas.Int.{ints}
use Rattle.geom_rect.specs.declared.rect.Rect.{Rect}
use Rattle.geom_rect.specs.Rect.{Has, HasNear, is_empty}
use Rattle.geom_rect.proofs.Points.{same_rect, Has-grow_of, grown, grow_of-room}
use Rattle.geom_rect.proofs.rect.Rect.grow.Goals as goal

pub returns-clause-value : goal.returns-clause-value
returns-clause-value c =
    let room : is_empty c.args.self.now ≡ false = cc in
    same_rect _ (grown c.args.self.now c.args.n) (omega (arith, ints)) (omega (arith, ints)) (omega (arith, ints)) (omega (arith, ints))
    ∙ sym (grow_of-room c.args.self.now c.args.n room)

pub returns-clause-points : goal.returns-clause-points
returns-clause-points c x y =
    subst
    (λ (r : Rect). Has r x y ↔ HasNear c.args.self.now c.args.n x y)
    (sym (returns-clause-value c))
    (Has-grow_of c.args.self.now c.args.n x y c.requires.outwards)
