use Rattle.std.proofs.Common.{subst, sym}
use Rattle.geom_rect.specs.declared.rect.Rect.{Rect}
use Rattle.geom_rect.specs.Rect.{IsWithin}
use Rattle.geom_rect.proofs.Points.{empty_within, within-hull_left, within-hull_right, hull-within, room_from_false}
use Rattle.geom_rect.proofs.rect.Rect.cover.Goals as goal

pub returns-in-true-true-clause-first : goal.returns-in-true-true-clause-first
returns-in-true-true-clause-first c = empty_within _ _ (sym c.in-true-true.ensures.value)

pub returns-in-true-true-clause-second : goal.returns-in-true-true-clause-second
returns-in-true-true-clause-second c = empty_within _ _ (sym c.in-true-true.ensures'.value)

pub returns-in-true-false-clause-first : goal.returns-in-true-false-clause-first
returns-in-true-false-clause-first c = empty_within _ _ (sym c.in-true-false.ensures.value)

pub returns-in-false-true-clause-second : goal.returns-in-false-true-clause-second
returns-in-false-true-clause-second c = empty_within _ _ (sym c.in-false-true.ensures'.value)

pub returns-in-false-false-clause-first : goal.returns-in-false-false-clause-first
returns-in-false-false-clause-first c =
    subst (λ (r : Rect). IsWithin c.args.self.now r) (sym c.hull.ensures) (within-hull_left c.args.self.now c.args.other.now)

pub returns-in-false-false-clause-second : goal.returns-in-false-false-clause-second
returns-in-false-false-clause-second c =
    subst (λ (r : Rect). IsWithin c.args.other.now r) (sym c.hull.ensures) (within-hull_right c.args.self.now c.args.other.now)

pub returns-in-false-false-clause-least : goal.returns-in-false-false-clause-least
returns-in-false-false-clause-least c outer first second =
    let first_room = room_from_false c.args.self.now (sym c.in-false-false.ensures.value) in
    let second_room = room_from_false c.args.other.now (sym c.in-false-false.ensures'.value) in
    subst
    (λ (r : Rect). IsWithin r outer)
    (sym c.hull.ensures)
    (hull-within c.args.self.now c.args.other.now outer first_room second_room first second)
