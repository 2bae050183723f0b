use Rattle.std.proofs.Common.{◌<ℤ◌, ◌≤ℤ◌, arith}
use Rattle.std.proofs.lemmas.Int.{ints}
use Rattle.geom_rect.proofs.Points.{closed_from_no_point}
use Rattle.geom_rect.proofs.rect.Rect.is_empty.Goals as goal

pub returns-else-self-clause-points : goal.returns-else-self-clause-points
returns-else-self-clause-points c =
    let across : c.args.self.now.left <ℤ c.args.self.now.right = omega (arith, ints) in (
      λ closed x y h. absurd (omega (arith, ints, h.2, h.3, closed)),
      λ none.
          let closed : c.args.self.now.bottom ≤ℤ c.args.self.now.top = closed_from_no_point c.args.self.now across none in
          grind (arith, ints),
    )
