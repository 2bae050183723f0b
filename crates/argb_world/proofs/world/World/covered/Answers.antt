use Rattle.std.proofs.Common.{rules, ◌≡◌, true, arith, w32, w64}
use Rattle.std.specs.Int.RustNames.{FitsSigned}
use Rattle.std.proofs.lemmas.Int.{to_z-of_z}
use Rattle.argb_world.specs.Picture.{HasRow}
use Rattle.argb_world.proofs.world.World.covered.Goals as goal

pub returns-then-has_row-clause-inside : goal.returns-then-has_row-clause-inside
returns-then-has_row-clause-inside g c =
    let left_fits : FitsSigned w32 c.self.inside.part.left = search rules in
    let right_fits : FitsSigned w32 c.self.inside.part.right = search rules in
    let x_fits : FitsSigned w64 c.args.x = c.ranges.x in
    let y_fits : FitsSigned w64 c.args.y = c.ranges.y in
    let inside = simp to_z-of_z at c.overlap.ensures.inside in
    let rows = simp to_z-of_z at c.has_row.ensures in
    let row : HasRow c.self.inside.part c.args.y = rows.0 c.if-has_row.true in
    rw (← c.self.view_is) λ k l. (λ h. (inside k l).0 (h.0, h.1), λ r. let q = (inside k l).1 r in (q.0, q.1, row.0, row.1))

pub returns-else-has_row-clause-inside : goal.returns-else-has_row-clause-inside
returns-else-has_row-clause-inside g c =
    let y_fits : FitsSigned w64 c.args.y = c.ranges.y in
    let rows = simp to_z-of_z at c.has_row.ensures in
    rw (← c.self.view_is) λ k l. (
      λ h. let yes : c.has_row.result ≡ true = rows.1 (h.2, h.3) in absurd (let no = c.if-has_row.false in cc),
      λ r. absurd (omega (arith, r.1)),
    )
