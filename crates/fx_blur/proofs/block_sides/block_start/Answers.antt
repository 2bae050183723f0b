use Rattle.std.proofs.Common.{◌≡◌, ℕ, ◌*◌, ◌/◌, ◌≤◌, ◌-ℤ◌, w32, ap, arith}
use Rattle.std.specs.Int.RustNames.{FitsSigned}
use Rattle.std.proofs.Math.Nat.{div-mul-le_self}
use Rattle.std.proofs.lemmas.Int.{ints, to_z-of_z}
use Rattle.geom_rect.specs.Rect.{positive_part}
use Rattle.argb_world.proofs.Places.{positive_part_is}
use Rattle.fx_blur.proofs.block_sides.block_start.Goals as goal

pub returns : goal.returns
returns c =
    let low_fits : FitsSigned w32 c.args.low = c.ranges.low in
    let x_fits : FitsSigned w32 c.args.x = c.ranges.x in
    let far : c.offset.result ≡ positive_part (c.args.x -ℤ c.args.low) = simp to_z-of_z at c.offset.ensures in
    let begin : c.offset.result / c.args.size * c.args.size ≡ positive_part (c.args.x -ℤ c.args.low) / c.args.size * c.args.size =
    ap (λ (n : ℕ). n / c.args.size * c.args.size) far in
    let few : c.offset.result / c.args.size * c.args.size ≤ c.offset.result = div-mul-le_self c.offset.result c.args.size in
    let above = positive_part_is (c.args.x -ℤ c.args.low) (omega (arith, ints)) in
    omega (arith, ints)
