use Rattle.std.proofs.Common.{sym, subst, arith}
use Rattle.geom_rect.specs.Rect.{IsWithin}
use Rattle.argb_world.specs.Picture.{Picture}
use Rattle.argb_world.proofs.Places.{area_within}
use Rattle.argb_world.proofs.world.World.crop.Goals as goal

pub blank-requires : goal.blank-requires
blank-requires g c =
    let within : IsWithin c.args.part c.self.inside.part = subst (λ (v : Picture). IsWithin c.args.part v.part) (sym c.self.view_is) c.requires in
    let small = area_within c.args.part c.self.inside.part within in
    (omega arith, (c.self.invariant.depth, (λ x y h. c.self.invariant.picture.inside x y (within x y h), omega (arith, small, c.self.invariant.picture.bound))))
