use Rattle.std.proofs.Common.{All, subst}
use Rattle.argb_pixel.specs.Pixel.{IsPremultiplied}
use Rattle.argb_world.specs.Kept.{Rows}
use Rattle.argb_world.proofs.KeptLemmas.{kept_premultiplied}
use Rattle.argb_world.proofs.pixels.Pixels.are_premultiplied.Goals as goal

pub returns : goal.returns
returns g c =
    let p = c.self.inside in
    subst (λ (r : Rows). All (IsPremultiplied g.row.MAX) r.pixels) c.self.view_is
    (kept_premultiplied g.row.MAX p.written.items p.ground.count p.ground.colour c.self.invariant.written c.a-alpha.ensures.premultiplied)
