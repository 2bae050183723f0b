use Rattle.std.proofs.Common.{◌<◌, length, subst, sym}
use Rattle.argb_world.specs.Picture.{Picture}
use Rattle.effect_api.specs.declared.checkouts.Value.{Value}
use Rattle.effect_api.specs.Checked.{Pairs, IsNew}
use Rattle.effect_api.proofs.Checking.{put_keeps}
use Rattle.effect_api.proofs.checkouts.Checkouts+MAX+K.put.Goals as goal

pub invariant_of-self : goal.invariant_of-self
invariant_of-self g c =
    let room = subst (λ (all : Pairs Picture g.row.K.Denot (Value g.row.MAX)). length all.pairs < all.room) (sym c.self.view_is) c.requires.room in
    let fresh = subst (λ (all : Pairs Picture g.row.K.Denot (Value g.row.MAX)). IsNew c.args.id all.pairs) (sym c.self.view_is) c.requires.fresh in
    put_keeps _ _ (c.args.id, c.args.pixels) c.self.invariant room fresh c.requires.plane
    c.push_reserved.ensures.items c.push_reserved.ensures.capacity
