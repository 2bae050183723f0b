use Rattle.std.proofs.Common.{ℕ, subst, sym}
use Rattle.std.specs.List.{All}
use Rattle.argb_world.specs.Picture.{Picture}
use Rattle.effect_api.specs.declared.checkouts.Value.{Value}
use Rattle.effect_api.specs.Planes.{HasSides}
use Rattle.effect_api.specs.Checked.{Pixels, Pairs, world_of}
use Rattle.effect_api.proofs.checkouts.Checkouts+MAX+K.checkout_want.Goals as goal

pub returns-clause-near : goal.returns-clause-near
returns-clause-near g c all =
    let P : ℕ × Pixels g.row.MAX g.row.K.Denot → Type 0 = λ pair. HasSides (world_of pair.1).extent in
    c.nth_world.ensures.near (subst (All P) (sym c.deref.ensures.value) (subst (λ (p : Pairs Picture g.row.K.Denot (Value g.row.MAX)). All P p.pairs) (sym c.self.view_is) all))
