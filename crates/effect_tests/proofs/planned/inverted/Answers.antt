use Rattle.std.proofs.Common.{◌≡◌, [], ◌∷◌, pos, refl, ap, subst, sym, rules}
use Rattle.std.proofs.lemmas.List.Elements.{All-cons, All-nil}
use Rattle.project_model.specs.Effects.{use_of}
use Rattle.effect_api.specs.declared.moment.Moment.{Moment}
use Rattle.effect_api.specs.Planes.{HasSides}
use Rattle.effect_api.specs.Render.{AreExtents}
use Rattle.fx_stock.specs.Stock.{part_of, part_wants}
use Rattle.effect_tests.proofs.planned.inverted.Goals as goal

pub needed-requires-clause-extents : goal.needed-requires-clause-extents
needed-requires-clause-extents c =
    let at : Moment = record { base = record { ticks = 24 }; tick = record { 0 = pos 5 }; frame = pos 1 } in
    let fx = c.in_ok-fx.fx in
    let inverts : part_wants (part_of fx.kind) (use_of fx) at ≡ part_wants (part_of 0) (use_of fx) at =
    ap (λ kind. part_wants (part_of kind) (use_of fx) at) c.in_ok-fx.ensures.kind in
    let near : HasSides c.rect.result = subst HasSides (sym c.rect.ensures) (search rules) in
    subst (λ wants. AreExtents wants (c.rect.result ∷ [])) (sym inverts) (record { one_each = refl; near = All-cons HasSides c.rect.result [] near (All-nil HasSides) })
