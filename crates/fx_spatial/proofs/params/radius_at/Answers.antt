use Rattle.std.proofs.Common.{ℕ, ◌≤◌, arith, subst, sym}
use Rattle.std.proofs.lemmas.Int.{ints}
use Rattle.project_model.specs.Effects.{use_of}
use Rattle.fx_spatial.specs.Laws.{radius_range, radius_within}
use Rattle.fx_spatial.proofs.params.radius_at.Goals as goal

pub share-requires-clause-range : goal.share-requires-clause-range
share-requires-clause-range c =
    let h = radius_range (use_of c.args.fx.now) c.args.at c.requires.fits in
    (omega (arith, ints, h.0), omega (arith, ints, h.1))

pub returns-clause-within : goal.returns-clause-within
returns-clause-within c = subst (λ (n : ℕ). n ≤ 128) (sym c.share.ensures.value) (radius_within (use_of c.args.fx.now) c.args.at c.requires.fits)
