use Rattle.std.proofs.Common.{ℕ, ◌<◌, ◌≤◌, arith, subst, sym}
use Rattle.std.proofs.lemmas.Int.{ints}
use Rattle.project_model.specs.Effects.{use_of}
use Rattle.fx_spatial.specs.Laws.{size_range, size_some, size_within}
use Rattle.fx_spatial.proofs.params.size_at.Goals as goal

pub share-requires-clause-range : goal.share-requires-clause-range
share-requires-clause-range c =
    let h = size_range (use_of c.args.fx.now) c.args.at c.requires.fits in
    (omega (arith, ints, h.0), omega (arith, ints, h.1))

pub returns-clause-some : goal.returns-clause-some
returns-clause-some c = subst (λ (n : ℕ). 0 < n) (sym c.share.ensures.value) (size_some (use_of c.args.fx.now) c.args.at c.requires.fits)

pub returns-clause-within : goal.returns-clause-within
returns-clause-within c = subst (λ (n : ℕ). n ≤ 1024) (sym c.share.ensures.value) (size_within (use_of c.args.fx.now) c.args.at c.requires.fits)
