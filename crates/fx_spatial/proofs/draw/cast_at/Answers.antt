use Rattle.project_model.specs.Effects.{use_of}
use Rattle.fx_spatial.specs.Laws.{opacity_range, red_range, green_range, blue_range}
use Rattle.fx_spatial.proofs.draw.cast_at.Goals as goal

pub share-requires-clause-range : goal.share-requires-clause-range
share-requires-clause-range c = opacity_range (use_of c.args.fx.now) c.args.at c.requires.fits

pub share-requires-2-clause-range : goal.share-requires-2-clause-range
share-requires-2-clause-range c = red_range (use_of c.args.fx.now) c.args.at c.requires.fits

pub share-requires-3-clause-range : goal.share-requires-3-clause-range
share-requires-3-clause-range c = green_range (use_of c.args.fx.now) c.args.at c.requires.fits

pub share-requires-4-clause-range : goal.share-requires-4-clause-range
share-requires-4-clause-range c = blue_range (use_of c.args.fx.now) c.args.at c.requires.fits
