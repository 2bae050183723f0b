use Rattle.project_model.specs.Effects.{use_of}
use Rattle.fx_spatial.specs.Laws.{right_within, down_within}
use Rattle.fx_spatial.proofs.draw.shadowed_at.Goals as goal

pub near_number-requires-clause-range : goal.near_number-requires-clause-range
near_number-requires-clause-range g c = right_within (use_of c.args.fx.now) c.args.at c.requires.fits

pub near_number-requires-2-clause-range : goal.near_number-requires-2-clause-range
near_number-requires-2-clause-range g c = down_within (use_of c.args.fx.now) c.args.at c.requires.fits
