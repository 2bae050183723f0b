use Rattle.project_model.specs.Effects.{use_of}
use Rattle.fx_spatial.specs.Laws.{displace_right, displace_down}
use Rattle.fx_spatial.proofs.draw.displaced_at.Goals as goal

pub near_number-requires-clause-range : goal.near_number-requires-clause-range
near_number-requires-clause-range g c = displace_right (use_of c.args.fx.now) c.args.at c.requires.fits

pub near_number-requires-2-clause-range : goal.near_number-requires-2-clause-range
near_number-requires-2-clause-range g c = displace_down (use_of c.args.fx.now) c.args.at c.requires.fits
