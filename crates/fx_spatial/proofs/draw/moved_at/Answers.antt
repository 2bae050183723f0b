use Rattle.project_model.specs.Effects.{use_of}
use Rattle.fx_spatial.specs.Laws.{offset_right, offset_down}
use Rattle.fx_spatial.proofs.draw.moved_at.Goals as goal

pub far_number-requires-clause-range : goal.far_number-requires-clause-range
far_number-requires-clause-range g c = offset_right (use_of c.args.fx.now) c.args.at c.requires.fits

pub far_number-requires-2-clause-range : goal.far_number-requires-2-clause-range
far_number-requires-2-clause-range g c = offset_down (use_of c.args.fx.now) c.args.at c.requires.fits
