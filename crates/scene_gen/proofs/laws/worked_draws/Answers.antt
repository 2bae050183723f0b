use Rattle.std.proofs.Common.{refl}
use Rattle.scene_gen.specs.Draws.{next, draw}
use Rattle.scene_gen.specs.Generated.{drawn_depth}
use Rattle.scene_gen.specs.Layers.{drawn_solid}
use Rattle.scene_gen.proofs.laws.worked_draws.Goals as goal

pub returns : goal.returns
unfolding next draw drawn_depth drawn_solid
returns c = record { after_zero = refl; depth_of_one = refl; after_depth = refl; solid_of_one = refl }
