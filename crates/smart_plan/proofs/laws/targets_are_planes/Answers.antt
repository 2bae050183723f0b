use Rattle.smart_plan.specs.Suffices.{target_is_plane}
use Rattle.smart_plan.proofs.laws.targets_are_planes.Goals as goal

pub returns : goal.returns
returns c = target_is_plane
