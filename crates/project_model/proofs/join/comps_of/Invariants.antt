use Rattle.std.proofs.Common.{◌≡◌, map}
use Rattle.std.specs.List.{All}
use Rattle.project_model.specs.Plain.{plain_comp}
use Rattle.project_model.specs.Ready.{IsBasedComp}
use Rattle.project_model.proofs.join.comps_of.Given as goal

abbrev pub invariant-loop-comp : goal.invariant-loop-comp
invariant-loop-comp l = (map plain_comp l.comps.items ≡ l.yielded) × All (IsBasedComp l.base.ticks) l.comps.items
