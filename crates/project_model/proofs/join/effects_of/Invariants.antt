use Rattle.std.proofs.Common.{◌≡◌, map}
use Rattle.std.specs.List.{All}
use Rattle.project_model.specs.Plain.{plain_fx}
use Rattle.project_model.specs.Ready.{IsBasedFx}
use Rattle.project_model.proofs.join.effects_of.Given as goal

abbrev pub invariant-loop-fx : goal.invariant-loop-fx
invariant-loop-fx l = (map plain_fx l.effects.items ≡ l.yielded) × All (IsBasedFx l.base.ticks) l.effects.items
