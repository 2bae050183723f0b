use Rattle.std.proofs.Common.{◌≡◌, ◌≤◌, map, take}
use Rattle.std.specs.List.{All}
use Rattle.project_model.specs.Form.{IsFormedFx}
use Rattle.project_model.specs.Plain.{plain_fx}
use Rattle.project_model.specs.Times.{fx_times}
use Rattle.project_model.proofs.copy.plain_effects.Given as goal

abbrev pub invariant-loop-fx : goal.invariant-loop-fx
invariant-loop-fx l =
    (l.plain.items ≡ map plain_fx (take l.fx-index l.effects))
    × All IsFormedFx l.plain.items
    × All (λ fx. All (λ time. 1 ≤ time.scale) (fx_times fx)) l.plain.items
