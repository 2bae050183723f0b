use Rattle.std.proofs.Common.{◌≡◌, ◌≤◌, map, take}
use Rattle.std.specs.List.{All}
use Rattle.project_model.specs.Form.{IsFormedComp}
use Rattle.project_model.specs.Plain.{plain_comp}
use Rattle.project_model.specs.Times.{comp_times}
use Rattle.project_model.proofs.copy.plain_comps.Given as goal

abbrev pub invariant-loop-comp : goal.invariant-loop-comp
invariant-loop-comp l =
    (l.plain.items ≡ map plain_comp (take l.comp-index l.comps))
    × All IsFormedComp l.plain.items
    × All (λ comp. All (λ time. 1 ≤ time.scale) (comp_times comp)) l.plain.items
