use Rattle.std.proofs.Common.{map, take}
use Rattle.std.specs.List.{AllZip}
use Rattle.serde_json.specs.View.{view}
use Rattle.project_write.specs.Parts.{IsComp}
use Rattle.project_write.proofs.comps.each_comp.Given as goal

abbrev pub invariant-loop-comp : goal.invariant-loop-comp
invariant-loop-comp l = AllZip (IsComp l.schemas) (take l.comp-index l.comps) (map view l.values.items)
