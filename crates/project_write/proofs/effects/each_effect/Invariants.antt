use Rattle.std.proofs.Common.{map, take}
use Rattle.std.specs.List.{AllZip}
use Rattle.serde_json.specs.View.{view}
use Rattle.project_write.specs.Parts.{IsFx}
use Rattle.project_write.proofs.effects.each_effect.Given as goal

abbrev pub invariant-loop-fx : goal.invariant-loop-fx
invariant-loop-fx l = AllZip (IsFx l.schemas) (take l.fx-index l.effects) (map view l.values.items)
