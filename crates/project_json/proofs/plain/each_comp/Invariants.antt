use Rattle.std.proofs.Common.{◌≡◌, map, take}
use Rattle.serde_json.specs.View.{view}
use Rattle.project_json.specs.PlainData.{plain_comp_of}
use Rattle.project_json.proofs.plain.each_comp.Given as goal

abbrev pub invariant-loop-comp : goal.invariant-loop-comp
invariant-loop-comp l = l.plain.items ≡ map (λ v. plain_comp_of l.schemas (view v)) (take l.comp-index l.comps)
