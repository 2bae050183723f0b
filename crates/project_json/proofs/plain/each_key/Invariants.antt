use Rattle.std.proofs.Common.{◌≡◌, map, take}
use Rattle.serde_json.specs.View.{view}
use Rattle.project_json.specs.Reads.{key_in}
use Rattle.project_json.proofs.plain.each_key.Given as goal

abbrev pub invariant-loop-item : goal.invariant-loop-item
invariant-loop-item l = l.keys.items ≡ map (λ v. key_in (view v)) (take l.item-index l.items)
