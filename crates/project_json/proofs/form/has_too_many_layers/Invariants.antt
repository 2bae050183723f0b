use Rattle.std.proofs.Common.{◌≡◌, ◌≤◌, ◌+◌, codes, sum_by, length, map, drop}
use Rattle.serde_json.specs.View.{view}
use Rattle.project_json.specs.PlainData.{items_of}
use Rattle.project_json.proofs.form.has_too_many_layers.Given as goal

abbrev pub invariant-loop-comp : goal.invariant-loop-comp
invariant-loop-comp l =
    (l.count ≤ 1024)
    × (l.count + sum_by (λ comp. length (items_of (codes "layers") comp)) (map view (drop l.comp-index l.comps))
    ≡ sum_by (λ comp. length (items_of (codes "layers") comp)) (map view l.comps))
