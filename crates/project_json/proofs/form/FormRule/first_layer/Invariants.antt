use Rattle.std.proofs.Common.{◌≡◌, map, drop}
use Rattle.serde_json.specs.View.{view}
use Rattle.project_model.specs.Places.{first_from}
use Rattle.project_json.specs.FormRules.{breaks_layer}
use Rattle.project_json.proofs.form.FormRule.first_layer.Given as goal

abbrev pub invariant-loop-i : goal.invariant-loop-i
invariant-loop-i l =
    first_from (λ _ layer. breaks_layer l.schemas l.self layer) 0 (map view l.layers) ≡ first_from (λ _ layer. breaks_layer l.schemas l.self layer) l.i (map view (drop l.i l.layers))
