use Rattle.std.proofs.Common.{◌≡◌, codes, map, drop}
use Rattle.serde_json.specs.View.{view}
use Rattle.project_model.specs.Places.{first_in_comps}
use Rattle.project_json.specs.PlainData.{items_of}
use Rattle.project_json.specs.FormRules.{breaks_comp, breaks_layer}
use Rattle.project_json.proofs.form.FormRule.first_in_comps.Given as goal

abbrev pub invariant-loop-i : goal.invariant-loop-i
invariant-loop-i l =
    first_in_comps (items_of (codes "layers")) (λ _ comp. breaks_comp l.self comp) (λ _ _ layer. breaks_layer l.schemas l.self layer) 0 (map view l.comps)
    ≡ first_in_comps (items_of (codes "layers")) (λ _ comp. breaks_comp l.self comp) (λ _ _ layer. breaks_layer l.schemas l.self layer) l.i (map view (drop l.i l.comps))
