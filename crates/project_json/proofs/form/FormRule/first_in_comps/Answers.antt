use Rattle.std.proofs.Common.{◌≡◌, ◌+◌, Some, None, option_map, map, drop, codes, sym, ap, ◌∙◌, arith}
use Rattle.serde_json.specs.View.{view}
use Rattle.project_model.specs.Places.{first_of_two}
use Rattle.project_model.specs.declared.place.Place.TheVariants as place
use Rattle.project_json.specs.PlainData.{items_of}
use Rattle.project_json.proofs.PlaceLemmas.{found, found_layer, found_at}
use Rattle.project_json.proofs.form.FormRule.first_in_comps.Goals as goal

pub returns-in-Some : goal.returns-in-Some
returns-in-Some c =
    let rule = c.args.self in
    let i = c.loop-i.i in
    let kept = sym c.is_broken_in_comp.ensures.broken ∙ c.if-is_broken_in_comp.false in
    let layer : found_layer c.args.schemas.now rule 0 (items_of (codes "layers") (view c.index-comps-i.result)) ≡ Some c.in-Some.layer =
    sym (c.first_layer.ensures.first ∙ ap (found_layer c.args.schemas.now rule 0) c.items_of.ensures) ∙ c.in-Some.is in
    sym (c.loop-i.invariant ∙ found_at c.args.schemas.now rule c.args.comps.now i c.index-comps-i.result (omega arith) c.index-comps-i.is kept
    ∙ ap (λ o. first_of_two (option_map (place.Layer i) o) (found c.args.schemas.now rule (i + 1) (map view (drop (i + 1) c.args.comps.now)))) layer)

pub loop-i-preserved : goal.loop-i-preserved
loop-i-preserved c =
    let rule = c.args.self in
    let i = c.loop-i.i in
    let kept = sym c.is_broken_in_comp.ensures.broken ∙ c.if-is_broken_in_comp.false in
    let layer : found_layer c.args.schemas.now rule 0 (items_of (codes "layers") (view c.index-comps-i.result)) ≡ None =
    sym (c.first_layer.ensures.first ∙ ap (found_layer c.args.schemas.now rule 0) c.items_of.ensures) ∙ c.in_default.is in
    c.loop-i.invariant ∙ found_at c.args.schemas.now rule c.args.comps.now i c.index-comps-i.result (omega arith) c.index-comps-i.is kept
    ∙ ap (λ o. first_of_two (option_map (place.Layer i) o) (found c.args.schemas.now rule (i + 1) (map view (drop (i + 1) c.args.comps.now)))) layer
