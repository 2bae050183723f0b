use Rattle.std.proofs.Common.{◌≡◌, false, ◌||◌, sym, ap, subst, IsTrue, ◌∙◌}
use Rattle.std.specs.List.{list_any}
use Rattle.serde_json.specs.View.{view}
use Rattle.project_json.specs.EffectForm.{effects_of}
use Rattle.project_json.specs.FormRules.{breaks_layer_itself, breaks_effect}
use Rattle.project_json.proofs.PartLemmas.{any_viewed}
use Rattle.project_json.proofs.PlaceLemmas.{looks_into_layers}
use Rattle.project_json.proofs.form.FormRule.is_broken_in_layer.Goals as goal

pub returns-else-is_broken_in_layer_itself-clause-broken :
    goal.returns-else-is_broken_in_layer_itself-clause-broken
returns-else-is_broken_in_layer_itself-clause-broken c =
    let d = view c.args.layer.now in
    let itself : breaks_layer_itself c.args.self d ≡ false = sym c.is_broken_in_layer_itself.ensures ∙ c.if-is_broken_in_layer_itself.false in
    c.is_broken_in_effects.ensures ∙ any_viewed (breaks_effect c.args.schemas.now c.args.self) c.items_of.result.now _ c.items_of.ensures
    ∙ sym (ap (λ b. b || list_any (breaks_effect c.args.schemas.now c.args.self) (effects_of d)) itself)

pub returns-else-is_broken_in_layer_itself-clause-looked :
    goal.returns-else-is_broken_in_layer_itself-clause-looked
returns-else-is_broken_in_layer_itself-clause-looked c is =
    let d = view c.args.layer.now in
    let itself : breaks_layer_itself c.args.self d ≡ false = sym c.is_broken_in_layer_itself.ensures ∙ c.if-is_broken_in_layer_itself.false in
    let same = c.is_broken_in_effects.ensures ∙ any_viewed (breaks_effect c.args.schemas.now c.args.self) c.items_of.result.now _ c.items_of.ensures
    ∙ sym (ap (λ b. b || list_any (breaks_effect c.args.schemas.now c.args.self) (effects_of d)) itself) in
    looks_into_layers c.args.schemas.now c.args.self d (subst IsTrue same is)
