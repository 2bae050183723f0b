-- The rule that is reported is the broken one with the least number.
use Rattle.std.proofs.Common.{◌≡◌, ℕ, ◌<◌, ◌≤◌, List, [], ◌∷◌, Option, Some, None, option_map, Ok, Err, All, lit<, lit≤, refl, sym, ap, ◌∙◌, arith}
use Rattle.serde_json.specs.Data.{Data}
use Rattle.project_model.specs.Broken.{breach_of}
use Rattle.project_model.specs.Checked.{comp_of, layer_of}
use Rattle.project_model.specs.Laws as model
use Rattle.project_model.specs.Places.{first_of_two}
use Rattle.project_model.specs.Rules as numbers
use Rattle.project_model.specs.declared.effect.EffectSchema.{EffectSchema}
use Rattle.project_model.specs.declared.place.Breach.{Breach}
use Rattle.project_model.specs.declared.place.Place.{Place}
use Rattle.project_model.specs.declared.plain.PlainProject.{PlainProject}
use Rattle.project_model.specs.declared.rule.Rule.{Rule}
use Rattle.project_model.specs.declared.rule.Rule.TheVariants as rule
use Rattle.project_model.proofs.Least.{Rise, KeptBelow, IsFound, found, found_here, least_breach, rules_kept}
use Rattle.project_json.specs.FormRules.{number_of, place_of, form_rules, form_breach}
use Rattle.project_json.specs.Laws.{AnyRule, on_form, on_numbers, number_of_any, place_of_any, IsLeastBreach, RefusalIsLeast, ProjectKeepsRules}
use Rattle.project_json.specs.PlainData.{plain_of_data}
use Rattle.project_json.specs.Reading.{checked, judged, error_of, data_breach}
use Rattle.project_json.specs.declared.error.ProjectError.TheVariants.{Rule as RuleError}
use Rattle.project_json.specs.declared.form.FormRule.{FormRule}
use Rattle.project_json.specs.declared.form.FormRule.TheVariants.{Whole, Names, Version, Depth, Clips, Comps, Layers, LayerCount, Source, Effects, EffectName, Threaded, EffectCounts, Streams, Times}
use Rattle.project_json.proofs.OrderLemmas.{broken}
use Rattle.project_json.proofs.FormedLemmas.{each_none}

-- ---- rules on the form have lesser numbers than rules on the numbers

form_number : (r : FormRule) → number_of r < 16
form_number Whole = lit< tt
form_number Names = lit< tt
form_number Version = lit< tt
form_number Depth = lit< tt
form_number Clips = lit< tt
form_number Comps = lit< tt
form_number Layers = lit< tt
form_number LayerCount = lit< tt
form_number Source = lit< tt
form_number Effects = lit< tt
form_number EffectName = lit< tt
form_number Threaded = lit< tt
form_number EffectCounts = lit< tt
form_number Streams = lit< tt
form_number Times = lit< tt

rule_number : (r : Rule) → 16 ≤ numbers.number_of r
rule_number rule.Root = lit≤ tt
rule_number rule.ClipName = lit≤ tt
rule_number rule.ClipNames = lit≤ tt
rule_number rule.Size = lit≤ tt
rule_number rule.ClipDepth = lit≤ tt
rule_number rule.Frames = lit≤ tt
rule_number rule.FrameValue = lit≤ tt
rule_number rule.Near = lit≤ tt
rule_number rule.Length = lit≤ tt
rule_number rule.Base = lit≤ tt
rule_number rule.ClipBytes = lit≤ tt
rule_number rule.Solid = lit≤ tt
rule_number rule.ClipSource = lit≤ tt
rule_number rule.CompSource = lit≤ tt
rule_number rule.Nesting = lit≤ tt
rule_number rule.Mode = lit≤ tt
rule_number rule.Matte = lit≤ tt
rule_number rule.MatteLayer = lit≤ tt
rule_number rule.Span = lit≤ tt
rule_number rule.Rising = lit≤ tt
rule_number rule.Range = lit≤ tt
rule_number rule.Params = lit≤ tt
rule_number rule.EffectLayers = lit≤ tt
rule_number rule.Sequence = lit≤ tt
rule_number rule.Rank = lit≤ tt

abbrev after_first : List FormRule
after_first =
    Names ∷ Version ∷ Depth ∷ Clips ∷ Comps ∷ Layers ∷ LayerCount ∷ Source ∷ Effects ∷ EffectName ∷ Threaded ∷ EffectCounts ∷ Streams
    ∷ Times ∷ []

-- the first has the number 1
rise : Rise number_of 1 after_first
rise = (lit< tt, (lit< tt, (lit< tt, (lit< tt, (lit< tt, (lit< tt, (lit< tt, (lit< tt, (lit< tt, (lit< tt, (lit< tt, (lit< tt, (lit< tt, (lit< tt, tt))))))))))))))

form_found : (p : FormRule → Option Place) (breach : Breach) → broken p form_rules ≡ Some breach → IsFound number_of p form_rules breach
form_found p breach e = by (p Whole) refl e
  where
    by : (o : Option Place) → p Whole ≡ o → first_of_two (option_map (λ (at : Place). record { number = number_of Whole; place = at }) o) (broken p after_first) ≡ Some breach
        → IsFound number_of p form_rules breach
    by None is later =
        let behind = found number_of p 1 after_first breach rise later in
        record { rule = behind.rule; number = behind.number; place = behind.place; least = (λ less. is, behind.least) }
    by (Some at) is here = found_here number_of p Whole after_first at breach rise is here

each_below : (p : FormRule → Option Place) (n : ℕ) → KeptBelow number_of p n form_rules → (r : FormRule) → number_of r < n → p r ≡ None
each_below p n h Whole = h.0
each_below p n h Names = h.1.0
each_below p n h Version = h.1.1.0
each_below p n h Depth = h.1.1.1.0
each_below p n h Clips = h.1.1.1.1.0
each_below p n h Comps = h.1.1.1.1.1.0
each_below p n h Layers = h.1.1.1.1.1.1.0
each_below p n h LayerCount = h.1.1.1.1.1.1.1.0
each_below p n h Source = h.1.1.1.1.1.1.1.1.0
each_below p n h Effects = h.1.1.1.1.1.1.1.1.1.0
each_below p n h EffectName = h.1.1.1.1.1.1.1.1.1.1.0
each_below p n h Threaded = h.1.1.1.1.1.1.1.1.1.1.1.0
each_below p n h EffectCounts = h.1.1.1.1.1.1.1.1.1.1.1.1.0
each_below p n h Streams = h.1.1.1.1.1.1.1.1.1.1.1.1.1.0
each_below p n h Times = h.1.1.1.1.1.1.1.1.1.1.1.1.1.1.0

form_kept : (p : FormRule → Option Place) → All (λ r. p r ≡ None) form_rules → (r : FormRule) → p r ≡ None
form_kept p none Whole = none 0 Whole (lit< tt)
form_kept p none Names = none 1 Whole (lit< tt)
form_kept p none Version = none 2 Whole (lit< tt)
form_kept p none Depth = none 3 Whole (lit< tt)
form_kept p none Clips = none 4 Whole (lit< tt)
form_kept p none Comps = none 5 Whole (lit< tt)
form_kept p none Layers = none 6 Whole (lit< tt)
form_kept p none LayerCount = none 7 Whole (lit< tt)
form_kept p none Source = none 8 Whole (lit< tt)
form_kept p none Effects = none 9 Whole (lit< tt)
form_kept p none EffectName = none 10 Whole (lit< tt)
form_kept p none Threaded = none 11 Whole (lit< tt)
form_kept p none EffectCounts = none 12 Whole (lit< tt)
form_kept p none Streams = none 13 Whole (lit< tt)
form_kept p none Times = none 14 Whole (lit< tt)

-- ---- both kinds together

least_form : (schemas : List EffectSchema) (d : Data) (breach : Breach) → form_breach schemas d ≡ Some breach → IsLeastBreach schemas d breach
least_form schemas d breach e =
    let first = form_found (place_of schemas d) breach e in
    record {
      rule = on_form first.rule;
      number = first.number;
      place = first.place;
      least = λ other less. below other less first;
    }
  where
    below : (other : AnyRule) → number_of_any other < breach.number → IsFound number_of (place_of schemas d) form_rules breach → place_of_any schemas d other ≡ None
    below (on_form other) less first = each_below (place_of schemas d) breach.number first.least other less
    below (on_numbers other) less first = absurd (omega (arith, form_number first.rule, first.number, rule_number other, less))

least_number : (schemas : List EffectSchema) (d : Data) (breach : Breach) → form_breach schemas d ≡ None → breach_of schemas (plain_of_data schemas d) ≡ Some breach → IsLeastBreach schemas d breach
least_number schemas d breach form e =
    let first = least_breach schemas (plain_of_data schemas d) breach e in
    record {
      rule = on_numbers first.rule;
      number = first.number;
      place = first.place;
      least = λ other less. below other less first;
    }
  where
    below : (other : AnyRule) → number_of_any other < breach.number → model.IsLeastBreach schemas (plain_of_data schemas d) breach → place_of_any schemas d other ≡ None
    below (on_form other) less first = form_kept (place_of schemas d) (each_none (place_of schemas d) form_rules form) other
    below (on_numbers other) less first = first.least other less

least : (schemas : List EffectSchema) (d : Data) (breach : Breach) → data_breach schemas d ≡ Some breach → IsLeastBreach schemas d breach
least schemas d breach e = by (form_breach schemas d) refl e
  where
    by : (o : Option Breach) → form_breach schemas d ≡ o → first_of_two o (breach_of schemas (plain_of_data schemas d)) ≡ Some breach → IsLeastBreach schemas d breach
    by None form e = least_number schemas d breach form e
    by (Some b) form e = least_form schemas d breach (form ∙ e)

judged_by : (schemas : List EffectSchema) (d : Data) (o : Option Breach) (number : ℕ) (comp layer : Option ℕ) → data_breach schemas d ≡ o → judged o (plain_of_data schemas d) ≡ Err (RuleError number comp layer)
    → (breach : Breach) × IsLeastBreach schemas d breach × (breach.number ≡ number) × (comp_of breach.place ≡ comp) × (layer_of breach.place ≡ layer)
judged_by schemas d None number comp layer is e = absurd cc
judged_by schemas d (Some breach) number comp layer is e =
    let same : error_of breach ≡ RuleError number comp layer = cc in
    (breach, least schemas d breach is, cc, cc, cc)

pub refusal_least : RefusalIsLeast
refusal_least schemas bytes d number comp layer json e = judged_by schemas d (data_breach schemas d) number comp layer refl (sym (ap (checked schemas) json) ∙ e)

-- ---- none is broken

both_kept : (schemas : List EffectSchema) (d : Data) → data_breach schemas d ≡ None → (rule : AnyRule) → place_of_any schemas d rule ≡ None
both_kept schemas d e = by (form_breach schemas d) refl e
  where
    by : (o : Option Breach) → form_breach schemas d ≡ o → first_of_two o (breach_of schemas (plain_of_data schemas d)) ≡ None → (rule : AnyRule) → place_of_any schemas d rule ≡ None
    by (Some b) form e rule = absurd cc
    by None form e (on_form rule) = form_kept (place_of schemas d) (each_none (place_of schemas d) form_rules form) rule
    by None form e (on_numbers rule) = (rules_kept schemas (plain_of_data schemas d)).0 e rule

accepted_by : (schemas : List EffectSchema) (d : Data) (o : Option Breach) (project : PlainProject) → data_breach schemas d ≡ o → judged o (plain_of_data schemas d) ≡ Ok project
    → (project ≡ plain_of_data schemas d) × ((rule : AnyRule) → place_of_any schemas d rule ≡ None)
accepted_by schemas d None project is e = (cc, both_kept schemas d is)
accepted_by schemas d (Some breach) project is e = absurd cc

pub project_kept : ProjectKeepsRules
project_kept schemas bytes d project json e = accepted_by schemas d (data_breach schemas d) project refl (sym (ap (checked schemas) json) ∙ e)
