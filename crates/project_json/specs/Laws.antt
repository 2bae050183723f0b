-- Laws of reading, over the definitions alone.
use Rattle.std.specs.Prelude.{◌≡◌, ℕ, List, ◌<◌, Option, Some, None, Ok, Err}
use Rattle.serde_json.specs.Data.{Data}
use Rattle.project_model.specs.Checked.{comp_of, layer_of}
use Rattle.project_model.specs.Rules.{number_of, place_of}
use Rattle.project_model.specs.declared.effect.EffectSchema.{EffectSchema}
use Rattle.project_model.specs.declared.place.Breach.{Breach}
use Rattle.project_model.specs.declared.place.Place.{Place}
use Rattle.project_model.specs.declared.plain.PlainProject.{PlainProject}
use Rattle.project_model.specs.declared.rule.Rule.{Rule}
use Rattle.project_json.specs.Json.{json_of}
use Rattle.project_json.specs.FormRules as form
use Rattle.project_json.specs.PlainData.{plain_of_data}
use Rattle.project_json.specs.Reading.{project_of}
use Rattle.project_json.specs.declared.error.ProjectError.TheVariants.{Rule as RuleError}
use Rattle.project_json.specs.declared.form.FormRule.{FormRule}

-- a rule on the form, or on the numbers
pub data AnyRule : Type 0 where
  on_form : FormRule → AnyRule
  on_numbers : Rule → AnyRule

abbrev pub number_of_any : AnyRule → ℕ
number_of_any (on_form rule) = form.number_of rule
number_of_any (on_numbers rule) = number_of rule

-- the first place where the value breaks it, where the effects are those of a set with these schemas
abbrev pub place_of_any : List EffectSchema → Data → AnyRule → Option Place
place_of_any schemas d (on_form rule) = form.place_of schemas d rule
place_of_any schemas d (on_numbers rule) = place_of schemas (plain_of_data schemas d) rule

-- the breach is that of a rule, and no rule with a lesser number is broken
pub record IsLeastBreach (schemas : List EffectSchema) (d : Data) (breach : Breach) : Type 0 where
  pub rule : AnyRule
  pub number : number_of_any rule ≡ breach.number
  pub place : place_of_any schemas d rule ≡ Some breach.place
  pub least : (other : AnyRule) → number_of_any other < breach.number → place_of_any schemas d other ≡ None

-- a rule that reading reports is broken at that place, and none with a lesser number is broken
abbrev pub RefusalIsLeast : Type 0
RefusalIsLeast =
    (schemas : List EffectSchema) (bytes : List ℕ) (d : Data) (number : ℕ) (comp layer : Option ℕ)
    → json_of bytes ≡ Some d
    → project_of schemas bytes ≡ Err (RuleError number comp layer)
    → (breach : Breach) × IsLeastBreach schemas d breach × (breach.number ≡ number) × (comp_of breach.place ≡ comp) × (layer_of breach.place ≡ layer)

-- what is read as a project breaks no rule, and is read as its plain parts
abbrev pub ProjectKeepsRules : Type 0
ProjectKeepsRules =
    (schemas : List EffectSchema) (bytes : List ℕ) (d : Data) (project : PlainProject)
    → json_of bytes ≡ Some d
    → project_of schemas bytes ≡ Ok project
    → (project ≡ plain_of_data schemas d) × ((rule : AnyRule) → place_of_any schemas d rule ≡ None)
