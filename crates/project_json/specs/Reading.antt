-- What a project's bytes are read as: they are no JSON, or they break a rule, or they are a project in plain parts. Its effects are
-- those of a set with these schemas.
use Rattle.std.specs.Prelude.{◌≡◌, ℕ, List, Option, Some, None, Result, Ok, Err}
use Rattle.serde_json.specs.Data.{Data}
use Rattle.project_model.specs.Broken.{breach_of}
use Rattle.project_model.specs.declared.effect.EffectSchema.{EffectSchema}
use Rattle.project_model.specs.declared.place.Breach.{Breach}
use Rattle.project_model.specs.Checked.{comp_of, layer_of}
use Rattle.project_model.specs.Places.{first_of_two}
use Rattle.project_model.specs.declared.plain.PlainProject.{PlainProject}
use Rattle.project_model.specs.declared.passing.CheckError.{CheckError}
use Rattle.project_model.specs.declared.passing.CheckError.TheVariants.{RuleBroken, Memory as NoRoom}
use Rattle.project_json.specs.Json.{json_of}
use Rattle.project_json.specs.FormRules.{form_breach}
use Rattle.project_json.specs.PlainData.{plain_of_data}
use Rattle.project_json.specs.declared.error.ProjectError.{ProjectError}
use Rattle.project_json.specs.declared.error.ProjectError.TheVariants.{NotJson, Rule, Memory}

-- the broken rule with the least number, at its first place
abbrev pub data_breach : List EffectSchema → Data → Option Breach
data_breach schemas d = first_of_two (form_breach schemas d) (breach_of schemas (plain_of_data schemas d))

abbrev pub error_of : Breach → ProjectError
error_of breach = Rule breach.number (comp_of breach.place) (layer_of breach.place)

-- the error for one that the rules on numbers give
abbrev pub error_from : CheckError → ProjectError
error_from (RuleBroken rule comp layer) = Rule rule comp layer
error_from NoRoom = Memory

-- nothing is broken, or the error of what is
abbrev pub verdict : Option Breach → Result (Unit {0}) ProjectError
verdict None = Ok tt
verdict (Some breach) = Err (error_of breach)

abbrev pub judged : Option Breach → PlainProject → Result PlainProject ProjectError
judged None project = Ok project
judged (Some breach) project = Err (error_of breach)

abbrev pub checked : List EffectSchema → Option Data → Result PlainProject ProjectError
checked schemas None = Err NotJson
checked schemas (Some d) = judged (data_breach schemas d) (plain_of_data schemas d)

abbrev pub project_of : List EffectSchema → List ℕ → Result PlainProject ProjectError
project_of schemas bytes = checked schemas (json_of bytes)

-- an answer other than a project is the one that reading gives, but for want of memory
abbrev pub IsRefusal : ProjectError → Result PlainProject ProjectError → Type 0
IsRefusal NotJson reading = reading ≡ Err NotJson
IsRefusal (Rule number comp layer) reading = reading ≡ Err (Rule number comp layer)
IsRefusal Memory reading = Unit {0}
