-- What bytes are read as.
use Rattle.std.proofs.Common.{◌≡◌, ℕ, List, Bool, true, false, Option, Some, None, Result, Ok, Err, IfErr, if◌then◌else◌, refl, sym, subst, ap, ◌∙◌}
use Rattle.std.specs.Str.{IsUtf8, is_utf8}
use Rattle.std.proofs.lemmas.Str.{IsUtf8-from_is_utf8, is_utf8-from_IsUtf8}
use Rattle.serde_json.specs.Data.{Data}
use Rattle.serde_json.specs.Read.{read}
use Rattle.project_model.specs.Broken.{breach_of}
use Rattle.project_model.specs.declared.effect.EffectSchema.{EffectSchema}
use Rattle.project_model.specs.declared.place.Breach.{Breach}
use Rattle.project_model.specs.Checked.{Refuses}
use Rattle.project_model.specs.Places.{first_of_two}
use Rattle.project_model.specs.declared.passing.CheckError.{CheckError}
use Rattle.project_model.specs.declared.passing.CheckError.TheVariants.{RuleBroken, Memory as NoRoom}
use Rattle.project_model.specs.declared.project.Project.{Project}
use Rattle.project_model.specs.declared.plain.PlainProject.{PlainProject}
use Rattle.project_json.specs.Json.{json_of}
use Rattle.project_json.specs.FormRules.{form_breach}
use Rattle.project_json.specs.PlainData.{plain_of_data}
use Rattle.project_json.specs.Reading.{project_of, checked, judged, error_of, error_from, data_breach, verdict, IsRefusal}
use Rattle.project_json.specs.declared.error.ProjectError.{ProjectError}
use Rattle.project_json.specs.declared.error.ProjectError.TheVariants.{NotJson, Rule}

pub json_of-text : (bytes : List ℕ) → IsUtf8 bytes → json_of bytes ≡ read bytes
unfolding json_of
json_of-text bytes text = ap (λ b. if b then read bytes else None) (is_utf8-from_IsUtf8 bytes text)

none_where : (b : Bool) (o : Option Data) → (b ≡ true → o ≡ None) → (if b then o else None) ≡ None
none_where true o h = h refl
none_where false o h = refl

pub json_of_none : (bytes : List ℕ) → (IsUtf8 bytes → read bytes ≡ None) → json_of bytes ≡ None
unfolding json_of
json_of_none bytes h = none_where (is_utf8 bytes) (read bytes) (λ text. h (IsUtf8-from_is_utf8 bytes text))

pub project_of-not_json : (schemas : List EffectSchema) (bytes : List ℕ) → json_of bytes ≡ None → project_of schemas bytes ≡ Err NotJson
project_of-not_json schemas bytes e = ap (checked schemas) e

-- what both kinds of rules say of a value
pub project_of-both : (schemas : List EffectSchema) (bytes : List ℕ) (d : Data) (form numbers : Option Breach) → json_of bytes ≡ Some d → form_breach schemas d ≡ form
    → breach_of schemas (plain_of_data schemas d) ≡ numbers → project_of schemas bytes ≡ judged (first_of_two form numbers) (plain_of_data schemas d)
project_of-both schemas bytes d form numbers json f n =
    ap (checked schemas) json ∙ ap (λ o. judged (first_of_two o (breach_of schemas (plain_of_data schemas d))) (plain_of_data schemas d)) f
    ∙ ap (λ o. judged (first_of_two form o) (plain_of_data schemas d)) n

-- a form that is broken
pub form_refusal : (schemas : List EffectSchema) (bytes : List ℕ) (d : Data) (e : ProjectError) → json_of bytes ≡ Some d → verdict (form_breach schemas d) ≡ Err e → IsRefusal e (project_of schemas bytes)
form_refusal schemas bytes d e json v = by_form (form_breach schemas d) refl v
  where
    by_form : (form : Option Breach) → form_breach schemas d ≡ form → verdict form ≡ Err e → IsRefusal e (project_of schemas bytes)
    by_form None f v = absurd cc
    by_form (Some b) f v =
        let same : error_of b ≡ e = cc in
        subst (λ e. IsRefusal e (project_of schemas bytes)) same (project_of-both schemas bytes d (Some b) (breach_of schemas (plain_of_data schemas d)) json f refl)

-- numbers that break a rule, or want of memory
pub number_refusal : (schemas : List EffectSchema) (bytes : List ℕ) (d : Data) (refused : CheckError) → json_of bytes ≡ Some d → form_breach schemas d ≡ None
    → Refuses refused (breach_of schemas (plain_of_data schemas d)) → IsRefusal (error_from refused) (project_of schemas bytes)
number_refusal schemas bytes d NoRoom json f r = tt
number_refusal schemas bytes d (RuleBroken rule comp layer) json f r = by_numbers (breach_of schemas (plain_of_data schemas d)) refl r
  where
    by_numbers : (numbers : Option Breach) → breach_of schemas (plain_of_data schemas d) ≡ numbers → Refuses (RuleBroken rule comp layer) numbers
        → project_of schemas bytes ≡ Err (Rule rule comp layer)
    by_numbers None n r = absurd r
    by_numbers (Some b) n r = project_of-both schemas bytes d None (Some b) json f n ∙ ap (λ e. Err (error_from e)) (sym r)

pub project_of-read : (schemas : List EffectSchema) (bytes : List ℕ) (d : Data) → json_of bytes ≡ Some d → form_breach schemas d ≡ None → breach_of schemas (plain_of_data schemas d) ≡ None
    → project_of schemas bytes ≡ Ok (plain_of_data schemas d)
project_of-read schemas bytes d json f n = project_of-both schemas bytes d None None json f n

pub refused_as : (schemas : List EffectSchema) (bytes : List ℕ) (r : Result Project ProjectError) (e : ProjectError) → r ≡ Err e → IsRefusal e (project_of schemas bytes)
    → IfErr r (λ e. IsRefusal e (project_of schemas bytes))
refused_as schemas bytes r e is refusal =
    let P : Result Project ProjectError → Type 0 = λ r. IfErr r (λ e. IsRefusal e (project_of schemas bytes)) in subst P (sym is) refusal

pub project_of-json : (schemas : List EffectSchema) (bytes : List ℕ) (d : Data) (p : PlainProject) → json_of bytes ≡ Some d → data_breach schemas d ≡ None → plain_of_data schemas d ≡ p → project_of schemas bytes ≡ Ok p
project_of-json schemas bytes d p json none same = ap (checked schemas) json ∙ ap (λ o. judged o (plain_of_data schemas d)) none ∙ ap Ok same
