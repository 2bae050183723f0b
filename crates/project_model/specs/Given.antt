-- The first broken rule, where it is known whether rule 25 is kept.
use Rattle.std.specs.Prelude.{Bool, not, List, Option}
use Rattle.project_model.specs.Broken.{first_broken}
use Rattle.project_model.specs.Places.{first_place}
use Rattle.project_model.specs.Rules.{number_of, rules, breaks_project, breaks_comp, breaks_layer}
use Rattle.project_model.specs.declared.effect.EffectSchema.{EffectSchema}
use Rattle.project_model.specs.declared.place.Place.{Place}
use Rattle.project_model.specs.declared.place.Breach.{Breach}
use Rattle.project_model.specs.declared.plain.PlainProject.{PlainProject}
use Rattle.project_model.specs.declared.rule.Rule.{Rule}
use Rattle.project_model.specs.declared.rule.Rule.TheVariants.{Base}

-- what breaks a rule outside the compositions
abbrev pub breaks_given : PlainProject → Bool → Rule → Bool
breaks_given project is_based Base = not is_based
breaks_given project is_based rule = breaks_project project rule

abbrev pub place_given : List EffectSchema → PlainProject → Bool → Rule → Option Place
place_given schemas project is_based rule =
    first_place (λ comp. comp.layers) (breaks_given project is_based rule) (breaks_comp project rule) (breaks_layer schemas project rule) project.comps

abbrev pub breach_given : List EffectSchema → PlainProject → Bool → Option Breach
breach_given schemas project is_based = first_broken number_of (place_given schemas project is_based) rules
