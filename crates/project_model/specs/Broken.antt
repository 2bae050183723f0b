-- The broken rule with the least number, at its first place.
use Rattle.std.specs.Prelude.{ℕ, List, [], ◌∷◌, Option, None, option_map}
use Rattle.project_model.specs.Places.{first_of_two}
use Rattle.project_model.specs.Rules.{number_of, rules, place_of}
use Rattle.project_model.specs.declared.effect.EffectSchema.{EffectSchema}
use Rattle.project_model.specs.declared.place.Place.{Place}
use Rattle.project_model.specs.declared.place.Breach.{Breach}
use Rattle.project_model.specs.declared.plain.PlainProject.{PlainProject}

-- the first of these rules that is broken, where each has a number, and the place where it is broken, if there is one
abbrev pub first_broken : {R : Type 0} → (R → ℕ) → (R → Option Place) → List R → Option Breach
first_broken number_of place_of [] = None
first_broken number_of place_of (rule ∷ rest) =
    first_of_two (option_map (λ place. record { number = number_of rule; place = place }) (place_of rule))
    (first_broken number_of place_of rest)

-- the first broken rule on the project's numbers, where the effects are those of a set with these schemas
abbrev pub breach_of : List EffectSchema → PlainProject → Option Breach
breach_of schemas project = first_broken number_of (place_of schemas project) rules
