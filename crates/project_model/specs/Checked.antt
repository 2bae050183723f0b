-- The first broken rule of a project in hand. Its base is to be the least common multiple of its scales, and each of
-- its streams made with it.
use Rattle.std.specs.Prelude.{◌≡◌, ℕ, ◌==◌, ◌&&◌, Bool, List, Option, Some, None, if◌then◌else◌}
use Rattle.std.specs.List.{list_all}
use Rattle.rational_time.specs.Times.{common_base}
use Rattle.project_model.specs.Broken.{first_broken}
use Rattle.project_model.specs.Plain.{plain_of}
use Rattle.project_model.specs.Rules.{number_of, rules, place_of}
use Rattle.project_model.specs.Times.{times_of}
use Rattle.project_model.specs.declared.effect.EffectSchema.{EffectSchema}
use Rattle.project_model.specs.declared.effect.FxUse.{FxUse}
use Rattle.project_model.specs.declared.layer.Layer.{Layer}
use Rattle.project_model.specs.declared.project.Project.{Project}
use Rattle.project_model.specs.declared.passing.CheckError.{CheckError}
use Rattle.project_model.specs.declared.passing.CheckError.TheVariants.{RuleBroken, Memory}
use Rattle.project_model.specs.declared.place.Place.{Place}
use Rattle.project_model.specs.declared.place.Place.TheVariants as place
use Rattle.project_model.specs.declared.place.Breach.{Breach}
use Rattle.project_model.specs.declared.rule.Rule.{Rule}
use Rattle.project_model.specs.declared.rule.Rule.TheVariants.{Base}

-- each stream of the effect was made with this base
abbrev pub fx_is_based : ℕ → FxUse → Bool
fx_is_based base fx = list_all (λ curve. curve.base == base) fx.params

-- so was each stream of the layer
abbrev pub layer_is_based : ℕ → Layer → Bool
layer_is_based base layer =
    (layer.opacity.base == base) && (layer.x.base == base) && (layer.y.base == base) && list_all (fx_is_based base) layer.effects

-- the project's base is this one, and each of its streams was made with it
abbrev pub is_based_on : ℕ → Project → Bool
is_based_on base project =
    (project.base.ticks == base)
    && list_all (λ comp. list_all (layer_is_based project.base.ticks) comp.layers) project.comps

abbrev pub is_based : Project → Bool
is_based project = is_based_on (common_base (times_of (plain_of project))) project

-- the first place where the rule is broken
abbrev pub place_in : List EffectSchema → Project → Rule → Option Place
place_in schemas project Base = if is_based project then place_of schemas (plain_of project) Base else Some place.Project
place_in schemas project rule = place_of schemas (plain_of project) rule

abbrev pub breach_in : List EffectSchema → Project → Option Breach
breach_in schemas project = first_broken number_of (place_in schemas project) rules

abbrev pub comp_of : Place → Option ℕ
comp_of place.Project = None
comp_of (place.Comp comp) = Some comp
comp_of (place.Layer comp layer) = Some comp

abbrev pub layer_of : Place → Option ℕ
layer_of place.Project = None
layer_of (place.Comp comp) = None
layer_of (place.Layer comp layer) = Some layer

-- the answer to a breach
abbrev pub error_of : Breach → CheckError
error_of breach = RuleBroken breach.number (comp_of breach.place) (layer_of breach.place)

-- the error is that of the first breach, but for want of memory
abbrev pub Refuses : CheckError → Option Breach → Type 0
Refuses Memory breach = Unit {0}
Refuses (RuleBroken rule comp layer) None = ⊥
Refuses (RuleBroken rule comp layer) (Some breach) = RuleBroken rule comp layer ≡ error_of breach
