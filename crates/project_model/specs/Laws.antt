-- Laws of the first broken rule and of its first place, over the definitions alone.
use Rattle.std.specs.Prelude.{◌≡◌, ◌↔◌, ◌<◌, ◌⊎◌, Some, None, IsTrue, List, slice_get, pos, negsuc}
use Rattle.rational_time.specs.declared.time.TheConstants.{MOST_SECONDS}
use Rattle.project_model.specs.Bounds.{most_of, most_clips, most_clip_bytes, most_name_bytes, header_length, greatest_rank, most_comps, most_layers, most_layers_in_all, most_effects, most_keys, greatest_side, greatest_area, most_frames, greatest_base, full_opacity, least_position, greatest_position}
use Rattle.project_model.specs.Broken.{breach_of}
use Rattle.project_model.specs.Checked.{breach_in}
use Rattle.project_model.specs.Plain.{plain_of}
use Rattle.project_model.specs.Rules.{number_of, place_of, breaks_project, breaks_comp, breaks_layer}
use Rattle.project_model.specs.Sound.{IsSound}
use Rattle.project_model.specs.declared.effect.EffectSchema.{EffectSchema}
use Rattle.project_model.specs.declared.place.Breach.{Breach}
use Rattle.project_model.specs.declared.place.Place.{Place}
use Rattle.project_model.specs.declared.place.Place.TheVariants as place
use Rattle.project_model.specs.declared.plain.PlainComp.{PlainComp}
use Rattle.project_model.specs.declared.plain.PlainLayer.{PlainLayer}
use Rattle.project_model.specs.declared.plain.PlainProject.{PlainProject}
use Rattle.project_model.specs.declared.project.Project.{Project}
use Rattle.project_model.specs.declared.rule.Rule.{Rule}

-- no rule is broken exactly where each has no place
abbrev pub RulesAreKept : Type 0
RulesAreKept = (schemas : List EffectSchema) (project : PlainProject) → (breach_of schemas project ≡ None) ↔ ((rule : Rule) → place_of schemas project rule ≡ None)

-- the breach is that of a rule, and no rule with a lesser number is broken
pub record IsLeastBreach (schemas : List EffectSchema) (project : PlainProject) (breach : Breach) : Type 0 where
  pub rule : Rule
  pub number : number_of rule ≡ breach.number
  pub place : place_of schemas project rule ≡ Some breach.place
  pub least : (other : Rule) → number_of other < breach.number → place_of schemas project other ≡ None

abbrev pub BreachIsFirst : Type 0
BreachIsFirst =
    (schemas : List EffectSchema) (project : PlainProject) (breach : Breach)
    → breach_of schemas project ≡ Some breach
    → IsLeastBreach schemas project breach

-- a project whose streams and base are as they should be breaks the rules that its plain parts break
abbrev pub SoundIsBased : Type 0
SoundIsBased =
    (schemas : List EffectSchema) (project : Project)
    → IsSound project
    → breach_in schemas project ≡ breach_of schemas (plain_of project)

-- the rule is broken there
abbrev pub IsBrokenAt : List EffectSchema → PlainProject → Rule → Place → Type 0
IsBrokenAt schemas project rule place.Project = IsTrue (breaks_project project rule)
IsBrokenAt schemas project rule (place.Comp i) =
    (comp : PlainComp) × (slice_get project.comps i ≡ Some comp) × IsTrue (breaks_comp project rule i comp)
IsBrokenAt schemas project rule (place.Layer i j) =
    (comp : PlainComp)
    × (slice_get project.comps i ≡ Some comp)
    × ((layer : PlainLayer) × (slice_get comp.layers j ≡ Some layer) × IsTrue (breaks_layer schemas project rule comp j layer))

-- the one place stands before the other: a composition before its layers, and they before the next composition
abbrev pub StandsBefore : Place → Place → Type 0
StandsBefore place.Project place.Project = ⊥
StandsBefore place.Project (place.Comp i) = Unit {0}
StandsBefore place.Project (place.Layer i j) = Unit {0}
StandsBefore (place.Comp i) place.Project = ⊥
StandsBefore (place.Comp i) (place.Comp k) = i < k
StandsBefore (place.Comp i) (place.Layer k m) = (i < k) ⊎ (i ≡ k)
StandsBefore (place.Layer i j) place.Project = ⊥
StandsBefore (place.Layer i j) (place.Comp k) = i < k
StandsBefore (place.Layer i j) (place.Layer k m) = (i < k) ⊎ ((i ≡ k) × (j < m))

-- it is broken at its first place, and at none before
pub record IsFirstPlace (schemas : List EffectSchema) (project : PlainProject) (rule : Rule) (first : Place) : Type 0 where
  pub broken : IsBrokenAt schemas project rule first
  pub first_of_all : (other : Place) → StandsBefore other first → ¬ IsBrokenAt schemas project rule other

pub record PlaceIsFirst : Type 0 where
  pub some : (schemas : List EffectSchema) (project : PlainProject) (rule : Rule) (first : Place) → place_of schemas project rule ≡ Some first → IsFirstPlace schemas project rule first
  pub none : (schemas : List EffectSchema) (project : PlainProject) (rule : Rule) → place_of schemas project rule ≡ None → (other : Place) → ¬ IsBrokenAt schemas project rule other

-- the bounds, in numbers
abbrev pub BoundsInNumbers : Type 0
BoundsInNumbers =
    (most_comps ≡ 64) × (most_layers ≡ 128) × (most_layers_in_all ≡ 1024) × (most_effects ≡ 8) × (most_keys ≡ 4096)
    × (greatest_side ≡ 4096) × (greatest_area ≡ 8847360) × (most_frames ≡ 65536)
    × (most_clips ≡ 64) × (most_clip_bytes ≡ 2147483648) × (most_name_bytes ≡ 64) × (header_length ≡ 29)
    × (greatest_rank ≡ 256) × (MOST_SECONDS ≡ 36000) × (greatest_base ≡ 2147483647)
    × (most_of 8 ≡ 255) × (most_of 16 ≡ 32768)
    × (full_opacity ≡ pos 10000) × (least_position ≡ negsuc 32767) × (greatest_position ≡ pos 32767)
