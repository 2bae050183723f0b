-- The first draws of two numbers, worked by hand, and what every generated project has.
use Rattle.std.specs.Prelude.{◌≡◌, ℕ, [], ◌∷◌, length, map, pos}
use Rattle.rational_time.specs.Times.{common_base}
use Rattle.project_model.specs.Times.{times_of}
use Rattle.project_model.specs.declared.item.Item.TheVariants.{Solid}
use Rattle.project_model.specs.declared.plain.PlainProject.{PlainProject}
use Rattle.scene_gen.specs.Draws.{next}
use Rattle.scene_gen.specs.Generated.{drawn_depth, generated}
use Rattle.scene_gen.specs.Layers.{drawn_solid}

-- the states of 0 and 1, and the depth and the first solid of 1
pub record WorkedDraws : Type 0 where
  pub after_zero : next 0 ≡ 1442695040888963407
  pub depth_of_one : drawn_depth 1 ≡ record { value = 8; state = 7806831264735756412 }
  pub after_depth : next 7806831264735756412 ≡ 9396908728118811419
  pub solid_of_one : (drawn_solid 255 7806831264735756412).value ≡ Solid 33 20 178 72 106 76

-- the base of every project is the least common multiple of its scales
abbrev pub BaseIsCommon : Type 0
BaseIsCommon = (number : ℕ) → common_base (times_of (generated number)) ≡ 30000

-- the composition that is rendered is the second one
pub record IsFramed (project : PlainProject) : Type 0 where
  pub clips : project.clips ≡ []
  pub root : project.root ≡ 1
  pub comps : length project.comps ≡ 2
  pub frame : map (λ comp. comp.frame) project.comps ≡ record { value = pos 1; scale = 24 } ∷ record { value = pos 1001; scale = 30000 } ∷ []
  pub frames : map (λ comp. comp.frames) project.comps ≡ 12 ∷ 12 ∷ []

abbrev pub AreFramed : Type 0
AreFramed = (number : ℕ) → IsFramed (generated number)
