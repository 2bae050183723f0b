-- How what is drawn is ordered.
use Rattle.std.specs.Prelude.{ℕ, ◌+◌, ◌*◌, ◌≤◌}
use Rattle.project_model.specs.Nesting.{stack_rank}
use Rattle.project_model.specs.declared.plain.PlainProject.{PlainProject}
use Rattle.scene_cache.specs.Sharing.{IsShare, level_in}
use Rattle.scene_cache.specs.declared.share.Share.{Share}

-- a step of drawing a composition: above all steps of those that it nests
abbrev pub comp_level : PlainProject → ℕ → ℕ → ℕ
comp_level project of step = 256 * stack_rank project of + step

-- a value that passes share, at most of this level
pub record IsShareUnder (project : PlainProject) (classes level : ℕ) (share : Share) : Type 0 where
  pub is : IsShare project classes share
  pub under : level_in project share.class share.node ≤ level
