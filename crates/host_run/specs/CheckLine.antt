-- The line that tells the measures of a project.
use Rattle.std.specs.Prelude.{ℕ, List, [], ◌∷◌, ◌++◌, codes, decimal, Option, Some, None}
use Rattle.project_model.specs.Form.{plain_layer_count}
use Rattle.project_model.specs.declared.plain.PlainComp.{PlainComp}
use Rattle.project_model.specs.declared.plain.PlainProject.{PlainProject}
use Rattle.scene_meaning.specs.Output.{root_of}

-- a width, a height, a depth, a count of frames and one of layers, in one line
abbrev pub measures_line : ℕ → ℕ → ℕ → ℕ → ℕ → List ℕ
measures_line width height depth frames layers =
    codes "ok " ++ decimal width ++ codes " " ++ decimal height ++ codes " " ++ decimal depth ++ codes " " ++ decimal frames
    ++ codes " " ++ decimal layers ++ 10 ∷ []

abbrev pub line_of : PlainProject → Option PlainComp → List ℕ
line_of project None = []
line_of project (Some root) = measures_line root.width root.height project.depth root.frames (plain_layer_count project.comps)

-- the root's width, height, depth and frames, and the layers of all compositions
abbrev pub check_line : PlainProject → List ℕ
check_line project = line_of project (root_of project)
