-- What is written of a frame and of a span, in each form.
use Rattle.std.specs.Prelude.{ℕ, List, []}
use Rattle.project_model.specs.declared.plain.PlainComp.{PlainComp}
use Rattle.frame_file.specs.Afr.{header_bytes}
use Rattle.frame_file.specs.declared.header.Header.{Header}
use Rattle.scene_meaning.specs.Shown.{PlainScene}
use Rattle.scene_meaning.specs.Output.{file, root_file, frame_bytes}
use Rattle.frame_span.specs.Lines.{count_line, frame_line, line_of_sums, lines, root_lines}
use Rattle.frame_span.specs.declared.form.Form.{Form}
use Rattle.frame_span.specs.declared.form.Form.TheVariants as form
use Rattle.frame_span.specs.declared.sums.Sums.{Sums}

-- the line of frame n, by its sums
abbrev pub text_of_sums : ℕ → Sums → List ℕ
text_of_sums n sums = line_of_sums n sums.a sums.r sums.g sums.b

-- what stands before the frames
abbrev pub head_text : Form → Header → List ℕ
head_text form.File header = header_bytes header
head_text form.Lines header = []

-- frame n of the root, which is this composition
abbrev pub frame_text : Form → PlainScene → PlainComp → ℕ → List ℕ
frame_text form.File = frame_bytes
frame_text form.Lines = frame_line

-- what stands behind so many frames
abbrev pub tail_text : Form → ℕ → List ℕ
tail_text form.File count = []
tail_text form.Lines count = count_line count

-- so many frames of the root from the first on
abbrev pub root_text : Form → PlainScene → PlainComp → ℕ → ℕ → List ℕ
root_text form.File = root_file
root_text form.Lines = root_lines

-- the frames from the one to the other, both included
abbrev pub span_text : Form → PlainScene → ℕ → ℕ → List ℕ
span_text form.File = file
span_text form.Lines = lines
