-- What the words, the bytes of a project and its clips come to: the first of these that applies. In mode demo the project is that of a
-- number, and neither bytes nor clips are asked for.
use Rattle.std.specs.Prelude.{◌≡◌, ℕ, ◌&&◌, ◌-◌, List, [], length, Bool, true, false, nat_lt, nat_le, if◌then◌else◌, Option, Some, None, Result, Ok, Err, unwrap_or}
use Rattle.project_model.specs.declared.plain.PlainProject.{PlainProject}
use Rattle.project_json.specs.declared.error.ProjectError.{ProjectError}
use Rattle.project_json.specs.declared.error.ProjectError.TheVariants as project
use Rattle.project_model.specs.Broken.{breach_of}
use Rattle.project_model.specs.declared.effect.EffectSchema.{EffectSchema}
use Rattle.project_json.specs.Reading.{project_of, judged}
use Rattle.scene_gen.specs.Generated.{generated}
use Rattle.frame_file.specs.Clip.{Pictures}
use Rattle.frame_span.specs.Effects.{Effects, scene_with}
use Rattle.host_run.specs.declared.input.TheConstants.{LONGEST_TEXT}
use Rattle.scene_meaning.specs.Shown.{PlainScene}
use Rattle.scene_meaning.specs.Output.{file, frame_count}
use Rattle.frame_span.specs.Lines.{lines}
use Rattle.host_run.specs.CheckLine.{check_line}
use Rattle.host_run.specs.Found.{Found, Refusal, missing, refused, clips_from}
use Rattle.run_words.specs.declared.settings.Settings.{Settings}
use Rattle.run_words.specs.declared.settings.RunMode.{RunMode}
use Rattle.run_words.specs.declared.settings.RunMode.TheVariants.{Render, Check, Summary, Demo}
use Rattle.host_run.specs.declared.notes.Ending.{Ending}
use Rattle.host_run.specs.declared.notes.Ending.TheVariants as ending

pub data Outcome : Type 0 where
  words_refused : Outcome
  project_too_long : Outcome
  project_refused : ProjectError → Outcome
  -- the first clip that is missing or refused
  clip_refused : Refusal → Outcome
  -- the first and the last frame that were asked for, and how many there are
  span_refused : ℕ → ℕ → ℕ → Outcome
  -- the project with its clips, and the first and the last frame of the span
  accepted : PlainScene → ℕ → ℕ → Outcome

-- the last frame that is asked for
abbrev pub last_asked : Settings → PlainProject → ℕ
last_asked settings project = unwrap_or settings.to (frame_count project - 1)

-- the span lies in the root
abbrev pub outcome_of_span : PlainScene → ℕ → ℕ → Outcome
outcome_of_span scene from to =
    if nat_le from to && nat_lt to (frame_count scene.project)
    then accepted scene from to
    else span_refused from to (frame_count scene.project)

abbrev pub outcome_of_clips : Effects → Settings → PlainProject → Result (List Pictures) Refusal → Outcome
outcome_of_clips effects settings project (Err refusal) = clip_refused refusal
outcome_of_clips effects settings project (Ok clips) =
    outcome_of_span (scene_with effects project clips) settings.from (last_asked settings project)

abbrev pub outcome_of_reading : Effects → Settings → Found → Result PlainProject ProjectError → Outcome
outcome_of_reading effects settings found (Err error) = project_refused error
outcome_of_reading effects settings found (Ok project) = outcome_of_clips effects settings project (clips_from found 0 project.clips)

abbrev pub outcome_of_text : Effects → Settings → List ℕ → Found → Outcome
outcome_of_text effects settings bytes found =
    if nat_lt LONGEST_TEXT (length bytes) then project_too_long else outcome_of_reading effects settings found (project_of effects.set.schemas bytes)

-- a project that declares no clips asks for none
abbrev pub no_clips : Found
no_clips index declared = None

-- the project of a number, or the rule of those on numbers that it breaks
abbrev pub generated_in : List EffectSchema → ℕ → Result PlainProject ProjectError
generated_in schemas number = judged (breach_of schemas (generated number)) (generated number)

abbrev pub outcome_of_number : Effects → Settings → Outcome
outcome_of_number effects settings = outcome_of_reading effects settings no_clips (generated_in effects.set.schemas settings.number)

-- the project is read from the source, and its clips from the store
abbrev pub reads_source : RunMode → Bool
reads_source Render = true
reads_source Check = true
reads_source Summary = true
reads_source Demo = false

-- with these effects, of the settings, none where the words are refused, the bytes, and what was found of the clips
abbrev pub outcome : Effects → Option Settings → List ℕ → Found → Outcome
outcome effects None bytes found = words_refused
outcome effects (Some settings) bytes found =
    if reads_source settings.mode then outcome_of_text effects settings bytes found else outcome_of_number effects settings

-- how a run ends where no fault and no want of memory comes before
abbrev pub end_of : Outcome → Result (Unit {0}) Ending
end_of words_refused = Err ending.Words
end_of project_too_long = Err ending.ProjectTooLong
end_of (project_refused project.NotJson) = Err ending.NotJson
end_of (project_refused (project.Rule number comp layer)) = Err (ending.Rule number)
end_of (project_refused project.Memory) = Err ending.Memory
end_of (clip_refused (missing name)) = Err (ending.ClipMissing name)
end_of (clip_refused (refused name why)) = Err (ending.ClipRefused name why)
end_of (span_refused from to count) = Err (ending.Span from to count)
end_of (accepted scene from to) = Ok tt

-- the mode, that of no words where they are refused
abbrev pub mode_of : Option Settings → RunMode
mode_of None = Render
mode_of (Some settings) = settings.mode

-- what a mode writes of a scene and a span
abbrev pub written_in : RunMode → PlainScene → ℕ → ℕ → List ℕ
written_in Render scene from to = file scene from to
written_in Check scene from to = check_line scene.project
written_in Summary scene from to = lines scene from to
written_in Demo scene from to = lines scene from to

-- what it then writes
abbrev pub output : RunMode → Outcome → List ℕ
output mode words_refused = []
output mode project_too_long = []
output mode (project_refused error) = []
output mode (clip_refused refusal) = []
output mode (span_refused from to count) = []
output mode (accepted scene from to) = written_in mode scene from to

-- there is something to write
abbrev pub IsAccepted : Outcome → Type 0
IsAccepted o = end_of o ≡ Ok tt

-- bytes that come to this may be followed by others: the words are accepted, and the bytes not yet too many
abbrev pub is_read_on : Outcome → Bool
is_read_on words_refused = false
is_read_on project_too_long = false
is_read_on (project_refused error) = true
is_read_on (clip_refused refusal) = true
is_read_on (span_refused from to count) = true
is_read_on (accepted scene from to) = true
