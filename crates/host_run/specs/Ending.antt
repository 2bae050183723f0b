-- The status that tells how a run ended.
use Rattle.std.specs.Prelude.{Result, Ok, Err, List, [], ◌∷◌, ◌++◌, codes, decimal, ℕ, ◌==◌, ◌<◌, length, slice_get, if◌then◌else◌}
use Rattle.std.specs.Option.{option_map_or}
use Rattle.host_io.specs.declared.status.Status.{Status}
use Rattle.host_io.specs.declared.status.Status.TheVariants as status
use Rattle.host_io.specs.declared.cause.SinkError.{SinkError}
use Rattle.host_io.specs.declared.cause.SinkError.TheVariants as sink
use Rattle.project_model.specs.declared.passing.CheckError.{CheckError}
use Rattle.project_model.specs.declared.passing.CheckError.TheVariants as check
use Rattle.frame_span.specs.declared.error.RenderError.{RenderError}
use Rattle.frame_span.specs.declared.error.RenderError.TheVariants as render
use Rattle.project_json.specs.declared.error.ProjectError.{ProjectError}
use Rattle.project_json.specs.declared.error.ProjectError.TheVariants as project
use Rattle.frame_file.specs.declared.error.ClipError.{ClipError}
use Rattle.frame_file.specs.declared.error.ClipError.TheVariants as clip
use Rattle.frame_file.specs.declared.error.LoadError.{LoadError}
use Rattle.frame_file.specs.declared.error.LoadError.TheVariants as load
use Rattle.project_model.specs.declared.clip.ClipUse.{ClipUse}
use Rattle.host_run.specs.declared.input.ReadError.{ReadError}
use Rattle.host_run.specs.declared.input.ReadError.TheVariants as read
use Rattle.host_run.specs.declared.arguments.ArgumentsError.{ArgumentsError}
use Rattle.host_run.specs.declared.arguments.ArgumentsError.TheVariants as arguments
use Rattle.run_words.specs.declared.words.WordsError.{WordsError}
use Rattle.run_words.specs.declared.words.WordsError.TheVariants as words
use Rattle.host_run.specs.declared.notes.Ending.{Ending}
use Rattle.host_run.specs.declared.notes.Ending.TheVariants.{Words, NotJson, Rule, ClipMissing, ClipRefused, ClipFault, ReadFault, WriteFault, Memory, Span, ProjectTooLong}

abbrev pub status_of : Ending → Status
status_of Words = status.Words
status_of NotJson = status.Project
status_of (Rule number) = status.Project
status_of (ClipMissing name) = status.Clip
status_of (ClipRefused name why) = status.Clip
status_of (ClipFault name) = status.ClipFault
status_of ReadFault = status.ReadFault
status_of WriteFault = status.WriteFault
status_of Memory = status.Memory
status_of (Span from to count) = status.Span
status_of ProjectTooLong = status.ProjectTooLong

-- how the program ends without arguments
abbrev pub ending_of_arguments : ArgumentsError → Ending
ending_of_arguments arguments.NotText = Words
ending_of_arguments arguments.Memory = Memory

-- how a run ends after words, a read, a reading or a render that did not succeed
abbrev pub ending_of_words : WordsError → Ending
ending_of_words words.Refused = Words
ending_of_words words.Memory = Memory

abbrev pub ending_of_reading : ReadError → Ending
ending_of_reading read.Fault = ReadFault
ending_of_reading read.TooLong = ProjectTooLong
ending_of_reading read.Memory = Memory

abbrev pub ending_of_project : ProjectError → Ending
ending_of_project project.NotJson = NotJson
ending_of_project (project.Rule number comp layer) = Rule number
ending_of_project project.Memory = Memory

abbrev pub ending_of_rendering : RenderError → Ending
ending_of_rendering render.WriteFault = WriteFault
ending_of_rendering render.Memory = Memory

-- how it ends after a render
abbrev pub end_of_rendering : {T : Type 0} → Result T RenderError → Result (Unit {0}) Ending
end_of_rendering (Ok closed) = Ok tt
end_of_rendering (Err error) = Err (ending_of_rendering error)

abbrev pub ending_of_sink : SinkError → Ending
ending_of_sink sink.Failed = WriteFault
ending_of_sink sink.Memory = Memory

-- how a run ends where a generated project is refused
abbrev pub ending_of_check : CheckError → Ending
ending_of_check (check.RuleBroken rule comp layer) = Rule rule
ending_of_check check.Memory = Memory

-- the name of the clip of an index, empty where there is none
abbrev pub name_at : List ClipUse → ℕ → List ℕ
name_at clips index = option_map_or (λ declared. declared.name) (slice_get clips index) []

-- how a run ends where a clip's file is refused
abbrev pub ending_of_clip : List ℕ → ClipError → Ending
ending_of_clip name clip.Memory = Memory
ending_of_clip name why = ClipRefused name why

-- how a run ends where clips were not loaded
abbrev pub ending_of_loading : List ClipUse → LoadError → Ending
ending_of_loading clips (load.Fault index) = ClipFault (name_at clips index)
ending_of_loading clips (load.Missing index) = ClipMissing (name_at clips index)
ending_of_loading clips (load.Refused index why) = ending_of_clip (name_at clips index) why
ending_of_loading clips load.Memory = Memory

-- the clip that was not loaded is one of these
abbrev pub IsOneOf : List ClipUse → LoadError → Type 0
IsOneOf clips (load.Fault index) = index < length clips
IsOneOf clips (load.Missing index) = index < length clips
IsOneOf clips (load.Refused index why) = index < length clips
IsOneOf clips load.Memory = Unit {0}

-- a field of a clip's header by its number
abbrev pub field_name : ℕ → List ℕ
field_name field =
    if field == 0 then codes "width"
    else if field == 1 then codes "height"
    else if field == 2 then codes "depth"
    else if field == 3 then codes "value"
    else if field == 4 then codes "scale"
    else codes "count"

-- what refuses a clip's file
abbrev pub why_of : ClipError → List ℕ
why_of clip.BadMagic = codes "not an AFR file"
why_of (clip.BadHeader field) = codes "header " ++ field_name field
why_of (clip.Short have want) = codes "short " ++ decimal have ++ codes " of " ++ decimal want
why_of (clip.BadPixel frame index) = codes "pixel " ++ decimal index ++ codes " of frame " ++ decimal frame
why_of (clip.Trailing extra) = codes "trailing " ++ decimal extra
why_of clip.Memory = codes "out of memory"

-- the clip of that name, and what is the matter with it
abbrev pub reason_of_clip : List ℕ → List ℕ → List ℕ
reason_of_clip name why = codes "clip " ++ name ++ codes ": " ++ why

-- the line that says why, without the end of the line
abbrev pub reason_of : Ending → List ℕ
reason_of Words = codes "words refused"
reason_of NotJson = codes "project is not JSON"
reason_of (Rule number) = codes "project rule " ++ decimal number
reason_of (ClipMissing name) = reason_of_clip name (codes "missing")
reason_of (ClipRefused name why) = reason_of_clip name (why_of why)
reason_of (ClipFault name) = reason_of_clip name (codes "fault")
reason_of ReadFault = codes "read fault"
reason_of WriteFault = codes "write fault"
reason_of Memory = codes "out of memory"
reason_of (Span from to count) =
    codes "span " ++ decimal from ++ codes " to " ++ decimal to ++ codes " of " ++ decimal count ++ codes " frames"
reason_of ProjectTooLong = codes "project too long"

-- one line
abbrev pub line_of : List ℕ → List ℕ
line_of reason = codes "afhost: " ++ reason ++ 10 ∷ []

-- the note of an ending
abbrev pub note_of : Ending → List ℕ
note_of ending = line_of (reason_of ending)

-- the status and the note of a run, which has none where it ends well
abbrev pub status_of_end : Result (Unit {0}) Ending → Status
status_of_end (Ok done) = status.Ok
status_of_end (Err ending) = status_of ending

abbrev pub note_of_end : Result (Unit {0}) Ending → List ℕ
note_of_end (Ok done) = []
note_of_end (Err ending) = note_of ending
