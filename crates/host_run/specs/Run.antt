-- How a run ended, and what it did with its source, its clips, its sink and its notes. In each, 'before' is as the run began.
use Rattle.std.specs.Prelude.{◌≡◌, ℕ, ◌<◌, ◌≤◌, ◌⊎◌, Option, Some, None, List, length, Bool, true, false, Result, Ok, Err, IsTrue}
use Rattle.std.specs.Io.KnownBytes.{Keeps, Appends, Consumes, IsAtEnd}
use Rattle.host_io.specs.Cause.{Rose, last_count}
use Rattle.host_io.specs.declared.status.Status.{Status}
use Rattle.host_io.specs.declared.status.Status.TheVariants as status
use Rattle.host_io.specs.Clips.{ClipMap}
use Rattle.project_model.specs.declared.plain.PlainProject.{PlainProject}
use Rattle.project_json.specs.Reading.{project_of}
use Rattle.frame_span.specs.Effects.{Effects}
use Rattle.host_run.specs.Ending.{status_of_end, note_of_end}
use Rattle.host_run.specs.Found.{Found, IsFoundIn, IsReached}
use Rattle.host_run.specs.Outcome.{outcome, end_of, output, mode_of, reads_source, IsAccepted, is_read_on}
use Rattle.frame_span.specs.Written.{AppendsFront}
use Rattle.run_words.specs.declared.settings.Settings.{Settings}
use Rattle.host_run.specs.declared.notes.Ending.{Ending}
use Rattle.host_run.specs.declared.notes.Ending.TheVariants.{ClipFault, ReadFault, WriteFault, Memory, ProjectTooLong}
use Rattle.host_run.specs.declared.input.TheConstants.{LONGEST_TEXT}

-- what was seen of an object: its bytes that are left or written, where it tells them, and its count of faults
pub record Seen : Type 0 where
  pub before : Option (List ℕ)
  pub now : Option (List ℕ)
  pub faults_before : ℕ
  pub faults_now : ℕ

-- by the meaning of its trait: its bytes and its count of faults, before and now
abbrev pub seen_of : {A : Type 0} → (A → Option (List ℕ)) → (A → ℕ) → A → A → Seen
seen_of bytes faults before now = record {
  before = bytes before;
  now = bytes now;
  faults_before = faults before;
  faults_now = faults now;
}

-- what was seen of a store of clips: its clips, where it tells them, and its count of faults
pub record SeenStore : Type 0 where
  pub clips : Option ClipMap
  pub clips_now : Option ClipMap
  pub faults_before : ℕ
  pub faults_now : ℕ

abbrev pub seen_store : {A : Type 0} → (A → Option ClipMap) → (A → ℕ) → A → A → SeenStore
seen_store clips faults before now = record {
  clips = clips before;
  clips_now = clips now;
  faults_before = faults before;
  faults_now = faults now;
}

-- its calls, as those of an object that tells no bytes
abbrev pub calls_of : SeenStore → Seen
calls_of store = record { before = None; now = None; faults_before = store.faults_before; faults_now = store.faults_now }

-- no fault was counted
abbrev pub WorksWell : Seen → Type 0
WorksWell seen = seen.faults_now ≡ seen.faults_before

-- one was
abbrev pub Fails : Seen → Type 0
Fails seen = Rose seen.faults_before seen.faults_now

-- nothing was done to the object
pub record IsUntouched (seen : Seen) : Type 0 where
  pub kept : Keeps seen.before seen.now
  pub works : WorksWell seen

-- nor to the store
pub record IsUntouchedStore (store : SeenStore) : Type 0 where
  pub kept : store.clips_now ≡ store.clips
  pub works : WorksWell (calls_of store)

-- A count of faults did not rise. At the count's end that cannot be told, and nothing is claimed.
pub record IsQuiet (seen : Seen) : Type 0 where
  pub same : seen.faults_now ≡ seen.faults_before
  pub below_end : seen.faults_before < last_count

-- The words are accepted, the bytes are read as a project that declares a clip of this name, and none of its clips before that one
-- is missing or refused.
pub record IsAsked (effects : Effects) (asked : Option Settings) (bytes : List ℕ) (found : Found) (name : List ℕ) : Type 0 where
  pub settings : Settings
  pub words : asked ≡ Some settings
  pub reads : IsTrue (reads_source settings.mode)
  pub short : length bytes ≤ LONGEST_TEXT
  pub project : PlainProject
  pub read : project_of effects.set.schemas bytes ≡ Ok project
  pub reached : IsReached found project.clips name

-- the words are accepted, and the run reads a source
abbrev pub is_reading : Option Settings → Bool
is_reading None = false
is_reading (Some settings) = reads_source settings.mode

-- The cause of the end: what the words, the bytes and the clips come to, or a fault that was counted, or want of memory. A source
-- is not read where the words are refused, nor past a text that is too long. A store's fault stands at a clip before which none is
-- missing or refused.
abbrev pub IsCaused : Effects → Option Settings → List ℕ → Found → Result (Unit {0}) Ending → Seen → SeenStore → Seen → Type 0
IsCaused effects asked bytes found (Err ReadFault) source store sink =
    IsTrue (is_reading asked) × IsTrue (is_read_on (outcome effects asked bytes found)) × Fails source × WorksWell (calls_of store) × WorksWell sink
IsCaused effects asked bytes found (Err (ClipFault name)) source store sink =
    IsAsked effects asked bytes found name × WorksWell source × Fails (calls_of store) × WorksWell sink
IsCaused effects asked bytes found (Err WriteFault) source store sink =
    IsAccepted (outcome effects asked bytes found) × WorksWell source × WorksWell (calls_of store) × Fails sink
IsCaused effects asked bytes found (Err Memory) source store sink = WorksWell source × WorksWell (calls_of store) × WorksWell sink
IsCaused effects asked bytes found end source store sink =
    (end ≡ end_of (outcome effects asked bytes found)) × WorksWell source × WorksWell (calls_of store) × WorksWell sink

-- what is left of a source that is read: nothing, but where it was not read to its end
abbrev pub LeavesRead : Result (Unit {0}) Ending → Seen → Type 0
LeavesRead (Err ReadFault) source = Unit {0}
LeavesRead (Err Memory) source = Unit {0}
LeavesRead (Err ProjectTooLong) source = Unit {0}
LeavesRead end source = IsAtEnd source.now

-- what is left of the source, which is all of it where it is not read
abbrev pub Leaves : Bool → Result (Unit {0}) Ending → Seen → Type 0
Leaves false end source = Keeps source.before source.now
Leaves true end source = LeavesRead end source

-- a source that is read was read to its end
abbrev pub IsReadOut : Bool → Seen → Type 0
IsReadOut false source = Unit {0}
IsReadOut true source = IsAtEnd source.now

-- a front of the output was written, and nothing before a source that is read was read to its end
pub record WritesFront (reading : Bool) (whole : List ℕ) (source sink : Seen) : Type 0 where
  pub read_out : IsReadOut reading source
  pub front : AppendsFront sink.before sink.now whole

-- what was written: the whole output, or a front of it where the sink or memory fails, or nothing
abbrev pub Writes : Bool → List ℕ → Result (Unit {0}) Ending → Seen → Seen → Type 0
Writes reading whole (Ok done) source sink = Appends sink.before sink.now whole
Writes reading whole (Err WriteFault) source sink = WritesFront reading whole source sink
Writes reading whole (Err Memory) source sink = Keeps sink.before sink.now ⊎ WritesFront reading whole source sink
Writes reading whole (Err ending) source sink = Keeps sink.before sink.now

-- A run that ends well says so, and writes no note. Else the note is a front of the end's line, and the whole line where the
-- notes did not fail; want of memory for it is what the run then ends with.
pub record IsNoted (end : Result (Unit {0}) Ending) (s : Status) (notes : Seen) : Type 0 where
  pub well : end ≡ Ok tt → s ≡ status.Ok
  pub told : (s ≡ status_of_end end) ⊎ (s ≡ status.Memory)
  pub front : AppendsFront notes.before notes.now (note_of_end end)
  pub whole : IsQuiet notes → (s ≡ status.Memory) ⊎ Appends notes.before notes.now (note_of_end end)

-- With these effects and settings, none where the words are refused: the bytes that the source handed out, what was found of the clips, which
-- are what they were, the cause of the end, and what follows from them.
pub record HasEnded (effects : Effects) (asked : Option Settings) (end : Result (Unit {0}) Ending) (source : Seen) (store : SeenStore) (sink : Seen) : Type 0 where
  pub bytes : List ℕ
  pub taken : Consumes source.before source.now bytes
  pub found : Found
  pub handed : IsFoundIn store.clips found
  pub kept : store.clips_now ≡ store.clips
  pub caused : IsCaused effects asked bytes found end source store sink
  pub left : Leaves (is_reading asked) end source
  pub written : Writes (is_reading asked) (output (mode_of asked) (outcome effects asked bytes found)) end source sink

-- a run ended so, and said it
pub record HasRun (effects : Effects) (asked : Option Settings) (s : Status) (source : Seen) (store : SeenStore) (sink notes : Seen) : Type 0 where
  pub end : Result (Unit {0}) Ending
  pub ended : HasEnded effects asked end source store sink
  pub noted : IsNoted end s notes
