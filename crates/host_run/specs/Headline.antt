-- What a run that ends well has done.
use Rattle.std.specs.Prelude.{◌≡◌, ◌⊎◌, ℕ, List, Option, IfSome}
use Rattle.std.specs.Io.KnownBytes.{Consumes, IsAtEnd, Appends}
use Rattle.host_io.specs.declared.status.Status.{Status}
use Rattle.host_io.specs.declared.status.Status.TheVariants as status
use Rattle.host_run.specs.Ending.{status_of_end}
use Rattle.frame_span.specs.Effects.{Effects}
use Rattle.host_run.specs.Found.{Found, IsFoundIn}
use Rattle.host_run.specs.Outcome.{Outcome, accepted, outcome, end_of, mode_of, written_in, IsAccepted}
use Rattle.scene_meaning.specs.Shown.{PlainScene}
use Rattle.scene_meaning.specs.Output.{file}
use Rattle.host_run.specs.Run.{Seen, SeenStore, IsQuiet, IsReadOut, calls_of, is_reading}
use Rattle.run_words.specs.declared.settings.Settings.{Settings}

-- All bytes that the source had left were taken. With the effects, the settings and the clips that the store holds they come to a project and a
-- span of it, and the file of the frames of that span was appended to what the sink had, and nothing else.
pub record IsRendered (effects : Effects) (asked : Option Settings) (source : Seen) (store : SeenStore) (sink : Seen) : Type 0 where
  pub bytes : List ℕ
  pub found : Found
  pub scene : PlainScene
  pub from : ℕ
  pub to : ℕ
  pub taken : Consumes source.before source.now bytes
  pub ended : IsAtEnd source.now
  pub handed : IsFoundIn store.clips found
  pub read : outcome effects asked bytes found ≡ accepted scene from to
  pub appended : Appends sink.before sink.now (file scene from to)

-- The words, and where a source is read all bytes that it had left, come to a scene and a span of it, and what the mode writes of them
-- was appended to what the sink had, and nothing else.
pub record HasWritten (effects : Effects) (asked : Option Settings) (source : Seen) (store : SeenStore) (sink : Seen) : Type 0 where
  pub bytes : List ℕ
  pub found : Found
  pub scene : PlainScene
  pub from : ℕ
  pub to : ℕ
  pub taken : Consumes source.before source.now bytes
  pub ended : IsReadOut (is_reading asked) source
  pub handed : IsFoundIn store.clips found
  pub read : outcome effects asked bytes found ≡ accepted scene from to
  pub appended : Appends sink.before sink.now (written_in (mode_of asked) scene from to)

-- the status of the outcome, or want of memory; one that is accepted may still meet a sink that fails
abbrev pub Answers : Outcome → Status → Type 0
Answers o s = (s ≡ status_of_end (end_of o)) ⊎ (s ≡ status.Memory) ⊎ (IsAccepted o × (s ≡ status.WriteFault))

-- With what was found of the clips, the outcome of these bytes is the answer. Where it is accepted and no write failed, the run ends
-- well but for want of memory.
pub record IsAnswer (effects : Effects) (asked : Option Settings) (bytes : List ℕ) (s : Status) (store : SeenStore) (sink : Seen) : Type 0 where
  pub found : Found
  pub handed : IsFoundIn store.clips found
  pub answers : Answers (outcome effects asked bytes found) s
  pub complete : IsAccepted (outcome effects asked bytes found) → IsQuiet sink → (s ≡ status.Ok) ⊎ (s ≡ status.Memory)

-- where the source tells its bytes and no read and no call of the store failed, the outcome of all its bytes is the answer
abbrev pub IsAnswered : Effects → Option Settings → Status → Seen → SeenStore → Seen → Type 0
IsAnswered effects asked s source store sink =
    IfSome source.before (λ bytes. IsQuiet source → IsQuiet (calls_of store) → IsAnswer effects asked bytes s store sink)
