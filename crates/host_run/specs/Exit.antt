-- The code that the program ends with.
use Rattle.std.specs.Prelude.{◌≡◌, ℕ, Option, Err}
use Rattle.host_io.specs.Status.{number_of}
use Rattle.host_io.specs.declared.status.Status.{Status}
use Rattle.frame_span.specs.Effects.{Effects}
use Rattle.host_run.specs.Run.{Seen, SeenStore, IsUntouched, IsUntouchedStore, IsNoted, HasRun}
use Rattle.host_run.specs.declared.notes.Ending.{Ending}
use Rattle.run_words.specs.declared.settings.Settings.{Settings}

-- it is the number of the status of a run with these settings, none where the words are refused
pub record HasExited (effects : Effects) (asked : Option Settings) (code : ℕ) (source : Seen) (store : SeenStore) (sink notes : Seen) : Type 0 where
  pub status : Status
  pub code_is : code ≡ number_of status
  pub run : HasRun effects asked status source store sink notes

-- nothing was read and nothing written but the note that says so, or a front of it
pub record HasRefused (end : Ending) (code : ℕ) (source : Seen) (store : SeenStore) (sink notes : Seen) : Type 0 where
  pub status : Status
  pub code_is : code ≡ number_of status
  pub noted : IsNoted (Err end) status notes
  pub source_left : IsUntouched source
  pub store_left : IsUntouchedStore store
  pub sink_left : IsUntouched sink
