-- What reading a source to its end says.
use Rattle.std.specs.Prelude.{◌≡◌, ℕ, List, ◌++◌, ◌<◌, ◌≤◌, length, Option, Result, Ok, Err}
use Rattle.std.specs.Io.KnownBytes.{Consumes}
use Rattle.host_io.specs.Cause.{Rose}
use Rattle.host_run.specs.declared.input.ReadError.{ReadError}
use Rattle.host_run.specs.declared.input.ReadError.TheVariants.{Fault, TooLong, Memory}
use Rattle.host_run.specs.declared.input.TheConstants.{LONGEST_TEXT}

-- the count of faults rose, or stood at its end, where the answer is a fault, and stayed elsewhere
abbrev pub CountsFault : {T : Type 0} → Result T ReadError → ℕ → ℕ → Type 0
CountsFault (Ok bytes) before now = now ≡ before
CountsFault (Err Fault) before now = Rose before now
CountsFault (Err TooLong) before now = now ≡ before
CountsFault (Err Memory) before now = now ≡ before

-- some bytes were taken from what was left, and no other
abbrev pub TakesSome : Option (List ℕ) → Option (List ℕ) → Type 0
TakesSome before now = (bytes : List ℕ) × Consumes before now bytes

-- so many bytes were taken from what was left, and stand behind those that were read before
abbrev pub AddsRead : ℕ → Option (List ℕ) → Option (List ℕ) → List ℕ → List ℕ → Type 0
AddsRead count before now old new = (bytes : List ℕ) × (length bytes ≡ count) × Consumes before now bytes × (new ≡ old ++ bytes)

-- More bytes than a text may have were taken.
pub record IsTooLong (before now : Option (List ℕ)) : Type 0 where
  pub bytes : List ℕ
  pub taken : Consumes before now bytes
  pub more : LONGEST_TEXT < length bytes

-- No more bytes than a text may have were taken.
pub record IsShort (before now : Option (List ℕ)) : Type 0 where
  pub bytes : List ℕ
  pub taken : Consumes before now bytes
  pub bound : length bytes ≤ LONGEST_TEXT
