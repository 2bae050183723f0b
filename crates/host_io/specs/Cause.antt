-- When an object of the outside may say that it failed. Its count of faults is a u64, which stays at its end.
use Rattle.std.specs.Prelude.{◌≡◌, ℕ, ◌+◌, ◌-◌, ◌^◌, ◌≤◌, min, Result, Ok, Err, OnOk, OnErr}
use Rattle.host_io.specs.declared.cause.SinkError.{SinkError}
use Rattle.host_io.specs.declared.cause.SinkError.TheVariants.{Failed, Memory}

-- the last count that a u64 holds
abbrev pub last_count : ℕ
last_count = 2 ^ 64 - 1

-- the count rose, or it stood at its end
abbrev pub Rose : ℕ → ℕ → Type 0
Rose before now = min (before + 1) last_count ≤ now

-- A read that failed raised the count, unless that stood at its end, and any other left it.
pub record HasCause {T E : Type 0} (before now : ℕ) (result : Result T E) : Type 0 where
  pub later : before ≤ now
  pub failed : OnErr result (Rose before now)
  pub kept : OnOk result (now ≡ before)

-- what a write makes of the count: want of memory is no fault
abbrev pub CountsFailure : {T : Type 0} → Result T SinkError → ℕ → ℕ → Type 0
CountsFailure (Ok taken) before now = now ≡ before
CountsFailure (Err Failed) before now = Rose before now
CountsFailure (Err Memory) before now = now ≡ before

-- the same of a write, which may also want memory
pub record HasWriteCause {T : Type 0} (before now : ℕ) (result : Result T SinkError) : Type 0 where
  pub later : before ≤ now
  pub counted : CountsFailure result before now
