-- What the sources and sinks over memory hold.
use Rattle.std.specs.Prelude.{ℕ, ◌+◌, ◌≤◌, List, length, min}
use Rattle.std.specs.List.{All}
use Rattle.host_io.specs.Cause.{last_count}

-- a source over memory: the bytes left, the most that a call moves, the calls that fail, the calls and faults so far
pub record MemSourceState : Type 0 where
  pub left : List ℕ
  pub piece : ℕ
  pub fails : List ℕ
  pub calls : ℕ
  pub faults : ℕ

-- a source over memory that never fails
pub record NeverSourceState : Type 0 where
  pub left : List ℕ
  pub piece : ℕ

-- a sink over memory, likewise
pub record MemSinkState : Type 0 where
  pub written : List ℕ
  pub piece : ℕ
  pub fails : List ℕ
  pub calls : ℕ
  pub faults : ℕ

-- a sink over memory that never fails
pub record NeverSinkState : Type 0 where
  pub written : List ℕ
  pub piece : ℕ

-- one more, where a u64 has room for it
abbrev pub next_count : ℕ → ℕ
next_count n = min (n + 1) last_count

-- clips in memory, by name: the calls that fail, the calls and faults so far
pub record MemClipsState : Type 0 where
  pub clips : List (List ℕ × List ℕ)
  pub fails : List ℕ
  pub calls : ℕ
  pub faults : ℕ

-- clips in memory whose calls never fail
pub record NeverClipsState : Type 0 where
  pub clips : List (List ℕ × List ℕ)

-- clips in memory, each of which is said to be longer by so many bytes
pub record LyingClipsState : Type 0 where
  pub clips : List (List ℕ × List ℕ)
  pub more : ℕ

-- each length with these is a u64
abbrev pub HasRoom : ℕ → List (List ℕ × List ℕ) → Type 0
HasRoom more clips = All (λ entry. length entry.1 + more ≤ last_count) clips
