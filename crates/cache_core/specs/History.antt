-- Histories: lists of entries, and the core that they leave.
use Rattle.std.specs.Prelude.{ℕ, ◌≡◌, ◌+◌, ◌^◌, ◌<◌, List, [], ◌∷◌, Option, Some, None, IsSome, option_and_then, length, take}
use Rattle.cache_core.specs.Core.{Core, empty_core, step}
use Rattle.cache_core.specs.declared.entry.Entry.{Entry}

-- a history in the program has fewer entries than this
abbrev pub history_limit : ℕ
history_limit = 2 ^ 62

-- the core after entries, each of which steps from what those before it leave
abbrev pub run : Core → List Entry → Option Core
run core [] = Some core
run core (entry ∷ entries) = option_and_then (λ next. run next entries) (step core entry)

-- the core that a history leaves, from no rows
abbrev pub replay_of : ℕ → List Entry → Option Core
replay_of budget entries = run (empty_core budget) entries

-- each entry of the history steps
abbrev pub IsLegal : ℕ → List Entry → Type 0
IsLegal budget entries = IsSome (replay_of budget entries)

-- the entries before `at` step, and the one there does not
pub record IsFirstIllegal (budget : ℕ) (entries : List Entry) (at : ℕ) : Type 0 where
  pub within : at < length entries
  pub before : IsLegal budget (take at entries)
  pub stops : replay_of budget (take (at + 1) entries) ≡ None
