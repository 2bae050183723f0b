-- Beginnings of legal histories.
use Rattle.std.proofs.Common.{◌≡◌, ℕ, true, List, take, drop, ◌++◌, refl, sym, ap, ◌∙◌, take-append-drop}
use Rattle.std.specs.Prelude.{Option, Some, None, is_some, option_and_then}
use Rattle.cache_core.specs.Core.{Core, empty_core}
use Rattle.cache_core.specs.History.{run, replay_of, IsLegal}
use Rattle.cache_core.specs.Laws.{Leaves}
use Rattle.cache_core.specs.declared.entry.Entry.{Entry}
use Rattle.cache_core.proofs.Runs.{run-append}
use Rattle.cache_core.proofs.Distinct.{legal_rows_are_distinct}
use Rattle.cache_laws.specs.Passes.{SingleFlight}

-- what comes first in a legal history leaves a core
pub begin_leaves : (budget : ℕ) (es fs : List Entry) → IsLegal budget (es ++ fs) → (core : Core) × Leaves budget es core
begin_leaves budget es fs legal = by (replay_of budget es) refl (sym (ap is_some (run-append (empty_core budget) es fs)) ∙ legal)
  where
    by : (o : Option Core) → replay_of budget es ≡ o → is_some (option_and_then (λ mid. run mid fs) o) ≡ true → (core : Core) × Leaves budget es core
    by None is h = absurd (cc)
    by (Some core) is h = (core, is)

-- a legal history leaves one
pub legal_leaves : (budget : ℕ) (es : List Entry) → IsLegal budget es → (core : Core) × Leaves budget es core
legal_leaves budget es legal = by (replay_of budget es) refl legal
  where
    by : (o : Option Core) → replay_of budget es ≡ o → is_some o ≡ true → (core : Core) × Leaves budget es core
    by None is h = absurd (cc)
    by (Some core) is h = (core, is)

pub single_flight : SingleFlight
single_flight budget history legal n =
    let first = begin_leaves budget (take n history) (drop n history) (ap (λ l. is_some (replay_of budget l)) (take-append-drop n history) ∙ legal) in
    (first.0, first.1, legal_rows_are_distinct budget (take n history) first.0 first.1)
