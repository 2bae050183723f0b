-- Legal histories, an entry at a time.
use Rattle.std.proofs.Common.{◌≡◌, ℕ, List, [], ◌∷◌, ◌++◌, refl, sym, ◌∙◌, subst, append_assoc, append-nil}
use Rattle.std.specs.Prelude.{Option, Some, None, option_and_then}
use Rattle.cache_core.specs.Core.{Core, empty_core, step}
use Rattle.cache_core.specs.History.{run}
use Rattle.cache_core.specs.Laws.{Leaves}
use Rattle.cache_core.specs.declared.entry.Entry.{Entry}
use Rattle.cache_core.proofs.Runs.{replay-push}

module _ (P : List Entry → Core → Type 0) (budget : ℕ)
    (keeps : (es : List Entry) (core next : Core) (e : Entry) → Leaves budget es core → step core e ≡ Some next → P es core → P (es ++ e ∷ []) next) where
  keeps_from : (before es : List Entry) (core last : Core) → Leaves budget before core → run core es ≡ Some last → P before core → P (before ++ es) last
  keeps_from before [] core last leaves e h =
      let same : core ≡ last = cc in
      subst (λ l. P l last) (sym (append-nil before)) (subst (P before) same h)
  keeps_from before (x ∷ es) core last leaves e h = by (step core x) refl e (λ next. keeps_from (before ++ x ∷ []) es next last)
    where
      by : (o : Option Core) → step core x ≡ o → option_and_then (λ next. run next es) o ≡ Some last
          → ((next : Core) → Leaves budget (before ++ x ∷ []) next → run next es ≡ Some last → P (before ++ x ∷ []) next → P ((before ++ x ∷ []) ++ es) last)
          → P (before ++ (x ∷ es)) last
      by None s e rest = absurd (cc)
      by (Some next) s e rest =
          subst (λ l. P l last) (append_assoc before (x ∷ []) es)
          (rest next (replay-push budget core before x leaves ∙ s) e (keeps before core next x leaves s h))

  -- what holds before any entry, and of each legal history with an entry more, holds of all legal histories
  pub history_keeps : P [] (empty_core budget) → (history : List Entry) (core : Core) → Leaves budget history core → P history core
  history_keeps first history core leaves = keeps_from [] history (empty_core budget) core refl leaves first
