-- A pass's own entries, an entry of the history more at the end.
use Rattle.std.proofs.Common.{◌≡◌, ℕ, ◌+◌, Bool, true, false, cond, ◌&&◌, List, [], ◌∷◌, ◌++◌, refl, ap, ◌∙◌, nat_eq, arith, append-nil}
use Rattle.std.specs.Prelude.{count_by}
use Rattle.std.proofs.lemmas.List.Sums.{sum_by_push}
use Rattle.cache_core.specs.declared.entry.Entry.{Entry}
use Rattle.turn_lock.specs.Entries.{entries_of, is_about, computes, computes_after}
use Rattle.turn_lock.proofs.Histories.{entries-append}
use Rattle.turn_lock.proofs.Lists.{bit}

-- how many pass a test
pub own_count : (test : Entry → Bool) (pass : ℕ) (es : List Entry) (e : Entry)
    → count_by test (entries_of pass (es ++ e ∷ [])) ≡ count_by test (entries_of pass es) + bit (nat_eq e.pass pass && test e)
own_count test pass es e = ap (count_by test) (entries-append pass es (e ∷ [])) ∙ by (nat_eq e.pass pass)
  where
    by : (own : Bool) → count_by test (entries_of pass es ++ cond own (e ∷ []) []) ≡ count_by test (entries_of pass es) + bit (own && test e)
    by true = sum_by_push (λ x. cond (test x) 1 0) (entries_of pass es) e
    by false = ap (count_by test) (append-nil (entries_of pass es)) ∙ omega arith

-- whether they compute, by those before and those after
pub computes-append : (class key : ℕ) (before : Bool) (es fs : List Entry) → computes class key before (es ++ fs) ≡ computes class key (computes class key before es) fs
computes-append class key before [] fs = refl
computes-append class key before (e ∷ es) fs = computes-append class key (cond (is_about class key e) (computes_after before e.act) before) es fs

pub own_computes : (class key pass : ℕ) (es : List Entry) (e : Entry)
    → computes class key false (entries_of pass (es ++ e ∷ []))
    ≡ cond (nat_eq e.pass pass && is_about class key e) (computes_after (computes class key false (entries_of pass es)) e.act) (computes class key false (entries_of pass es))
own_computes class key pass es e = ap (computes class key false) (entries-append pass es (e ∷ [])) ∙ by (nat_eq e.pass pass)
  where
    by : (own : Bool) → computes class key false (entries_of pass es ++ cond own (e ∷ []) [])
        ≡ cond (own && is_about class key e) (computes_after (computes class key false (entries_of pass es)) e.act) (computes class key false (entries_of pass es))
    by true = computes-append class key false (entries_of pass es) (e ∷ [])
    by false = ap (computes class key false) (append-nil (entries_of pass es))
