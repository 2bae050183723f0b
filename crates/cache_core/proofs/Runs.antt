-- Histories, an entry more at the end, and what every step keeps.
use Rattle.std.proofs.Common.{◌≡◌, ℕ, ◌+◌, ◌<◌, Bool, true, false, cond, List, [], ◌∷◌, ◌++◌, length, take, get_or, refl, ap, ◌∙◌, subst}
use Rattle.std.specs.Prelude.{Option, Some, None, option_and_then, is_some}
use Rattle.std.proofs.lemmas.List.{take_more}
use Rattle.cache_core.specs.Core.{Core, empty_core, may_step, core_after, step}
use Rattle.cache_core.specs.History.{run, replay_of, IsFirstIllegal}
use Rattle.cache_core.specs.declared.entry.Entry.{Entry}

-- an entry that steps, and the core after it
pub record Steps (core : Core) (entry : Entry) (next : Core) : Type 0 where
  pub may : may_step core entry ≡ true
  pub after : next ≡ core_after core entry

pub steps_from : (core : Core) (entry : Entry) (next : Core) → step core entry ≡ Some next → Steps core entry next
steps_from core entry next e = by (may_step core entry) refl e
  where
    by : (b : Bool) → may_step core entry ≡ b → cond b (Some (core_after core entry)) None ≡ Some next → Steps core entry next
    by true may e = record { may = may; after = cc }
    by false may e = absurd (cc)

-- a run of entries and then more
pub run-append : (core : Core) (es fs : List Entry) → run core (es ++ fs) ≡ option_and_then (λ mid. run mid fs) (run core es)
run-append core [] fs = refl
run-append core (e ∷ es) fs = by (step core e) (λ next. run-append next es fs)
  where
    by : (o : Option Core) → ((next : Core) → run next (es ++ fs) ≡ option_and_then (λ mid. run mid fs) (run next es))
        → option_and_then (λ next. run next (es ++ fs)) o ≡ option_and_then (λ mid. run mid fs) (option_and_then (λ next. run next es) o)
    by None rest = refl
    by (Some next) rest = rest next

-- and then one more
pub run-push : (core mid : Core) (es : List Entry) (e : Entry) → run core es ≡ Some mid → run core (es ++ e ∷ []) ≡ step mid e
run-push core mid es e h = run-append core es (e ∷ []) ∙ ap (option_and_then (λ mid. run mid (e ∷ []))) h ∙ by (step mid e)
  where
    by : (o : Option Core) → option_and_then (λ next. Some next) o ≡ o
    by None = refl
    by (Some next) = refl

pub replay-push : (budget : ℕ) (mid : Core) (es : List Entry) (e : Entry) → replay_of budget es ≡ Some mid → replay_of budget (es ++ e ∷ []) ≡ step mid e
replay-push budget mid es e h = run-push (empty_core budget) mid es e h

-- the entries up to a place and the one there
pub replay-take_more : (budget : ℕ) (mid : Core) (es : List Entry) (at : ℕ) (e d : Entry) → at < length es → get_or es at d ≡ e → replay_of budget (take at es) ≡ Some mid → replay_of budget (take (at + 1) es) ≡ step mid e
replay-take_more budget mid es at e d within read h =
    ap (replay_of budget) (take_more es at d within) ∙ ap (λ x. replay_of budget (take at es ++ x ∷ [])) read ∙ replay-push budget mid (take at es) e h

-- the entry at a place is the first that does not step
pub first_illegal_from : (budget : ℕ) (mid : Core) (es : List Entry) (at : ℕ) (e d : Entry) → at < length es → get_or es at d ≡ e → replay_of budget (take at es) ≡ Some mid → step mid e ≡ None → IsFirstIllegal budget es at
first_illegal_from budget mid es at e d within read h stops = record {
  within = within;
  before = ap is_some h;
  stops = replay-take_more budget mid es at e d within read h ∙ stops;
}

-- what every step keeps, a run keeps
pub run_keeps : (P : Core → Type 0) → ((core : Core) (entry : Entry) (next : Core) → Steps core entry next → P core → P next)
    → (core : Core) (es : List Entry) (last : Core) → run core es ≡ Some last → P core → P last
run_keeps P keeps core [] last e h = let same : core ≡ last = cc in subst P same h
run_keeps P keeps core (entry ∷ es) last e h =
    by (step core entry) refl e (λ next. run_keeps P keeps next es last)
  where
    by : (o : Option Core) → step core entry ≡ o → option_and_then (λ next. run next es) o ≡ Some last → ((next : Core) → run next es ≡ Some last → P next → P last) → P last
    by None s e rest = absurd (cc)
    by (Some next) s e rest = rest next e (keeps core entry next (steps_from core entry next s) h)
