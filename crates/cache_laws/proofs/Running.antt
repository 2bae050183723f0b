-- A pass computes a value exactly where the row is Running with it.
use Rattle.std.proofs.Common.{◌≡◌, ℕ, Bool, true, false, cond, ◌&&◌, List, [], ◌∷◌, ◌++◌, refl, sym, ap, ◌∙◌, subst, nat_eq}
use Rattle.std.specs.Prelude.{Option, Some}
use Rattle.cache_core.specs.Rows.{state_of, is_running}
use Rattle.cache_core.specs.Core.{Core, is_in}
use Rattle.cache_core.specs.Laws.{Leaves}
use Rattle.cache_core.specs.declared.entry.Entry.{Entry}
use Rattle.cache_core.specs.declared.entry.Act.{Act}
use Rattle.cache_core.specs.declared.entry.Act.TheVariants.{Start, Hit, Pending, NotCached, Finish, Abandon, Give, Evict}
use Rattle.cache_core.specs.declared.row.State.{State}
use Rattle.cache_core.specs.declared.row.State.TheVariants.{Running}
use Rattle.turn_lock.specs.Entries.{entries_of, is_about, computes, computes_after}
use Rattle.cache_laws.specs.Passes.{TurnsAreRunning}
use Rattle.cache_laws.proofs.Histories.{history_keeps}
use Rattle.cache_laws.proofs.Own.{own_computes}
use Rattle.cache_laws.proofs.States.{state_after, Finds, Moves, moves, finds_running}

-- whether a pass owns the row
abbrev owns : ℕ → Option State → Bool
owns pass o = is_in (is_running pass) o

-- an act that steps begins and ends just the turns of its own pass
abbrev Turns : ℕ → ℕ → Act → Option State → Type 0
Turns pass owner act o = cond (nat_eq owner pass) (computes_after (owns pass o) act) (owns pass o) ≡ owns pass (state_after owner act o)

both : (b x : Bool) → cond b x x ≡ x
both true x = refl
both false x = refl

turn : (b : Bool) → cond b true false ≡ b
turn true = refl
turn false = refl

ended : (b : Bool) → cond b false b ≡ false
ended true = refl
ended false = refl

turns : (pass owner : ℕ) (act : Act) (o : Option State) → Finds owner act o → Turns pass owner act o
turns pass owner Start o found = subst (Turns pass owner Start) (sym found) (turn (nat_eq owner pass))
turns pass owner (Hit serial) o found = subst (Turns pass owner (Hit serial)) (sym found.2) (both (nat_eq owner pass) false)
turns pass owner (Pending other) o found = both (nat_eq owner pass) (owns pass o)
turns pass owner NotCached o found = both (nat_eq owner pass) (owns pass o)
turns pass owner (Finish serial size) o found = subst (Turns pass owner (Finish serial size)) (sym found) (ended (nat_eq owner pass))
turns pass owner Abandon o found = subst (Turns pass owner Abandon) (sym found) (ended (nat_eq owner pass))
turns pass owner (Give serial) o found = subst (Turns pass owner (Give serial)) (sym found.2) (both (nat_eq owner pass) false)
turns pass owner (Evict serial) o found = subst (Turns pass owner (Evict serial)) (sym found.1) (both (nat_eq owner pass) false)

-- what is kept of a history
abbrev pub Computes : ℕ → ℕ → ℕ → List Entry → Core → Type 0
Computes pass class key history core = computes class key false (entries_of pass history) ≡ is_in (is_running pass) (state_of class key core.rows)

computes_step : (pass class key : ℕ) (es : List Entry) (core next : Core) (e : Entry) → Moves class key core next e
    → Computes pass class key es core → Computes pass class key (es ++ e ∷ []) next
computes_step pass class key es core next e m h =
    own_computes class key pass es e
    ∙ ap (λ b. cond (nat_eq e.pass pass && is_about class key e) (computes_after b e.act) b) h
    ∙ by (is_about class key e) m.own ∙ sym (ap (owns pass) m.after)
  where
    none : (b x : Bool) (y : Bool) → cond (b && false) x y ≡ y
    none true x y = refl
    none false x y = refl

    own : (b x y : Bool) → cond (b && true) x y ≡ cond b x y
    own true x y = refl
    own false x y = refl

    by : (b : Bool) → (b ≡ true → Finds e.pass e.act (state_of class key core.rows))
        → cond (nat_eq e.pass pass && b) (computes_after (owns pass (state_of class key core.rows)) e.act) (owns pass (state_of class key core.rows))
        ≡ owns pass (cond b (state_after e.pass e.act (state_of class key core.rows)) (state_of class key core.rows))
    by true found = own (nat_eq e.pass pass) _ _ ∙ turns pass e.pass e.act (state_of class key core.rows) (found refl)
    by false found = none (nat_eq e.pass pass) _ _

-- as one equation
pub computes_is : (budget : ℕ) (history : List Entry) (core : Core) → Leaves budget history core → (pass class key : ℕ) → Computes pass class key history core
computes_is budget history core leaves pass class key =
    history_keeps (Computes pass class key) budget
    (λ es core next e leaves s h. computes_step pass class key es core next e (moves budget es core next e leaves s class key) h)
    refl history core leaves

pub turns_are_running : TurnsAreRunning
turns_are_running budget history core leaves pass class key =
    let same = computes_is budget history core leaves pass class key in
    (λ h. sym same ∙ h, λ h. same ∙ h)

-- the row of a turn
pub turn_has_row : (budget : ℕ) (history : List Entry) (core : Core) → Leaves budget history core → (pass class key : ℕ)
    → computes class key false (entries_of pass history) ≡ true → state_of class key core.rows ≡ Some (Running pass)
turn_has_row budget history core leaves pass class key turn =
    finds_running pass (state_of class key core.rows) (sym (computes_is budget history core leaves pass class key) ∙ turn)
