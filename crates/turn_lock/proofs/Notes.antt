-- Notes alone are a legal history, and leave a pass clear.
use Rattle.std.proofs.Common.{◌≡◌, ℕ, ◌+◌, Bool, true, false, cond, ◌&&◌, List, [], ◌∷◌, ◌++◌, refl, sym, ap, ◌∙◌, arith}
use Rattle.std.specs.Prelude.{Some, None, is_some, option_and_then, count_by}
use Rattle.std.proofs.lemmas.List.Sums.{sum_by-cons}
use Rattle.turn_lock.proofs.Lists.{bit}
use Rattle.cache_core.specs.Core.{Core, may_act, core_after, rows_after, step}
use Rattle.cache_core.specs.History.{run, IsLegal}
use Rattle.cache_core.specs.declared.entry.Entry.{Entry}
use Rattle.cache_core.specs.declared.entry.Act.TheVariants.{NotCached}
use Rattle.turn_lock.specs.Entries.{is_about, computes, computes_after, takes_hold, gives_back, IsClear}
use Rattle.turn_lock.specs.Notes.{AreNotes}

-- the core of notes alone has no rows
abbrev bare : ℕ → Core
bare count = record { budget = 0; count = count; rows = [] }

note_steps : (count : ℕ) (e : Entry) → e.act ≡ NotCached → step (bare count) e ≡ Some (bare (count + 1))
note_steps count e is =
    let may : may_act (bare count) e.pass e.class e.key e.act ≡ true = ap (may_act (bare count) e.pass e.class e.key) is in
    let rows : rows_after e.pass e.class e.key e.act [] ≡ [] = ap (λ act. rows_after e.pass e.class e.key act []) is in
    ap (λ b. cond b (Some (core_after (bare count) e)) None) may
    ∙ ap (λ r. Some (record { budget = 0; count = count + 1; rows = r })) rows

notes_run : (count : ℕ) (es : List Entry) → AreNotes es → is_some (run (bare count) es) ≡ true
notes_run count [] notes = refl
notes_run count (e ∷ es) notes = ap (λ o. is_some (option_and_then (λ next. run next es) o)) (note_steps count e notes.0) ∙ notes_run (count + 1) es notes.1

pub notes_legal : (es : List Entry) → AreNotes es → IsLegal 0 es
notes_legal es notes = notes_run 0 es notes

-- notes compute nothing and hold nothing
note_computes : (class key : ℕ) (e : Entry) → e.act ≡ NotCached → cond (is_about class key e) (computes_after false e.act) false ≡ false
note_computes class key e is = ap (λ act. cond (is_about class key e) (computes_after false act) false) is ∙ by (is_about class key e)
  where
    by : (b : Bool) → cond b false false ≡ false
    by true = refl
    by false = refl

notes_compute : (class key : ℕ) (es : List Entry) → AreNotes es → computes class key false es ≡ false
notes_compute class key [] notes = refl
notes_compute class key (e ∷ es) notes = ap (λ b. computes class key b es) (note_computes class key e notes.0) ∙ notes_compute class key es notes.1

none_count : (f : Entry → Bool) → ((e : Entry) → e.act ≡ NotCached → f e ≡ false) → (es : List Entry) → AreNotes es → count_by f es ≡ 0
none_count f fails [] notes = refl
none_count f fails (e ∷ es) notes =
    omega (arith, sum_by-cons (λ x. cond (f x) 1 0) e es, ap (λ b. bit b) (fails e notes.0), none_count f fails es notes.1)

pub notes_clear : (es : List Entry) → AreNotes es → IsClear es
notes_clear es notes = record {
  turns = λ class key. notes_compute class key es notes;
  holds = λ class key serial.
      none_count (λ e. is_about class key e && takes_hold serial e.act) (λ e is. ap (λ act. is_about class key e && takes_hold serial act) is ∙ and_none (is_about class key e)) es notes
      ∙ sym (none_count (λ e. is_about class key e && gives_back serial e.act) (λ e is. ap (λ act. is_about class key e && gives_back serial act) is ∙ and_none (is_about class key e)) es notes);
}
  where
    and_none : (b : Bool) → (b && false) ≡ false
    and_none true = refl
    and_none false = refl

pub notes_append : (es fs : List Entry) → AreNotes es → AreNotes fs → AreNotes (es ++ fs)
notes_append [] fs a b = b
notes_append (e ∷ es) fs a b = (a.0, notes_append es fs a.1 b)
