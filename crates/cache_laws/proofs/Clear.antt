-- What clear passes leave.
use Rattle.std.proofs.Common.{◌≡◌, ℕ, ◌+◌, Bool, true, false, cond, ◌||◌, List, [], ◌∷◌, refl, sym, ap, ap₂, ◌∙◌, subst, nat_eq, eqb-true, eq-eqb, arith}
use Rattle.std.specs.Prelude.{Option, Some, None, find, option_map, count_by}
use Rattle.std.specs.List.{AllByRecursion, list_any}
use Rattle.std.specs.Option.{option_map_or}
use Rattle.std.proofs.lemmas.Bool.{and_parts, or_parts}
use Rattle.std.proofs.lemmas.List.Sums.{sum_by-cons}
use Rattle.cache_core.specs.Rows.{state_of, is_running, is_idle, is_named, AreDistinct}
use Rattle.cache_core.specs.Core.{Core, is_in}
use Rattle.cache_core.specs.Laws.{Leaves}
use Rattle.cache_core.specs.declared.entry.Entry.{Entry}
use Rattle.cache_core.specs.declared.row.Row.{Row}
use Rattle.cache_core.specs.declared.row.State.{State}
use Rattle.cache_core.specs.declared.row.State.TheVariants.{Running, Live}
use Rattle.cache_core.proofs.Names.{is_named-own}
use Rattle.cache_core.proofs.Serials.{all-find}
use Rattle.cache_core.proofs.Distinct.{legal_rows_are_distinct}
use Rattle.turn_lock.specs.Entries.{entries_of, IsClear}
use Rattle.turn_lock.proofs.Lists.{bit}
use Rattle.cache_laws.specs.Passes.{holds_in, IsFree, ClearPassHasNoRow, ClearPassesLeaveIdleRows}
use Rattle.cache_laws.proofs.Holding.{holds_are_counted}
use Rattle.cache_laws.proofs.Running.{computes_is}

-- of distinct rows, each is that of its class and key
pub all_rows : (P : Row → Type 0) (rows : List Row) → AreDistinct rows
    → ((row : Row) → state_of row.class row.key rows ≡ Some row.state → P row) → AllByRecursion P rows
all_rows P [] distinct each = tt
all_rows P (r ∷ rs) distinct each = (
  each r (ap (λ b. option_map (λ row. row.state) (cond b (Some r) (find (is_named r.class r.key) rs))) (is_named-own r.class r.key r.state)),
  all_rows P rs distinct.1 (λ row there. each row (past row there (is_named row.class row.key r) refl)),
)
  where
    past : (row : Row) → state_of row.class row.key rs ≡ Some row.state → (b : Bool) → is_named row.class row.key r ≡ b
        → option_map (λ row. row.state) (cond b (Some r) (find (is_named row.class row.key) rs)) ≡ Some row.state
    past row there true named =
        let parts = and_parts (nat_eq r.class row.class) (nat_eq r.key row.key) named in
        let none : state_of row.class row.key rs ≡ None =
        ap₂ (λ c k. state_of c k rs) (sym (eqb-true r.class row.class parts.0)) (sym (eqb-true r.key row.key parts.1)) ∙ distinct.0 in
        absurd (cc (none, there))
    past row there false named = there

-- what holds of the state of each row, holds of that of a class and key
pub state_all : (P : State → Type 0) (class key : ℕ) (rows : List Row) (state : State) → AllByRecursion (λ row. P row.state) rows
    → state_of class key rows ≡ Some state → P state
state_all P class key rows state all e = by (find (is_named class key) rows) refl e
  where
    by : (o : Option Row) → find (is_named class key) rows ≡ o → option_map (λ row. row.state) o ≡ Some state → P state
    by None f e = absurd (cc)
    by (Some row) f e = let same : row.state ≡ state = cc in subst P same (all-find (λ row. P row.state) (is_named class key) rows row all f)

-- what a pass that is clear has of a row: it does not own it, and holds no value in it
record HasNone (pass : ℕ) (o : Option State) : Type 0 where
  pub not_owned : is_in (is_running pass) o ≡ false
  pub no_holds : (serial : ℕ) → option_map_or (holds_in pass serial) o 0 ≡ 0

clear_has_none : (budget : ℕ) (history : List Entry) (core : Core) → Leaves budget history core → (pass : ℕ) → IsClear (entries_of pass history)
    → (class key : ℕ) → HasNone pass (state_of class key core.rows)
clear_has_none budget history core leaves pass clear class key = record {
  not_owned = sym (computes_is budget history core leaves pass class key) ∙ clear.turns class key;
  no_holds = λ serial. omega (arith, holds_are_counted budget history core leaves pass class key serial, clear.holds class key serial);
}

none_has : {X : Type 0} (p : X → Bool) (xs : List X) → count_by p xs ≡ 0 → list_any p xs ≡ false
none_has p [] e = refl
none_has p (x ∷ xs) e = by (p x) (sum_by-cons (λ y. bit (p y)) x xs) (none_has p xs)
  where
    by : (b : Bool) → count_by p (x ∷ xs) ≡ bit b + count_by p xs → (count_by p xs ≡ 0 → list_any p xs ≡ false) → (b || list_any p xs) ≡ false
    by true c rest = absurd (omega (arith, c, e))
    by false c rest = rest (omega (arith, c, e))

none_counted : {X : Type 0} (p : X → Bool) (xs : List X) → list_any p xs ≡ false → count_by p xs ≡ 0
none_counted p [] e = refl
none_counted p (x ∷ xs) e =
    let parts = or_parts (p x) (list_any p xs) e in
    omega (arith, sum_by-cons (λ y. bit (p y)) x xs, ap bit parts.0, none_counted p xs parts.1)

own_serial : (serial n : ℕ) → cond (nat_eq serial serial) n 0 ≡ n
own_serial serial n = ap (λ b. cond b n 0) (eq-eqb serial serial refl)

free_from : (pass : ℕ) (state : State) → HasNone pass (Some state) → IsFree pass state
free_from pass (Running owner) has = record { not_owned = has.not_owned; not_held = refl }
free_from pass (Live serial size holders) has = record {
  not_owned = refl;
  not_held = none_has (nat_eq pass) holders (sym (own_serial serial (count_by (nat_eq pass) holders)) ∙ has.no_holds serial);
}

free_in : (pass : ℕ) (state : State) → IsFree pass state → HasNone pass (Some state)
free_in pass (Running owner) free = record { not_owned = free.not_owned; no_holds = λ serial. refl }
free_in pass (Live own size holders) free = record { not_owned = refl; no_holds = λ serial. by (nat_eq own serial) }
  where
    by : (b : Bool) → cond b (count_by (nat_eq pass) holders) 0 ≡ 0
    by true = none_counted (nat_eq pass) holders free.not_held
    by false = refl

free_clear : (budget : ℕ) (history : List Entry) (core : Core) → Leaves budget history core → (pass : ℕ)
    → AllByRecursion (λ row. IsFree pass row.state) core.rows → IsClear (entries_of pass history)
free_clear budget history core leaves pass all = record {
  turns = λ class key. computes_is budget history core leaves pass class key ∙ (here class key (state_of class key core.rows) refl).not_owned;
  holds = λ class key serial.
      omega (arith, holds_are_counted budget history core leaves pass class key serial, (here class key (state_of class key core.rows) refl).no_holds serial);
}
  where
    here : (class key : ℕ) (o : Option State) → state_of class key core.rows ≡ o → HasNone pass o
    here class key None is = record { not_owned = refl; no_holds = λ serial. refl }
    here class key (Some state) is = free_in pass state (state_all (IsFree pass) class key core.rows state all is)

pub clear_pass_has_no_row : ClearPassHasNoRow
clear_pass_has_no_row budget history core leaves pass = (
  λ clear. all_rows (λ row. IsFree pass row.state) core.rows (legal_rows_are_distinct budget history core leaves)
      (λ row there. free_from pass row.state (subst (HasNone pass) there (clear_has_none budget history core leaves pass clear row.class row.key))),
  λ all. free_clear budget history core leaves pass all,
)

-- a state that each pass is free of
idle_from : (state : State) → ((pass : ℕ) → IsFree pass state) → is_idle state ≡ true
idle_from (Running owner) free = absurd (let own = eq-eqb owner owner refl in let no = (free owner).not_owned in cc (own, no))
idle_from (Live serial size []) free = refl
idle_from (Live serial size (h ∷ hs)) free =
    absurd (let own = eq-eqb h h refl in let no = (or_parts (nat_eq h h) (list_any (nat_eq h) hs) (free h).not_held).0 in cc (own, no))

pub clear_passes_leave_idle_rows : ClearPassesLeaveIdleRows
clear_passes_leave_idle_rows budget history core leaves clear =
    all_rows (λ row. is_idle row.state ≡ true) core.rows (legal_rows_are_distinct budget history core leaves)
    (λ row there. idle_from row.state
    (λ pass. free_from pass row.state (subst (HasNone pass) there (clear_has_none budget history core leaves pass (clear pass) row.class row.key))))
