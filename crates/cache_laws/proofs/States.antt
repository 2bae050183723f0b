-- The state of the row of a class and key, after an entry.
use Rattle.std.proofs.Common.{◌≡◌, ℕ, Bool, true, false, cond, ◌&&◌, List, [], ◌∷◌, ◌++◌, refl, sym, ap, ap₂, ◌∙◌, subst, nat_eq, eqb-true}
use Rattle.std.specs.Prelude.{Option, Some, None, is_none, find, not, option_map}
use Rattle.std.specs.List.{list_any}
use Rattle.std.specs.Option.{option_map_or}
use Rattle.std.proofs.lemmas.Bool.{and_parts}
use Rattle.cache_core.specs.Holds.{without_first}
use Rattle.cache_core.specs.Rows.{is_running, is_live, is_held_by, held_by, released_by, is_named, state_of, without, row_in, touched, AreDistinct}
use Rattle.cache_core.specs.Core.{Core, is_settled, is_in, fits, may_act, rows_after, step}
use Rattle.cache_core.specs.Laws.{Leaves}
use Rattle.cache_core.specs.declared.entry.Entry.{Entry}
use Rattle.cache_core.specs.declared.entry.Act.{Act}
use Rattle.cache_core.specs.declared.entry.Act.TheVariants.{Start, Hit, Pending, NotCached, Finish, Abandon, Give, Evict}
use Rattle.cache_core.specs.declared.row.Row.{Row}
use Rattle.cache_core.specs.declared.row.State.{State}
use Rattle.cache_core.specs.declared.row.State.TheVariants.{Running, Live}
use Rattle.cache_core.proofs.Names.{is_named-own, find_none, state_none, find-without_own}
use Rattle.cache_core.proofs.Runs.{steps_from}
use Rattle.cache_core.proofs.Distinct.{legal_rows_are_distinct}
use Rattle.cache_core.proofs.Evicting.{held_is_not_evicted}
use Rattle.turn_lock.specs.Entries.{is_about}

-- the state of the row of an entry's class and key, after its act
abbrev pub state_after : ℕ → Act → Option State → Option State
state_after pass Start state = Some (Running pass)
state_after pass (Hit serial) state = option_map (held_by pass) state
state_after pass (Pending owner) state = state
state_after pass NotCached state = state
state_after pass (Finish serial size) state = option_map (λ _. Live serial size (pass ∷ [])) state
state_after pass Abandon state = None
state_after pass (Give serial) state = option_map (released_by pass) state
state_after pass (Evict serial) state = None

-- what an act that steps finds there
abbrev pub Finds : ℕ → Act → Option State → Type 0
Finds pass Start state = state ≡ None
Finds pass (Hit serial) state = (size : ℕ) × (holders : List ℕ) × (state ≡ Some (Live serial size holders))
Finds pass (Pending owner) state = state ≡ Some (Running owner)
Finds pass NotCached state = state ≡ None
Finds pass (Finish serial size) state = state ≡ Some (Running pass)
Finds pass Abandon state = state ≡ Some (Running pass)
Finds pass (Give serial) state =
    (size : ℕ) × (holders : List ℕ) × (state ≡ Some (Live serial size holders)) × (list_any (nat_eq pass) holders ≡ true)
Finds pass (Evict serial) state = (size : ℕ) × (state ≡ Some (Live serial size []))

finds_none : (o : Option State) → is_none o ≡ true → o ≡ None
finds_none None h = refl
finds_none (Some state) h = absurd (cc)

pub finds_running : (owner : ℕ) (o : Option State) → is_in (is_running owner) o ≡ true → o ≡ Some (Running owner)
finds_running owner None h = absurd (cc)
finds_running owner (Some (Running own)) h = ap (λ n. Some (Running n)) (eqb-true own owner h)
finds_running owner (Some (Live serial size holders)) h = absurd (cc)

finds_live : (serial : ℕ) (o : Option State) → is_in (is_live serial) o ≡ true → (size : ℕ) × (holders : List ℕ) × (o ≡ Some (Live serial size holders))
finds_live serial None h = absurd (cc)
finds_live serial (Some (Running own)) h = absurd (cc)
finds_live serial (Some (Live own size holders)) h = (size, holders, ap (λ n. Some (Live n size holders)) (eqb-true own serial h))

finds_fit : (count pass : ℕ) (act : Act) (o : Option State) → fits pass count act o ≡ true → Finds pass act o
finds_fit count pass Start o h = finds_none o h
finds_fit count pass (Hit serial) o h = finds_live serial o h
finds_fit count pass (Pending owner) o h = finds_running owner o (and_parts (is_in (is_running owner) o) (not (nat_eq owner pass)) h).0
finds_fit count pass NotCached o h = finds_none o h
finds_fit count pass (Finish serial size) o h = finds_running pass o (and_parts (is_in (is_running pass) o) (nat_eq serial count) h).0
finds_fit count pass Abandon o h = finds_running pass o h
finds_fit count pass (Give serial) o h =
    let parts = and_parts (is_in (is_live serial) o) (is_in (is_held_by pass) o) h in
    let live = finds_live serial o parts.0 in
    (live.0, live.1, live.2, ap (is_in (is_held_by pass)) (sym live.2) ∙ parts.1)
finds_fit count pass (Evict serial) o h = absurd (cc)

-- an entry that steps finds what its act wants
pub finds : (budget : ℕ) (es : List Entry) (core next : Core) (e : Entry) → Leaves budget es core → step core e ≡ Some next
    → Finds e.pass e.act (state_of e.class e.key core.rows)
finds budget es core next e leaves s = by e.act refl
  where
    may : (act : Act) → e.act ≡ act → may_act core e.pass e.class e.key act ≡ true
    may act is = ap (may_act core e.pass e.class e.key) (sym is) ∙ (steps_from core e next s).may

    fit : (act : Act) → (is_settled core.budget core.rows && fits e.pass core.count act (state_of e.class e.key core.rows)) ≡ true → Finds e.pass act (state_of e.class e.key core.rows)
    fit act h = finds_fit core.count e.pass act (state_of e.class e.key core.rows)
        (and_parts (is_settled core.budget core.rows) (fits e.pass core.count act (state_of e.class e.key core.rows)) h).1

    by : (act : Act) → e.act ≡ act → Finds e.pass act (state_of e.class e.key core.rows)
    by Start is = fit Start (may Start is)
    by (Hit serial) is = fit (Hit serial) (may (Hit serial) is)
    by (Pending owner) is = fit (Pending owner) (may (Pending owner) is)
    by NotCached is = fit NotCached (may NotCached is)
    by (Finish serial size) is = fit (Finish serial size) (may (Finish serial size) is)
    by Abandon is = fit Abandon (may Abandon is)
    by (Give serial) is = fit (Give serial) (may (Give serial) is)
    by (Evict serial) is = held_is_not_evicted budget es core next e serial leaves s is

-- an item more, at the end
find-push_miss : {X : Type 0} (p : X → Bool) (xs : List X) (x : X) → p x ≡ false → find p (xs ++ x ∷ []) ≡ find p xs
find-push_miss p [] x miss = ap (λ b. cond b (Some x) None) miss
find-push_miss p (y ∷ xs) x miss = ap (cond (p y) (Some y)) (find-push_miss p xs x miss)

find-push_hit : {X : Type 0} (p : X → Bool) (xs : List X) (x : X) → find p xs ≡ None → p x ≡ true → find p (xs ++ x ∷ []) ≡ Some x
find-push_hit p [] x none hit = ap (λ b. cond b (Some x) None) hit
find-push_hit p (y ∷ xs) x none hit = by (p y) none (find-push_hit p xs x)
  where
    by : (b : Bool) → cond b (Some y) (find p xs) ≡ None → (find p xs ≡ None → p x ≡ true → find p (xs ++ x ∷ []) ≡ Some x) → cond b (Some y) (find p (xs ++ x ∷ [])) ≡ Some x
    by true none rest = absurd (cc)
    by false none rest = rest none hit

-- an item that fails the test is taken out
find-without_other : {X : Type 0} (p q : X → Bool) → ((x : X) → q x ≡ true → p x ≡ false) → (xs : List X) → find p (without_first q xs) ≡ find p xs
find-without_other p q other [] = refl
find-without_other p q other (x ∷ xs) = by (q x) refl (find-without_other p q other xs)
  where
    by : (b : Bool) → q x ≡ b → find p (without_first q xs) ≡ find p xs → find p (cond b xs (x ∷ without_first q xs)) ≡ cond (p x) (Some x) (find p xs)
    by true hit rest = sym (ap (λ b. cond b (Some x) (find p xs)) (other x hit))
    by false miss rest = ap (cond (p x) (Some x)) rest

-- a row of one class and key is of no other
named_other : (class key c k : ℕ) → (nat_eq c class && nat_eq k key) ≡ false → (row : Row) → is_named c k row ≡ true → is_named class key row ≡ false
named_other class key c k differs row named =
    let parts = and_parts (nat_eq row.class c) (nat_eq row.key k) named in
    ap₂ (λ a b. nat_eq a class && nat_eq b key) (eqb-true row.class c parts.0) (eqb-true row.key k parts.1) ∙ differs

abbrev other_names : ℕ → ℕ → ℕ → ℕ → Type 0
other_names class key c k = (nat_eq c class && nat_eq k key) ≡ false

push_other : (class key c k : ℕ) (state : State) (rows : List Row) → other_names class key c k → state_of class key (rows ++ row_in c k state ∷ []) ≡ state_of class key rows
push_other class key c k state rows differs = ap (option_map (λ row. row.state)) (find-push_miss (is_named class key) rows (row_in c k state) differs)

without_other : (class key c k : ℕ) (rows : List Row) → other_names class key c k → state_of class key (without c k rows) ≡ state_of class key rows
without_other class key c k rows differs =
    ap (option_map (λ row. row.state)) (find-without_other (is_named class key) (is_named c k) (named_other class key c k differs) rows)

touched_other : (class key c k : ℕ) (change : State → State) (rows : List Row) → other_names class key c k → state_of class key (touched c k change rows) ≡ state_of class key rows
touched_other class key c k change rows differs = by (state_of c k rows)
  where
    by : (o : Option State) → state_of class key (option_map_or (λ state. without c k rows ++ row_in c k (change state) ∷ []) o rows) ≡ state_of class key rows
    by None = refl
    by (Some state) = push_other class key c k (change state) (without c k rows) differs ∙ without_other class key c k rows differs

-- an act on another class and key leaves the state
after_other : (class key pass c k : ℕ) (act : Act) (rows : List Row) → other_names class key c k → state_of class key (rows_after pass c k act rows) ≡ state_of class key rows
after_other class key pass c k Start rows differs = push_other class key c k (Running pass) rows differs
after_other class key pass c k (Hit serial) rows differs = touched_other class key c k (held_by pass) rows differs
after_other class key pass c k (Pending owner) rows differs = refl
after_other class key pass c k NotCached rows differs = refl
after_other class key pass c k (Finish serial size) rows differs = touched_other class key c k (λ _. Live serial size (pass ∷ [])) rows differs
after_other class key pass c k Abandon rows differs = without_other class key c k rows differs
after_other class key pass c k (Give serial) rows differs = touched_other class key c k (released_by pass) rows differs
after_other class key pass c k (Evict serial) rows differs = without_other class key c k rows differs

push_own : (class key : ℕ) (state : State) (rows : List Row) → find (is_named class key) rows ≡ None → state_of class key (rows ++ row_in class key state ∷ []) ≡ Some state
push_own class key state rows none =
    ap (option_map (λ row. row.state)) (find-push_hit (is_named class key) rows (row_in class key state) none (is_named-own class key state))

without_own : (class key : ℕ) (rows : List Row) → AreDistinct rows → state_of class key (without class key rows) ≡ None
without_own class key rows distinct = state_none class key (without class key rows) (find-without_own class key rows distinct)

touched_own : (class key : ℕ) (change : State → State) (rows : List Row) → AreDistinct rows → state_of class key (touched class key change rows) ≡ option_map change (state_of class key rows)
touched_own class key change rows distinct = by (state_of class key rows) refl
  where
    by : (o : Option State) → state_of class key rows ≡ o → state_of class key (option_map_or (λ state. without class key rows ++ row_in class key (change state) ∷ []) o rows) ≡ option_map change o
    by None is = is
    by (Some state) is = push_own class key (change state) (without class key rows) (find-without_own class key rows distinct)

after_own : (class key pass : ℕ) (act : Act) (rows : List Row) → AreDistinct rows → Finds pass act (state_of class key rows)
    → state_of class key (rows_after pass class key act rows) ≡ state_after pass act (state_of class key rows)
after_own class key pass Start rows distinct found = push_own class key (Running pass) rows (find_none class key rows found)
after_own class key pass (Hit serial) rows distinct found = touched_own class key (held_by pass) rows distinct
after_own class key pass (Pending owner) rows distinct found = refl
after_own class key pass NotCached rows distinct found = refl
after_own class key pass (Finish serial size) rows distinct found = touched_own class key (λ _. Live serial size (pass ∷ [])) rows distinct
after_own class key pass Abandon rows distinct found = without_own class key rows distinct
after_own class key pass (Give serial) rows distinct found = touched_own class key (released_by pass) rows distinct
after_own class key pass (Evict serial) rows distinct found = without_own class key rows distinct

-- what an entry that steps finds and leaves, of a class and key: where it is about them, what its act finds and leaves,
-- and else the same
pub record Moves (class key : ℕ) (core next : Core) (e : Entry) : Type 0 where
  pub own : is_about class key e ≡ true → Finds e.pass e.act (state_of class key core.rows)
  pub after : state_of class key next.rows ≡ cond (is_about class key e) (state_after e.pass e.act (state_of class key core.rows)) (state_of class key core.rows)

pub moves : (budget : ℕ) (es : List Entry) (core next : Core) (e : Entry) → Leaves budget es core → step core e ≡ Some next
    → (class key : ℕ) → Moves class key core next e
moves budget es core next e leaves s class key = record { own = own; after = by (is_about class key e) refl }
  where
    rows : next.rows ≡ rows_after e.pass e.class e.key e.act core.rows
    rows = ap (λ c. c.rows) (steps_from core e next s).after

    names : is_about class key e ≡ true → (e.class ≡ class) × (e.key ≡ key)
    names about =
        let parts = and_parts (nat_eq e.class class) (nat_eq e.key key) about in
        (eqb-true e.class class parts.0, eqb-true e.key key parts.1)

    own : is_about class key e ≡ true → Finds e.pass e.act (state_of class key core.rows)
    own about =
        subst (λ k. Finds e.pass e.act (state_of class k core.rows)) (names about).1
        (subst (λ c. Finds e.pass e.act (state_of c e.key core.rows)) (names about).0 (finds budget es core next e leaves s))

    by : (b : Bool) → is_about class key e ≡ b → state_of class key next.rows ≡ cond b (state_after e.pass e.act (state_of class key core.rows)) (state_of class key core.rows)
    by true about =
        ap (state_of class key) rows
        ∙ ap₂ (λ c k. state_of class key (rows_after e.pass c k e.act core.rows)) (names about).0 (names about).1
        ∙ after_own class key e.pass e.act core.rows (legal_rows_are_distinct budget es core leaves) (own about)
    by false other = ap (state_of class key) rows ∙ after_other class key e.pass e.class e.key e.act core.rows other
