-- What an entry makes of a ledger.
use Rattle.std.proofs.Common.{◌≡◌, ℕ, zero, suc, ◌+◌, ◌^◌, ◌≤◌, Bool, true, false, cond, List, [], ◌∷◌, ◌++◌, length, set, refl, sym, ap, ap₂, ◌∙◌, subst₂, arith, length-append, eqb-true, nat_eq, ◌||◌, not, ◌-◌, subst, one-add, ltb, lt-ltb}
use Rattle.std.specs.Prelude.{Option, Some, None, map, position, remove, slice_get, option_map, sum_by, find}
use Rattle.std.specs.Option.{option_map_or}
use Rattle.std.specs.List.{list_any, position_or_len, AllByRecursion}
use Rattle.std.proofs.lemmas.Bool.{and_parts}
use Rattle.std.proofs.lemmas.List.Quantifiers.{position-Some}
use Rattle.cache_core.specs.Holds.{without_one}
use Rattle.cache_core.specs.declared.row.State.TheVariants.{Running, Live}
use Rattle.cache_core.proofs.Names.{find_none, find-cons_none, is_named-own, is_named-sym}
use Rattle.std.proofs.lemmas.List.Sums.{sum_by-append, sum_by-remove, sum_by-cons}
use Rattle.std.proofs.lemmas.Option.{get_or_from_slice_get, slice_get_within}
use Rattle.cache_core.specs.Rows.{state_of, is_named, row_in, without, touched, size_of, is_running, is_idle, is_held_by, held_by, released_by, first_idle, AreDistinct}
use Rattle.cache_core.specs.Core.{may_step, core_after, rows_after}
use Rattle.cache_core.specs.History.{replay_of}
use Rattle.cache_core.specs.declared.entry.Entry.{Entry}
use Rattle.cache_core.specs.declared.row.Row.{Row}
use Rattle.cache_core.specs.declared.row.State.{State}
use Rattle.cache_core.proofs.Firsts.{place_from_position}
use Rattle.cache_core.proofs.Runs.{replay-push}
use Rattle.cache_core.proofs.Touching.{remove-set}
use Rattle.cache_table.specs.Kept.{Kept, is_kept, is_kept_idle, changed_at, moved_last, with_state, touched_kept, without_kept}
use Rattle.cache_table.specs.Cache.{needs, need_of, is_any_live, IsValued, IsKept}
use Rattle.cache_table.specs.Ledger.{core_from, sizes, HasRoom, IsLedger}
use Rattle.cache_table.proofs.Slotted.{position-map, slice_get-map, remove-map, map-append, some_from, some_at, length-map}

slice_get-set : {X : Type 0} (xs : List X) (i : ℕ) (x y : X) → slice_get xs i ≡ Some x → slice_get (set xs i y) i ≡ Some y
slice_get-set [] i x y at = absurd (cc)
slice_get-set (z ∷ xs) zero x y at = refl
slice_get-set (z ∷ xs) (suc i) x y at = slice_get-set xs i x y at

pub sum-last : {X : Type 0} (f : X → ℕ) (xs : List X) (x : X) → sum_by f (xs ++ x ∷ []) ≡ sum_by f xs + f x
sum-last f xs x = omega (arith, sum_by-append f xs (x ∷ []), sum_by-cons f x [])

pub sum-removed : {X : Type 0} (f : X → ℕ) (xs : List X) (i : ℕ) (x : X) → slice_get xs i ≡ Some x → sum_by f (remove xs i) + f x ≡ sum_by f xs
sum-removed f xs i x at = ap (λ y. sum_by f (remove xs i) + f y) (sym (get_or_from_slice_get xs i x x at)) ∙ sum_by-remove f xs i x (slice_get_within xs i x at)

pub sum-touched : {X : Type 0} (f : X → ℕ) (xs : List X) (i : ℕ) (x y : X) → slice_get xs i ≡ Some x → sum_by f (remove xs i ++ y ∷ []) + f x ≡ sum_by f xs + f y
sum-touched f xs i x y at = omega (arith, sum-last f (remove xs i) y, sum-removed f xs i x at)

-- a fact of all items
pub all-at : {X : Type 0} (P : X → Type 0) (xs : List X) (i : ℕ) (x : X) → AllByRecursion P xs → slice_get xs i ≡ Some x → P x
all-at P [] i x all at = absurd (cc)
all-at P (y ∷ xs) zero x all at = let same : y ≡ x = cc in subst P same all.0
all-at P (y ∷ xs) (suc i) x all at = all-at P xs i x all.1 at

pub all-last : {X : Type 0} (P : X → Type 0) (xs : List X) (x : X) → AllByRecursion P xs → P x → AllByRecursion P (xs ++ x ∷ [])
all-last P [] x all is = (is, tt)
all-last P (y ∷ xs) x all is = (all.0, all-last P xs x all.1 is)

pub all-remove : {X : Type 0} (P : X → Type 0) (xs : List X) (i : ℕ) → AllByRecursion P xs → AllByRecursion P (remove xs i)
all-remove P [] zero all = tt
all-remove P [] (suc i) all = tt
all-remove P (y ∷ xs) zero all = all.1
all-remove P (y ∷ xs) (suc i) all = (all.0, all-remove P xs i all.1)

module _ {V : Type 0} where
  -- a hold more or less leaves a row its value
  pub held_valued : (pass : ℕ) (k : Kept V) → IsValued k → IsValued (with_state (held_by pass) k)
  held_valued pass k is = by k.row.state ∙ is
    where
      by : (state : State) → is_any_live (held_by pass state) ≡ is_any_live state
      by (Running owner) = refl
      by (Live serial size holders) = refl

  pub released_valued : (pass : ℕ) (k : Kept V) → IsValued k → IsValued (with_state (released_by pass) k)
  released_valued pass k is = by k.row.state ∙ is
    where
      by : (state : State) → is_any_live (released_by pass state) ≡ is_any_live state
      by (Running owner) = refl
      by (Live serial size holders) = refl

  -- a row that is changed and moved last
  pub touched_last : (change : Kept V → Kept V) (rows : List (Kept V)) (i : ℕ) (k : Kept V) → slice_get rows i ≡ Some k → moved_last i (changed_at change i rows) ≡ remove rows i ++ change k ∷ []
  touched_last change rows i k at =
      let written : changed_at change i rows ≡ set rows i (change k) = ap (λ o. option_map_or (λ k. set rows i (change k)) o rows) at in
      ap (moved_last i) written
      ∙ ap (λ o. option_map_or (λ l. remove (set rows i (change k)) i ++ l ∷ []) o (set rows i (change k))) (slice_get-set rows i k (change k) at)
      ∙ ap (λ l. l ++ change k ∷ []) (remove-set rows i (change k))

  pub record IsAt (class key : ℕ) (rows : List (Kept V)) (i : ℕ) (k : Kept V) : Type 0 where
    pub place : position (is_kept class key) rows ≡ Some i
    pub item : slice_get rows i ≡ Some k

  found : (class key : ℕ) (rows : List (Kept V)) (i : ℕ) (k : Kept V) → IsAt class key rows i k → find (is_named class key) (map (λ kept. kept.row) rows) ≡ Some k.row
  found class key rows i k at =
      let place = place_from_position (is_named class key) (map (λ kept. kept.row) rows) i (position-map (λ (kept : Kept V). kept.row) (is_named class key) (is_kept class key) (λ kept. refl) rows ∙ at.place) in
      place.found ∙ slice_get-map (λ (kept : Kept V). kept.row) rows i ∙ ap (option_map (λ (kept : Kept V). kept.row)) at.item

  -- the rows without the row of a class and key, and with it changed and last
  pub without_at : (class key : ℕ) (rows : List (Kept V)) (i : ℕ) → position (is_kept class key) rows ≡ Some i → remove rows i ≡ without_kept class key rows
  without_at class key rows i place = sym (place_from_position (is_kept class key) rows i place).rest

  pub touched_at : (class key : ℕ) (change : Kept V → Kept V) (rows : List (Kept V)) (i : ℕ) (k : Kept V) → IsAt class key rows i k → moved_last i (changed_at change i rows) ≡ touched_kept class key change rows
  touched_at class key change rows i k at =
      let place = place_from_position (is_kept class key) rows i at.place in
      touched_last change rows i k at.item
      ∙ ap (λ l. l ++ change k ∷ []) (without_at class key rows i at.place)
      ∙ sym (ap (λ o. option_map_or (λ kept. without_kept class key rows ++ change kept ∷ []) o rows) (place.found ∙ at.item))

  -- the state of the row of a class and key
  pub state_found : (class key : ℕ) (rows : List (Kept V)) (i : ℕ) (k : Kept V) → IsAt class key rows i k → state_of class key (map (λ kept. kept.row) rows) ≡ Some k.row.state
  state_found class key rows i k at = ap (option_map (λ row. row.state)) (found class key rows i k at)

  pub rows-removed : (class key : ℕ) (rows : List (Kept V)) (i : ℕ) (k : Kept V) → IsAt class key rows i k → map (λ kept. kept.row) (remove rows i) ≡ without class key (map (λ kept. kept.row) rows)
  rows-removed class key rows i k at =
      let place = place_from_position (is_named class key) (map (λ kept. kept.row) rows) i (position-map (λ (kept : Kept V). kept.row) (is_named class key) (is_kept class key) (λ kept. refl) rows ∙ at.place) in
      sym (remove-map (λ (kept : Kept V). kept.row) rows i) ∙ sym place.rest

  pub rows-touched : (class key : ℕ) (change : State → State) (rows : List (Kept V)) (i : ℕ) (k new : Kept V) → IsAt class key rows i k → new.row ≡ row_in class key (change k.row.state)
      → map (λ kept. kept.row) (remove rows i ++ new ∷ []) ≡ touched class key change (map (λ kept. kept.row) rows)
  rows-touched class key change rows i k new at is =
      let plain = map (λ kept. kept.row) rows in
      map-append (λ (kept : Kept V). kept.row) (remove rows i) (new ∷ [])
      ∙ ap₂ (λ a b. a ++ b ∷ []) (rows-removed class key rows i k at) is
      ∙ sym (ap (λ o. option_map_or (λ state. without class key plain ++ row_in class key (change state) ∷ []) o plain) (state_found class key rows i k at))

  -- a legal history with one entry more that steps
  pub legal_more : (budget : ℕ) (history : List Entry) (rows new : List (Kept V)) (entry : Entry)
      → replay_of budget history ≡ Some (core_from budget history rows)
      → may_step (core_from budget history rows) entry ≡ true
      → map (λ kept. kept.row) new ≡ rows_after entry.pass entry.class entry.key entry.act (map (λ kept. kept.row) rows)
      → replay_of budget (history ++ entry ∷ []) ≡ Some (core_from budget (history ++ entry ∷ []) new)
  legal_more budget history rows new entry legal may after =
      let count : length history + 1 ≡ length (history ++ entry ∷ []) = omega (arith, length-append history (entry ∷ [])) in
      replay-push budget (core_from budget history rows) history entry legal
      ∙ ap (λ b. cond b (Some (core_after (core_from budget history rows) entry)) None) may
      ∙ ap₂ (λ n l. Some (record { budget = budget; count = n; rows = l })) count (sym after)

  -- a ledger with one entry more, whose rows, sums and room are given
  pub ledger_more : (budget : ℕ) (history history' : List Entry) (rows rows' new : List (Kept V)) (live owed len capacity live' owed' len' capacity' : ℕ) (entry : Entry)
      → IsLedger budget history rows live owed len capacity
      → may_step (core_from budget history rows) entry ≡ true
      → map (λ kept. kept.row) new ≡ rows_after entry.pass entry.class entry.key entry.act (map (λ kept. kept.row) rows)
      → live' ≡ sizes new → live' ≤ live + 2 ^ 32 → owed' ≡ needs new → AllByRecursion IsValued new → len' ≡ len + 1 → HasRoom (len' + owed') capacity'
      → history' ≡ history ++ entry ∷ [] → rows' ≡ new
      → IsLedger budget history' rows' live' owed' len' capacity'
  ledger_more budget history history' rows rows' new live owed len capacity live' owed' len' capacity' entry ledger may after live_is small owed_is valued len_is room h r =
      let count : length (history ++ entry ∷ []) ≡ length history + 1 = omega (arith, length-append history (entry ∷ [])) in
      let more : IsLedger budget (history ++ entry ∷ []) new live' owed' len' capacity' = record {
        legal = legal_more budget history rows new entry ledger.legal may after;
        live_is = live_is;
        small = omega (arith, count, ledger.small, small);
        owed_is = owed_is;
        valued = valued;
        len_is = omega (arith, count, ledger.len_is, len_is);
        room = room;
      } in
      subst₂ (λ a b. IsLedger budget a b live' owed' len' capacity') (sym h) (sym r) more

-- an item that a test is known of
pub item_from : {X Y : Type 0} (f : X → Y) (xs : List X) (i : ℕ) (y : Y) → option_map f (slice_get xs i) ≡ Some y → (x : X) × (slice_get xs i ≡ Some x) × (f x ≡ y)
item_from {X = X} {Y = Y} f xs i y e = by (slice_get xs i) refl e
  where
    by : (o : Option X) → slice_get xs i ≡ o → option_map f o ≡ Some y → (x : X) × (slice_get xs i ≡ Some x) × (f x ≡ y)
    by None at e = absurd (cc)
    by (Some x) at e = (x, at, some_from e)

-- what is known of the item at a place
pub same_item : {X Y : Type 0} (f : X → Y) (xs : List X) (i : ℕ) (x : X) (y : Y) → slice_get xs i ≡ Some x → option_map f (slice_get xs i) ≡ Some y → f x ≡ y
same_item f xs i x y at e = some_from (sym (ap (option_map f) at) ∙ e)

-- room for no more entries, in no less
pub room_in : (n m capacity capacity' : ℕ) → HasRoom n capacity → m ≤ n → capacity ≤ capacity' → HasRoom m capacity'
room_in n m capacity capacity' room less more = record { few = omega (arith, room.few, less); within = omega (arith, room.within, less, more) }

-- what an invariant shows
pub kept_from : {V : Type 0} (budget : ℕ) (history : List Entry) (rows : List (Kept V)) (live owed len capacity : ℕ) → IsLedger budget history rows live owed len capacity
    → IsKept (record { budget = budget; history = history; rows = rows; spare = capacity - len })
kept_from budget history rows live owed len capacity ledger = record {
  legal = ledger.legal;
  few = omega (arith, ledger.room.few, ledger.len_is);
  valued = ledger.valued;
  room = omega (arith, ledger.owed_is, ledger.room.within);
}

module _ {V : Type 0} where
  -- the class and key of the row at a place
  pub named_at : (class key : ℕ) (rows : List (Kept V)) (i : ℕ) (k : Kept V) → IsAt class key rows i k → (k.row.class ≡ class) × (k.row.key ≡ key)
  named_at class key rows i k at =
      let passes = (position-Some (is_kept class key) rows i k at.place).1 in
      let named : is_named class key k.row ≡ true = sym (ap (is_kept class key) (get_or_from_slice_get rows i k k at.item)) ∙ passes in
      let parts = and_parts (nat_eq k.row.class class) (nat_eq k.row.key key) named in
      (eqb-true k.row.class class parts.0, eqb-true k.row.key key parts.1)

  pub row_in_at : (class key : ℕ) (rows : List (Kept V)) (i : ℕ) (k : Kept V) (state : State) → IsAt class key rows i k → row_in k.row.class k.row.key state ≡ row_in class key state
  row_in_at class key rows i k state at = let names = named_at class key rows i k at in ap₂ (λ a b. row_in a b state) names.0 names.1

  -- a row needs no more than all rows, nor is it larger
  pub need_within : (rows : List (Kept V)) (i : ℕ) (k : Kept V) → slice_get rows i ≡ Some k → need_of k.row.state ≤ needs rows
  need_within rows i k at = omega (arith, sum-removed (λ (kept : Kept V). need_of kept.row.state) rows i k at)

  pub size_within : (rows : List (Kept V)) (i : ℕ) (k : Kept V) → slice_get rows i ≡ Some k → size_of k.row.state ≤ sizes rows
  size_within rows i k at = omega (arith, sum-removed (λ (kept : Kept V). size_of kept.row.state) rows i k at)

  -- a ledger in which a row was changed and went last
  pub ledger_touched : (budget : ℕ) (history history' : List Entry) (rows rows' : List (Kept V)) (live owed len capacity live' owed' len' capacity' : ℕ) (entry : Entry)
      (i : ℕ) (k : Kept V) (change : Kept V → Kept V) (g : State → State)
      → IsLedger budget history rows live owed len capacity
      → IsAt entry.class entry.key rows i k
      → may_step (core_from budget history rows) entry ≡ true
      → rows_after entry.pass entry.class entry.key entry.act (map (λ kept. kept.row) rows) ≡ touched entry.class entry.key g (map (λ kept. kept.row) rows)
      → (change k).row ≡ row_in entry.class entry.key (g k.row.state)
      → live' + size_of k.row.state ≡ live + size_of (change k).row.state → live' ≤ live + 2 ^ 32
      → owed' + need_of k.row.state ≡ owed + need_of (change k).row.state
      → (IsValued k → IsValued (change k))
      → len' ≡ len + 1 → HasRoom (len' + owed') capacity'
      → history' ≡ history ++ entry ∷ [] → rows' ≡ moved_last i (changed_at change i rows)
      → IsLedger budget history' rows' live' owed' len' capacity'
  ledger_touched budget history history' rows rows' live owed len capacity live' owed' len' capacity' entry i k change g ledger at may after is live_is small owed_is valued len_is room h r =
      ledger_more budget history history' rows rows' (remove rows i ++ change k ∷ []) live owed len capacity live' owed' len' capacity' entry ledger may
      (rows-touched entry.class entry.key g rows i k (change k) at is ∙ sym after)
      (omega (arith, live_is, ledger.live_is, sum-touched (λ (kept : Kept V). size_of kept.row.state) rows i k (change k) at.item)) small
      (omega (arith, owed_is, ledger.owed_is, sum-touched (λ (kept : Kept V). need_of kept.row.state) rows i k (change k) at.item))
      (all-last IsValued (remove rows i) (change k) (all-remove IsValued rows i ledger.valued) (valued (all-at IsValued rows i k ledger.valued at.item))) len_is room h
      (r ∙ touched_last change rows i k at.item)

  -- a ledger in which a row went
  pub ledger_removed : (budget : ℕ) (history history' : List Entry) (rows rows' : List (Kept V)) (live owed len capacity live' owed' len' capacity' : ℕ) (entry : Entry)
      (i : ℕ) (k : Kept V)
      → IsLedger budget history rows live owed len capacity
      → IsAt entry.class entry.key rows i k
      → may_step (core_from budget history rows) entry ≡ true
      → rows_after entry.pass entry.class entry.key entry.act (map (λ kept. kept.row) rows) ≡ without entry.class entry.key (map (λ kept. kept.row) rows)
      → live' + size_of k.row.state ≡ live
      → owed' + need_of k.row.state ≡ owed
      → len' ≡ len + 1 → HasRoom (len' + owed') capacity'
      → history' ≡ history ++ entry ∷ [] → rows' ≡ remove rows i
      → IsLedger budget history' rows' live' owed' len' capacity'
  ledger_removed budget history history' rows rows' live owed len capacity live' owed' len' capacity' entry i k ledger at may after live_is owed_is len_is room h r =
      ledger_more budget history history' rows rows' (remove rows i) live owed len capacity live' owed' len' capacity' entry ledger may
      (rows-removed entry.class entry.key rows i k at ∙ sym after)
      (omega (arith, live_is, ledger.live_is, sum-removed (λ (kept : Kept V). size_of kept.row.state) rows i k at.item)) (omega (arith, live_is))
      (omega (arith, owed_is, ledger.owed_is, sum-removed (λ (kept : Kept V). need_of kept.row.state) rows i k at.item)) (all-remove IsValued rows i ledger.valued) len_is room h r

-- a state of each kind
pub running_is : (pass : ℕ) (state : State) → is_running pass state ≡ true → (need_of state ≡ 3) × (size_of state ≡ 0)
running_is pass (Running owner) e = (refl, refl)
running_is pass (Live serial size holders) e = absurd (cc)

pub held_is : (pass : ℕ) (state : State) → is_any_live state ≡ true → (size_of (held_by pass state) ≡ size_of state) × (need_of (held_by pass state) ≡ need_of state + 1)
held_is pass (Running owner) e = absurd (cc)
held_is pass (Live serial size holders) e = (refl, omega (arith, length-append holders (pass ∷ [])))

length-without_one : (pass : ℕ) (holders : List ℕ) → list_any (nat_eq pass) holders ≡ true → length (without_one pass holders) + 1 ≡ length holders
length-without_one pass [] e = absurd (cc)
length-without_one pass (h ∷ hs) e = by (nat_eq pass h) e (length-without_one pass hs)
  where
    by : (b : Bool) → (b || list_any (nat_eq pass) hs) ≡ true → (list_any (nat_eq pass) hs ≡ true → length (without_one pass hs) + 1 ≡ length hs) → length (cond b hs (h ∷ without_one pass hs)) + 1 ≡ suc (length hs)
    by true e rest = omega arith
    by false e rest = omega (arith, rest e)

pub released_is : (pass : ℕ) (state : State) → is_held_by pass state ≡ true → (size_of (released_by pass state) ≡ size_of state) × (need_of (released_by pass state) + 1 ≡ need_of state)
released_is pass (Running owner) e = absurd (cc)
released_is pass (Live serial size holders) e = (refl, omega (arith, length-without_one pass holders e))

pub idle_is : (state : State) → is_idle state ≡ true → (need_of state ≡ 1) × (is_any_live state ≡ true)
idle_is (Running owner) e = absurd (cc)
idle_is (Live serial size holders) e = (omega (arith, eqb-true (length holders) 0 e), refl)

pub need_positive : (state : State) → 1 ≤ need_of state
need_positive (Running owner) = omega arith
need_positive (Live serial size holders) = omega arith

-- of distinct rows, the row at a place is the first of its class and key
first_named : (rows : List Row) (i : ℕ) (row : Row) → AreDistinct rows → slice_get rows i ≡ Some row → position_or_len (is_named row.class row.key) rows ≡ i
first_named [] i row d at = absurd (cc)
first_named (x ∷ rows) zero row d at =
    let same : x ≡ row = some_from at in
    ap (λ b. cond (not b) (1 + position_or_len (is_named row.class row.key) rows) 0) (ap (is_named row.class row.key) same ∙ is_named-own row.class row.key row.state)
first_named (x ∷ rows) (suc i) row d at =
    let miss : is_named x.class x.key row ≡ false = missed (is_named x.class x.key) rows i row (find_none x.class x.key rows d.0) at in
    ap (λ b. cond (not b) (1 + position_or_len (is_named row.class row.key) rows) 0) (is_named-sym row x ∙ miss)
    ∙ ap (λ n. 1 + n) (first_named rows i row d.1 at) ∙ one-add i
  where
    missed : (p : Row → Bool) (xs : List Row) (i : ℕ) (x : Row) → find p xs ≡ None → slice_get xs i ≡ Some x → p x ≡ false
    missed p [] i x none at = absurd (cc)
    missed p (y ∷ xs) zero x none at = let same : y ≡ x = some_from at in ap p (sym same) ∙ (find-cons_none p y xs none).0
    missed p (y ∷ xs) (suc i) x none at = missed p xs i x (find-cons_none p y xs none).1 at

pub own_place : {V : Type 0} (rows : List (Kept V)) (i : ℕ) (k : Kept V) → AreDistinct (map (λ kept. kept.row) rows) → slice_get rows i ≡ Some k → IsAt k.row.class k.row.key rows i k
own_place {V = V} rows i k d at =
    let plain = map (λ (kept : Kept V). kept.row) rows in
    let there : slice_get plain i ≡ Some k.row = slice_get-map (λ (kept : Kept V). kept.row) rows i ∙ ap (option_map (λ (kept : Kept V). kept.row)) at in
    let first = first_named plain i k.row d there in
    record {
      place = sym (position-map (λ (kept : Kept V). kept.row) (is_named k.row.class k.row.key) (is_kept k.row.class k.row.key) (λ kept. refl) rows)
          ∙ ap (λ n. cond (ltb n (length plain)) (Some n) None) first ∙ ap (λ b. cond b (Some i) None) (lt-ltb i (length plain) (slice_get_within plain i k.row there));
      item = at;
    }

-- the first idle row, by its place
pub idle_place : {V : Type 0} (rows : List (Kept V)) (i : ℕ) → position is_kept_idle rows ≡ Some i → (k : Kept V) × (slice_get rows i ≡ Some k) × (is_idle k.row.state ≡ true) × (first_idle (map (λ kept. kept.row) rows) ≡ Some k.row)
idle_place {V = V} rows i at =
    let plain = map (λ (kept : Kept V). kept.row) rows in
    let place = place_from_position (λ (row : Row). is_idle row.state) plain i (position-map (λ (kept : Kept V). kept.row) (λ (row : Row). is_idle row.state) is_kept_idle (λ kept. refl) rows ∙ at) in
    let item = some_at rows i (omega (arith, place.within, length-map (λ (kept : Kept V). kept.row) rows)) in
    let k = item.0 in (
      k,
      item.1,
      sym (ap is_kept_idle (get_or_from_slice_get rows i k k item.1)) ∙ (position-Some is_kept_idle rows i k at).1,
      place.found ∙ slice_get-map (λ (kept : Kept V). kept.row) rows i ∙ ap (option_map (λ (kept : Kept V). kept.row)) item.1,
    )

-- a test of what is known of an item
pub through : {X Y Z : Type 0} (g : Y → Z) (f : X → Y) (o : Option X) (y : Y) (z : Z) → option_map f o ≡ Some y → g y ≡ z → option_map (λ x. g (f x)) o ≡ Some z
through g f None y z e h = absurd (cc)
through g f (Some x) y z e h = ap Some (ap g (some_from e) ∙ h)
