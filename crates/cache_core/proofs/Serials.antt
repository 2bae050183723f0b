-- Counts and serials of legal histories.
use Rattle.std.proofs.Common.{◌≡◌, ℕ, ◌+◌, ◌<◌, ◌≤◌, Bool, true, false, cond, ◌&&◌, List, [], ◌∷◌, ◌++◌, length, refl, sym, ap, ◌∙◌, subst, arith, eqb-true, nat_eq, zero-add}
use Rattle.std.specs.Prelude.{Option, Some, None, find, not, option_map, option_and_then}
use Rattle.std.specs.List.{AllByRecursion}
use Rattle.std.specs.Option.{option_map_or}
use Rattle.std.proofs.lemmas.Bool.{and_parts}
use Rattle.cache_core.specs.Holds.{without_first}
use Rattle.cache_core.specs.Rows.{is_live, is_running, is_held_by, state_of, is_named, row_in, held_by, released_by, touched, without, first_idle}
use Rattle.cache_core.specs.Core.{Core, is_settled, is_next_out, is_in, may_act, rows_after, empty_core, step}
use Rattle.cache_core.specs.History.{run}
use Rattle.cache_core.specs.Laws.{LegalCounts, StateIsBelow, ActIsBelow, SerialsAreBelow, LegalSerialsAreBelow}
use Rattle.cache_core.specs.declared.entry.Entry.{Entry}
use Rattle.cache_core.specs.declared.entry.Act.{Act}
use Rattle.cache_core.specs.declared.entry.Act.TheVariants.{Start, Hit, Pending, NotCached, Finish, Abandon, Give, Evict}
use Rattle.cache_core.specs.declared.row.Row.{Row}
use Rattle.cache_core.specs.declared.row.State.{State}
use Rattle.cache_core.specs.declared.row.State.TheVariants.{Running, Live}
use Rattle.cache_core.proofs.Runs.{steps_from}

-- the budget stays and the count rises by one for each entry
counts : (core last : Core) (es : List Entry) → run core es ≡ Some last → (last.budget ≡ core.budget) × (last.count ≡ core.count + length es)
counts core last [] e = let same : core ≡ last = cc in (ap (λ c. c.budget) (sym same), ap (λ c. c.count) (sym same) ∙ omega arith)
counts core last (entry ∷ es) e = by (step core entry) refl e (λ next. counts next last es)
  where
    by : (o : Option Core) → step core entry ≡ o → option_and_then (λ next. run next es) o ≡ Some last
        → ((next : Core) → run next es ≡ Some last → (last.budget ≡ next.budget) × (last.count ≡ next.count + length es))
        → (last.budget ≡ core.budget) × (last.count ≡ core.count + length (entry ∷ es))
    by None s e rest = absurd (cc)
    by (Some next) s e rest =
        let after = (steps_from core entry next s).after in
        let more = rest next e in
        let one : next.count ≡ core.count + 1 = ap (λ c. c.count) after in
        (more.0 ∙ ap (λ c. c.budget) after, omega (arith, more.1, one))

pub legal_counts : LegalCounts
legal_counts budget entries core leaves =
    let both = counts (empty_core budget) core entries leaves in
    (both.0, both.1 ∙ zero-add (length entries))

-- each row's serial is below the count
abbrev RowsBelow : ℕ → List Row → Type 0
RowsBelow count rows = AllByRecursion (λ row. StateIsBelow count row.state) rows

state_more : (a b : ℕ) (state : State) → a ≤ b → StateIsBelow a state → StateIsBelow b state
state_more a b (Running owner) le h = tt
state_more a b (Live serial size holders) le h = omega (arith, le, h)

act_more : (a b : ℕ) (act : Act) → a ≤ b → ActIsBelow a act → ActIsBelow b act
act_more a b Start le h = tt
act_more a b (Hit serial) le h = omega (arith, le, h)
act_more a b (Pending owner) le h = tt
act_more a b NotCached le h = tt
act_more a b (Finish serial size) le h = omega (arith, le, h)
act_more a b Abandon le h = tt
act_more a b (Give serial) le h = omega (arith, le, h)
act_more a b (Evict serial) le h = omega (arith, le, h)

rows_more : (a b : ℕ) (rows : List Row) → a ≤ b → RowsBelow a rows → RowsBelow b rows
rows_more a b [] le h = tt
rows_more a b (row ∷ rows) le h = (state_more a b row.state le h.0, rows_more a b rows le h.1)

pub all-push : {X : Type 0} (P : X → Type 0) (xs : List X) (x : X) → AllByRecursion P xs → P x → AllByRecursion P (xs ++ x ∷ [])
all-push P [] x h p = (p, tt)
all-push P (y ∷ xs) x h p = (h.0, all-push P xs x h.1 p)

pub all-without : {X : Type 0} (P : X → Type 0) (q : X → Bool) (xs : List X) → AllByRecursion P xs → AllByRecursion P (without_first q xs)
all-without P q [] h = tt
all-without P q (x ∷ xs) h = by (q x) (all-without P q xs h.1)
  where
    by : (b : Bool) → AllByRecursion P (without_first q xs) → AllByRecursion P (cond b xs (x ∷ without_first q xs))
    by true rest = h.1
    by false rest = (h.0, rest)

pub all-find : {X : Type 0} (P : X → Type 0) (q : X → Bool) (xs : List X) (x : X) → AllByRecursion P xs → find q xs ≡ Some x → P x
all-find P q [] x h e = absurd (cc)
all-find P q (y ∷ xs) x h e = by (q y) e (all-find P q xs x h.1)
  where
    by : (b : Bool) → cond b (Some y) (find q xs) ≡ Some x → (find q xs ≡ Some x → P x) → P x
    by true e rest = let same : y ≡ x = cc in subst P same h.0
    by false e rest = rest e

-- the state of the row of a class and key is below the count
state_below : (count class key : ℕ) (rows : List Row) (state : State) → RowsBelow count rows → state_of class key rows ≡ Some state → StateIsBelow count state
state_below count class key rows state h e = by (find (is_named class key) rows) refl e
  where
    by : (o : Option Row) → find (is_named class key) rows ≡ o → option_map (λ row. row.state) o ≡ Some state → StateIsBelow count state
    by None f e = absurd (cc)
    by (Some row) f e = let same : row.state ≡ state = cc in subst (StateIsBelow count) same (all-find (λ row. StateIsBelow count row.state) (is_named class key) rows row h f)

touched_below : (count class key : ℕ) (change : State → State) (rows : List Row) → RowsBelow count rows → ((state : State) → StateIsBelow count state → StateIsBelow count (change state)) → RowsBelow count (touched class key change rows)
touched_below count class key change rows h keeps = by (state_of class key rows) refl
  where
    by : (o : Option State) → state_of class key rows ≡ o → RowsBelow count (option_map_or (λ state. without class key rows ++ row_in class key (change state) ∷ []) o rows)
    by None e = h
    by (Some state) e = all-push (λ row. StateIsBelow count row.state) (without class key rows) (row_in class key (change state))
        (all-without (λ row. StateIsBelow count row.state) (is_named class key) rows h) (keeps state (state_below count class key rows state h e))

held_below : (count pass : ℕ) (state : State) → StateIsBelow count state → StateIsBelow count (held_by pass state)
held_below count pass (Running owner) h = tt
held_below count pass (Live serial size holders) h = h

released_below : (count pass : ℕ) (state : State) → StateIsBelow count state → StateIsBelow count (released_by pass state)
released_below count pass (Running owner) h = tt
released_below count pass (Live serial size holders) h = h

-- a Live state's serial is below the count
live_below : (count serial : ℕ) (o : Option State) → ((state : State) → o ≡ Some state → StateIsBelow count state) → is_in (is_live serial) o ≡ true → serial < count
live_below count serial None h e = absurd (cc)
live_below count serial (Some (Running owner)) h e = absurd (cc)
live_below count serial (Some (Live own size holders)) h e = omega (arith, h (Live own size holders) refl, eqb-true own serial e)

out_below : (count class key serial : ℕ) (rows : List Row) → RowsBelow count rows → is_next_out class key serial rows ≡ true → serial < count
out_below count class key serial rows h e = by (first_idle rows) refl e
  where
    by : (o : Option Row) → first_idle rows ≡ o → option_map_or (λ row. is_named class key row && is_live serial row.state) o false ≡ true → serial < count
    by None f e = absurd (cc)
    by (Some row) f e =
        live_below count serial (Some row.state)
        (λ state same. let is : row.state ≡ state = cc in subst (StateIsBelow count) is (all-find (λ row. StateIsBelow count row.state) _ rows row h f))
        (and_parts (is_named class key row) (is_live serial row.state) e).1

-- a step keeps the serials below the count, and its own is
after_step : (core : Core) (pass class key : ℕ) (act : Act) → may_act core pass class key act ≡ true → RowsBelow core.count core.rows
    → RowsBelow (core.count + 1) (rows_after pass class key act core.rows) × ActIsBelow (core.count + 1) act
after_step core pass class key Start may h =
    (all-push (λ row. StateIsBelow (core.count + 1) row.state) core.rows (row_in class key (Running pass)) (rows_more core.count (core.count + 1) core.rows (omega arith) h) tt, tt)
after_step core pass class key (Hit serial) may h =
    let fit = and_parts (is_settled core.budget core.rows) (is_in (is_live serial) (state_of class key core.rows)) may in
    let below = live_below core.count serial (state_of class key core.rows) (λ state e. state_below core.count class key core.rows state h e) fit.1 in
    (touched_below (core.count + 1) class key (held_by pass) core.rows (rows_more core.count (core.count + 1) core.rows (omega arith) h) (λ state b. held_below (core.count + 1) pass state b), omega (arith, below))
after_step core pass class key (Pending owner) may h = (rows_more core.count (core.count + 1) core.rows (omega arith) h, tt)
after_step core pass class key NotCached may h = (rows_more core.count (core.count + 1) core.rows (omega arith) h, tt)
after_step core pass class key (Finish serial size) may h =
    let fit = and_parts (is_settled core.budget core.rows) (is_in (is_running pass) (state_of class key core.rows) && nat_eq serial core.count) may in
    let same = eqb-true serial core.count (and_parts (is_in (is_running pass) (state_of class key core.rows)) (nat_eq serial core.count) fit.1).1 in
    let below : serial < core.count + 1 = omega (arith, same) in
    (touched_below (core.count + 1) class key (λ _. Live serial size (pass ∷ [])) core.rows (rows_more core.count (core.count + 1) core.rows (omega arith) h) (λ state b. below), below)
after_step core pass class key Abandon may h =
    (all-without (λ row. StateIsBelow (core.count + 1) row.state) (is_named class key) core.rows (rows_more core.count (core.count + 1) core.rows (omega arith) h), tt)
after_step core pass class key (Give serial) may h =
    let fit = and_parts (is_settled core.budget core.rows) (is_in (is_live serial) (state_of class key core.rows) && is_in (is_held_by pass) (state_of class key core.rows)) may in
    let live = and_parts (is_in (is_live serial) (state_of class key core.rows)) (is_in (is_held_by pass) (state_of class key core.rows)) fit.1 in
    let below = live_below core.count serial (state_of class key core.rows) (λ state e. state_below core.count class key core.rows state h e) live.0 in
    (touched_below (core.count + 1) class key (released_by pass) core.rows (rows_more core.count (core.count + 1) core.rows (omega arith) h) (λ state b. released_below (core.count + 1) pass state b), omega (arith, below))
after_step core pass class key (Evict serial) may h =
    let fit = and_parts (not (is_settled core.budget core.rows)) (is_next_out class key serial core.rows) may in
    let below = out_below core.count class key serial core.rows h fit.1 in
    (all-without (λ row. StateIsBelow (core.count + 1) row.state) (is_named class key) core.rows (rows_more core.count (core.count + 1) core.rows (omega arith) h), omega (arith, below))

serials : (core last : Core) (es : List Entry) → run core es ≡ Some last → RowsBelow core.count core.rows → SerialsAreBelow es last
serials core last [] e h = let same : core ≡ last = cc in record { rows = subst (λ c. RowsBelow c.count c.rows) same h; entries = tt }
serials core last (entry ∷ es) e h = by (step core entry) refl e (λ next. serials next last es) (λ next. counts next last es)
  where
    by : (o : Option Core) → step core entry ≡ o → option_and_then (λ next. run next es) o ≡ Some last
        → ((next : Core) → run next es ≡ Some last → RowsBelow next.count next.rows → SerialsAreBelow es last)
        → ((next : Core) → run next es ≡ Some last → (last.budget ≡ next.budget) × (last.count ≡ next.count + length es))
        → SerialsAreBelow (entry ∷ es) last
    by None s e rest count = absurd (cc)
    by (Some next) s e rest count =
        let steps = steps_from core entry next s in
        let made = after_step core entry.pass entry.class entry.key entry.act steps.may h in
        let more = rest next e (subst (λ c. RowsBelow c.count c.rows) (sym steps.after) made.0) in
        let one : next.count ≡ core.count + 1 = ap (λ c. c.count) steps.after in
        let le : core.count + 1 ≤ last.count = omega (arith, one, (count next e).1) in
        record { rows = more.rows; entries = (act_more (core.count + 1) last.count entry.act le made.1, more.entries) }

pub legal_serials_are_below : LegalSerialsAreBelow
legal_serials_are_below budget entries core leaves = serials (empty_core budget) core entries leaves tt
