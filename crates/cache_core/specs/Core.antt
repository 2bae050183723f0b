-- The core of the cache, and the step that an entry makes in it. The entries and acts are this
-- project's own.
use Rattle.std.specs.Prelude.{ℕ, ◌+◌, Bool, false, ◌&&◌, ◌||◌, not, List, [], ◌∷◌, ◌++◌, Option, Some, None, is_none, nat_eq, nat_le, if◌then◌else◌, IsTrue}
use Rattle.std.specs.Option.{option_map_or}
use Rattle.cache_core.specs.Rows.{is_running, is_live, is_held_by, held_by, released_by, is_named, state_of, without, row_in, touched, first_idle, live_bytes}
use Rattle.cache_core.specs.declared.entry.Entry.{Entry}
use Rattle.cache_core.specs.declared.entry.Act.{Act}
use Rattle.cache_core.specs.declared.entry.Act.TheVariants.{Start, Hit, Pending, NotCached, Finish, Abandon, Give, Evict}
use Rattle.cache_core.specs.declared.row.Row.{Row}
use Rattle.cache_core.specs.declared.row.State.{State}
use Rattle.cache_core.specs.declared.row.State.TheVariants.{Running, Live}

-- a budget in bytes, how many entries were made, and the rows, the least recently touched first
pub record Core : Type 0 where
  pub budget : ℕ
  pub count : ℕ
  pub rows : List Row

-- the core before any entry
abbrev pub empty_core : ℕ → Core
empty_core budget = record { budget = budget; count = 0; rows = [] }

-- live bytes are at most the budget, or no row is idle
abbrev pub is_settled : ℕ → List Row → Bool
is_settled budget rows = nat_le (live_bytes rows) budget || is_none (first_idle rows)

abbrev pub IsSettled : Core → Type 0
IsSettled core = IsTrue (is_settled core.budget core.rows)

-- the first idle row is that of the class and key, with this serial
abbrev pub is_next_out : ℕ → ℕ → ℕ → List Row → Bool
is_next_out class key serial rows =
    option_map_or (λ row. is_named class key row && is_live serial row.state) (first_idle rows) false

-- there is a state, and it passes the test
abbrev pub is_in : (State → Bool) → Option State → Bool
is_in test state = option_map_or test state false

-- whether an act of a pass fits the state of the row of its class and key, at this count of entries. An Evict
-- fits none: it has a rule of its own
abbrev pub fits : ℕ → ℕ → Act → Option State → Bool
fits pass count Start state = is_none state
fits pass count (Hit serial) state = is_in (is_live serial) state
fits pass count (Pending owner) state = is_in (is_running owner) state && not (nat_eq owner pass)
fits pass count NotCached state = is_none state
fits pass count (Finish serial size) state = is_in (is_running pass) state && nat_eq serial count
fits pass count Abandon state = is_in (is_running pass) state
fits pass count (Give serial) state = is_in (is_live serial) state && is_in (is_held_by pass) state
fits pass count (Evict serial) state = false

-- whether an act steps: an Evict where the core is not settled, of the first idle row, and any other where it is
-- settled and the act fits
abbrev pub may_act : Core → ℕ → ℕ → ℕ → Act → Bool
may_act core pass class key (Evict serial) = not (is_settled core.budget core.rows) && is_next_out class key serial core.rows
may_act core pass class key act = is_settled core.budget core.rows && fits pass core.count act (state_of class key core.rows)

-- the rows after an act of a pass that steps
abbrev pub rows_after : ℕ → ℕ → ℕ → Act → List Row → List Row
rows_after pass class key Start rows = rows ++ row_in class key (Running pass) ∷ []
rows_after pass class key (Hit serial) rows = touched class key (held_by pass) rows
rows_after pass class key (Pending owner) rows = rows
rows_after pass class key NotCached rows = rows
rows_after pass class key (Finish serial size) rows = touched class key (λ _. Live serial size (pass ∷ [])) rows
rows_after pass class key Abandon rows = without class key rows
rows_after pass class key (Give serial) rows = touched class key (released_by pass) rows
rows_after pass class key (Evict serial) rows = without class key rows

-- whether an entry steps
abbrev pub may_step : Core → Entry → Bool
may_step core entry = may_act core entry.pass entry.class entry.key entry.act

-- the core after an entry that steps
abbrev pub core_after : Core → Entry → Core
core_after core entry = record {
  budget = core.budget;
  count = core.count + 1;
  rows = rows_after entry.pass entry.class entry.key entry.act core.rows;
}

-- the core after an entry, or nothing where it does not step
abbrev pub step : Core → Entry → Option Core
step core entry = if may_step core entry then Some (core_after core entry) else None
