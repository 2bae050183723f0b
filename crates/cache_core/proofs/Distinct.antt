-- What every step keeps of the rows, by the act.
use Rattle.std.proofs.Common.{◌≡◌, ℕ, true, [], ◌∷◌, refl, sym, subst}
use Rattle.std.specs.Prelude.{Option, Some, None, is_none}
use Rattle.std.proofs.lemmas.Bool.{and_parts}
use Rattle.cache_core.specs.Rows.{state_of, AreDistinct, held_by, released_by}
use Rattle.cache_core.specs.Core.{Core, is_settled, may_act, rows_after, empty_core}
use Rattle.cache_core.specs.Laws.{RowsAreDistinct}
use Rattle.cache_core.specs.declared.entry.Act.{Act}
use Rattle.cache_core.specs.declared.entry.Act.TheVariants.{Start, Hit, Pending, NotCached, Finish, Abandon, Give, Evict}
use Rattle.cache_core.specs.declared.row.State.{State}
use Rattle.cache_core.specs.declared.row.State.TheVariants.{Running, Live}
use Rattle.cache_core.proofs.Names.{find_none, distinct-push, distinct-touched, distinct-without}
use Rattle.cache_core.proofs.Runs.{run_keeps}

-- a test of no state
none_is : (o : Option State) → is_none o ≡ true → o ≡ None
none_is None h = refl
none_is (Some state) h = absurd (cc)

-- the rows stay distinct
distinct-rows_after : (core : Core) (pass class key : ℕ) (act : Act) → may_act core pass class key act ≡ true → AreDistinct core.rows → AreDistinct (rows_after pass class key act core.rows)
distinct-rows_after core pass class key Start may d =
    let parts = and_parts (is_settled core.budget core.rows) (is_none (state_of class key core.rows)) may in
    distinct-push core.rows class key (Running pass) d (find_none class key core.rows (none_is (state_of class key core.rows) parts.1))
distinct-rows_after core pass class key (Hit serial) may d = distinct-touched class key (held_by pass) core.rows d
distinct-rows_after core pass class key (Pending owner) may d = d
distinct-rows_after core pass class key NotCached may d = d
distinct-rows_after core pass class key (Finish serial size) may d = distinct-touched class key (λ _. Live serial size (pass ∷ [])) core.rows d
distinct-rows_after core pass class key Abandon may d = distinct-without class key core.rows d
distinct-rows_after core pass class key (Give serial) may d = distinct-touched class key (released_by pass) core.rows d
distinct-rows_after core pass class key (Evict serial) may d = distinct-without class key core.rows d

-- no two rows of a core that a legal history leaves have the same class and key
pub legal_rows_are_distinct : RowsAreDistinct
legal_rows_are_distinct budget entries core leaves =
    run_keeps (λ core. AreDistinct core.rows)
    (λ core entry next steps d. subst (λ c. AreDistinct c.rows) (sym steps.after) (distinct-rows_after core entry.pass entry.class entry.key entry.act steps.may d))
    (empty_core budget) entries core leaves tt
