-- Where no row goes, each class and key that is used is started once.
use Rattle.std.proofs.Common.{◌≡◌, ℕ, ◌+◌, Bool, true, false, not, cond, ◌&&◌, ◌||◌, List, [], ◌∷◌, ◌++◌, map, refl, sym, ap, ap₂, ◌∙◌, subst, arith, append-nil}
use Rattle.std.specs.Prelude.{Option, Some, is_some, filter}
use Rattle.std.specs.List.{AllByRecursion, list_any}
use Rattle.std.specs.Set.{distinct_count}
use Rattle.std.proofs.lemmas.List.Sums.{sum_by_push}
use Rattle.cache_core.specs.Rows.{state_of}
use Rattle.cache_core.specs.Core.{Core, step}
use Rattle.cache_core.specs.Laws.{Leaves}
use Rattle.cache_core.specs.declared.entry.Entry.{Entry}
use Rattle.cache_core.specs.declared.entry.Act.{Act}
use Rattle.cache_core.specs.declared.entry.Act.TheVariants.{Start, Hit, Pending, NotCached, Finish, Abandon, Give, Evict}
use Rattle.cache_core.specs.declared.row.State.{State}
use Rattle.turn_lock.specs.Entries.{is_about}
use Rattle.turn_lock.proofs.Lists.{bit}
use Rattle.cache_laws.specs.Computations.{is_start, takes_out, is_use, name_of, used_names, same_name, starts_of, ComputationsAreCounted}
use Rattle.cache_laws.proofs.Histories.{history_keeps}
use Rattle.cache_laws.proofs.States.{state_after, Finds, Moves, moves, finds}
use Rattle.cache_laws.proofs.Distincts.{same_name-sym, any-push, distinct-push}

-- an entry more, of a list in which all pass
all-push : {X : Type 0} (P : X → Type 0) (xs : List X) (x : X) → AllByRecursion P (xs ++ x ∷ []) → AllByRecursion P xs × P x
all-push P [] x all = (tt, all.0)
all-push P (y ∷ xs) x all = let rest = all-push P xs x all.1 in ((all.0, rest.0), rest.1)

-- the names of an entry more
names-push : (es : List Entry) (e : Entry) → used_names (es ++ e ∷ []) ≡ used_names es ++ cond (is_use e.act) (name_of e ∷ []) []
names-push [] e = by (is_use e.act)
  where
    by : (b : Bool) → map name_of (cond b (e ∷ []) []) ≡ cond b (name_of e ∷ []) []
    by true = refl
    by false = refl
names-push (x ∷ es) e = by (is_use x.act) (names-push es e)
  where
    by : (b : Bool) → used_names (es ++ e ∷ []) ≡ used_names es ++ cond (is_use e.act) (name_of e ∷ []) []
        → map name_of (cond b (x ∷ filter (λ entry. is_use entry.act) (es ++ e ∷ [])) (filter (λ entry. is_use entry.act) (es ++ e ∷ [])))
        ≡ map name_of (cond b (x ∷ filter (λ entry. is_use entry.act) es) (filter (λ entry. is_use entry.act) es)) ++ cond (is_use e.act) (name_of e ∷ []) []
    by true rest = ap (λ l. name_of x ∷ l) rest
    by false rest = rest

-- what is kept of a history: a name was used exactly where it has a row
record Counted (history : List Entry) (core : Core) : Type 0 where
  pub counts : starts_of history ≡ distinct_count same_name (used_names history)
  pub rows : (class key : ℕ) → list_any (same_name (class, key)) (used_names history) ≡ is_some (state_of class key core.rows)

-- an act starts a row where there was none, and uses one where there was or is one
starts : (owner : ℕ) (act : Act) (o : Option State) → Finds owner act o → takes_out act ≡ false → bit (is_start act) ≡ bit (is_use act && not (is_some o))
starts owner Start o found stays = sym (ap (λ o. bit (not (is_some o))) found)
starts owner (Hit serial) o found stays = sym (ap (λ o. bit (not (is_some o))) found.2)
starts owner (Pending other) o found stays = refl
starts owner NotCached o found stays = refl
starts owner (Finish serial size) o found stays = sym (ap (λ o. bit (not (is_some o))) found)
starts owner Abandon o found stays = absurd (cc)
starts owner (Give serial) o found stays = sym (ap (λ o. bit (not (is_some o))) found.2)
starts owner (Evict serial) o found stays = absurd (cc)

stands : (owner : ℕ) (act : Act) (o : Option State) → Finds owner act o → takes_out act ≡ false → is_some (state_after owner act o) ≡ (is_some o || is_use act)
stands owner Start o found stays = sym (ap (λ o. is_some o || true) found)
stands owner (Hit serial) o found stays = subst (λ o. is_some (state_after owner (Hit serial) o) ≡ (is_some o || true)) (sym found.2) refl
stands owner (Pending other) o found stays = subst (λ o. is_some o ≡ (is_some o || false)) (sym found) refl
stands owner NotCached o found stays = subst (λ o. is_some o ≡ (is_some o || false)) (sym found) refl
stands owner (Finish serial size) o found stays = subst (λ o. is_some (state_after owner (Finish serial size) o) ≡ (is_some o || true)) (sym found) refl
stands owner Abandon o found stays = absurd (cc)
stands owner (Give serial) o found stays = subst (λ o. is_some (state_after owner (Give serial) o) ≡ (is_some o || true)) (sym found.2) refl
stands owner (Evict serial) o found stays = absurd (cc)

counted_step : (budget : ℕ) (es : List Entry) (core next : Core) (e : Entry) → Leaves budget es core → step core e ≡ Some next → takes_out e.act ≡ false
    → Counted es core → Counted (es ++ e ∷ []) next
counted_step budget es core next e leaves s stays h = record { counts = count (is_use e.act) refl; rows = row }
  where
    more : starts_of (es ++ e ∷ []) ≡ starts_of es + bit (is_start e.act)
    more = sum_by_push (λ entry. cond (is_start entry.act) 1 0) es e

    begun : bit (is_start e.act) ≡ bit (is_use e.act && not (is_some (state_of e.class e.key core.rows)))
    begun = starts e.pass e.act (state_of e.class e.key core.rows) (finds budget es core next e leaves s) stays

    count : (b : Bool) → is_use e.act ≡ b → starts_of (es ++ e ∷ []) ≡ distinct_count same_name (used_names (es ++ e ∷ []))
    count true is =
        let names : used_names (es ++ e ∷ []) ≡ used_names es ++ name_of e ∷ [] = names-push es e ∙ ap (λ b. used_names es ++ cond b (name_of e ∷ []) []) is in
        let now = begun ∙ ap (λ b. bit (b && not (is_some (state_of e.class e.key core.rows)))) is in
        let has = ap (λ b. bit (not b)) (h.rows e.class e.key) in
        omega (arith, more, now, has, h.counts, ap (distinct_count same_name) names, distinct-push (used_names es) (name_of e))
    count false is =
        let names : used_names (es ++ e ∷ []) ≡ used_names es = names-push es e ∙ ap (λ b. used_names es ++ cond b (name_of e ∷ []) []) is ∙ append-nil (used_names es) in
        let now = begun ∙ ap (λ b. bit (b && not (is_some (state_of e.class e.key core.rows)))) is in
        omega (arith, more, now, h.counts, ap (distinct_count same_name) names)

    kept : (b : Bool) → (b || false) ≡ b
    kept true = refl
    kept false = refl

    row : (class key : ℕ) → list_any (same_name (class, key)) (used_names (es ++ e ∷ [])) ≡ is_some (state_of class key next.rows)
    row class key = ap (list_any (same_name (class, key))) (names-push es e) ∙ used (is_use e.act) refl ∙ by (is_about class key e) m.own ∙ sym (ap is_some m.after)
      where
        m : Moves class key core next e
        m = moves budget es core next e leaves s class key

        used : (b : Bool) → is_use e.act ≡ b → list_any (same_name (class, key)) (used_names es ++ cond b (name_of e ∷ []) []) ≡ (is_some (state_of class key core.rows) || (is_about class key e && is_use e.act))
        used true is =
            any-push (same_name (class, key)) (used_names es) (name_of e)
            ∙ ap₂ (λ a b. a || b) (h.rows class key) (same_name-sym (class, key) (name_of e) ∙ and_true (is_about class key e) ∙ ap (λ b. is_about class key e && b) (sym is))
          where
            and_true : (b : Bool) → b ≡ (b && true)
            and_true true = refl
            and_true false = refl
        used false is =
            ap (list_any (same_name (class, key))) (append-nil (used_names es)) ∙ h.rows class key ∙ sym (kept (is_some (state_of class key core.rows)))
            ∙ ap (λ b. is_some (state_of class key core.rows) || b) (and_false (is_about class key e) ∙ ap (λ b. is_about class key e && b) (sym is))
          where
            and_false : (b : Bool) → false ≡ (b && false)
            and_false true = refl
            and_false false = refl

        by : (b : Bool) → (b ≡ true → Finds e.pass e.act (state_of class key core.rows))
            → (is_some (state_of class key core.rows) || (b && is_use e.act)) ≡ is_some (cond b (state_after e.pass e.act (state_of class key core.rows)) (state_of class key core.rows))
        by true found = sym (stands e.pass e.act (state_of class key core.rows) (found refl) stays)
        by false found = kept (is_some (state_of class key core.rows))

pub computations_are_counted : ComputationsAreCounted
computations_are_counted budget history core leaves stay =
    (history_keeps (λ es core. AllByRecursion (λ entry. takes_out entry.act ≡ false) es → Counted es core) budget
    (λ es core next e leaves s h all.
    let parts = all-push (λ entry. takes_out entry.act ≡ false) es e all in
    counted_step budget es core next e leaves s parts.1 (h parts.0))
    (λ all. record { counts = refl; rows = λ class key. refl }) history core leaves stay).counts
