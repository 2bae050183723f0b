-- What an Evict takes.
use Rattle.std.proofs.Common.{◌≡◌, ℕ, Bool, true, false, cond, ◌&&◌, ◌||◌, List, [], ◌∷◌, length, refl, sym, ap, ◌∙◌, subst, subst₂, arith, eqb-true, nat_eq}
use Rattle.std.specs.Prelude.{Option, Some, None, is_none, find, not, option_map, nat_le}
use Rattle.std.specs.List.{AllByRecursion}
use Rattle.std.specs.Option.{option_map_or}
use Rattle.std.proofs.lemmas.Bool.{and_parts, lt-leb}
use Rattle.cache_core.specs.Rows.{is_live, is_idle, state_of, is_named, first_idle, live_bytes, AreDistinct}
use Rattle.cache_core.specs.Core.{is_settled, is_next_out, may_act}
use Rattle.cache_core.specs.Laws.{HeldIsNotEvicted, ExceedsOnlyWithoutIdle}
use Rattle.cache_core.specs.declared.entry.Act.TheVariants.{Evict}
use Rattle.cache_core.specs.declared.row.Row.{Row}
use Rattle.cache_core.specs.declared.row.State.{State}
use Rattle.cache_core.specs.declared.row.State.TheVariants.{Running, Live}
use Rattle.cache_core.proofs.Runs.{steps_from}
use Rattle.cache_core.proofs.Names.{find_none, is_named-own}
use Rattle.cache_core.proofs.Distinct.{legal_rows_are_distinct}

-- what is found passes the test
pub found_passes : {X : Type 0} (p : X → Bool) (xs : List X) (x : X) → find p xs ≡ Some x → p x ≡ true
found_passes p [] x e = absurd (cc)
found_passes p (y ∷ xs) x e = by (p y) refl e (found_passes p xs x)
  where
    by : (b : Bool) → p y ≡ b → cond b (Some y) (find p xs) ≡ Some x → (find p xs ≡ Some x → p x ≡ true) → p x ≡ true
    by true t e rest = let same : y ≡ x = cc in subst (λ z. p z ≡ true) same t
    by false t e rest = rest e

-- of distinct rows, one that is found by any test is that of its class and key
pub found_own : (p : Row → Bool) (rows : List Row) (row : Row) → AreDistinct rows → find p rows ≡ Some row → find (is_named row.class row.key) rows ≡ Some row
found_own p [] row d e = absurd (cc)
found_own p (x ∷ xs) row d e = by (p x) e (found_own p xs row d.1)
  where
    past : (b : Bool) → is_named row.class row.key x ≡ b → find (is_named row.class row.key) xs ≡ Some row → cond b (Some x) (find (is_named row.class row.key) xs) ≡ Some row
    past true named there =
        let parts = and_parts (nat_eq x.class row.class) (nat_eq x.key row.key) named in
        let none = subst₂ (λ a b. find (is_named a b) xs ≡ None) (eqb-true x.class row.class parts.0) (eqb-true x.key row.key parts.1) (find_none x.class x.key xs d.0) in
        absurd (cc (none, there))
    past false named there = there

    by : (b : Bool) → cond b (Some x) (find p xs) ≡ Some row → (find p xs ≡ Some row → find (is_named row.class row.key) xs ≡ Some row) → find (is_named row.class row.key) (x ∷ xs) ≡ Some row
    by true e rest =
        let same : x ≡ row = cc in
        ap (λ b. cond b (Some x) (find (is_named row.class row.key) xs)) (ap (is_named row.class row.key) same ∙ is_named-own row.class row.key row.state) ∙ ap Some same
    by false e rest = past (is_named row.class row.key x) refl (rest e)

-- a Live state with a serial and no holder
pub idle_live : (serial : ℕ) (state : State) → is_live serial state ≡ true → is_idle state ≡ true → (size : ℕ) × (state ≡ Live serial size [])
idle_live serial (Running owner) live idle = absurd (cc)
idle_live serial (Live own size []) live idle = (size, ap (λ s. Live s size []) (eqb-true own serial live))
idle_live serial (Live own size (holder ∷ holders)) live idle = absurd (let no : length (holder ∷ holders) ≡ 0 = eqb-true (length (holder ∷ holders)) 0 idle in omega (arith, no))

taken : (class key serial : ℕ) (rows : List Row) → AreDistinct rows → is_next_out class key serial rows ≡ true → (size : ℕ) × (state_of class key rows ≡ Some (Live serial size []))
taken class key serial rows d e = by (first_idle rows) refl e
  where
    by : (o : Option Row) → first_idle rows ≡ o → option_map_or (λ row. is_named class key row && is_live serial row.state) o false ≡ true → (size : ℕ) × (state_of class key rows ≡ Some (Live serial size []))
    by None f e = absurd (cc)
    by (Some row) f e =
        let parts = and_parts (is_named class key row) (is_live serial row.state) e in
        let names = and_parts (nat_eq row.class class) (nat_eq row.key key) parts.0 in
        let own = found_own (λ row. is_idle row.state) rows row d f in
        let here = subst₂ (λ a b. find (is_named a b) rows ≡ Some row) (eqb-true row.class class names.0) (eqb-true row.key key names.1) own in
        let live = idle_live serial row.state parts.1 (found_passes (λ row. is_idle row.state) rows row f) in
        (live.0, ap (option_map (λ row. row.state)) here ∙ ap Some live.1)

pub held_is_not_evicted : HeldIsNotEvicted
held_is_not_evicted budget entries core next entry serial leaves e is =
    let may = (steps_from core entry next e).may in
    let evicts : may_act core entry.pass entry.class entry.key (Evict serial) ≡ true = ap (may_act core entry.pass entry.class entry.key) (sym is) ∙ may in
    taken entry.class entry.key serial core.rows (legal_rows_are_distinct budget entries core leaves)
    (and_parts (not (is_settled core.budget core.rows)) (is_next_out entry.class entry.key serial core.rows) evicts).1

-- where nothing is found, each item fails the test
all_fail : {X : Type 0} (p : X → Bool) (xs : List X) → find p xs ≡ None → AllByRecursion (λ x. p x ≡ false) xs
all_fail p [] e = tt
all_fail p (x ∷ xs) e = by (p x) refl e (all_fail p xs)
  where
    by : (b : Bool) → p x ≡ b → cond b (Some x) (find p xs) ≡ None → (find p xs ≡ None → AllByRecursion (λ x. p x ≡ false) xs) → AllByRecursion (λ x. p x ≡ false) (x ∷ xs)
    by true t e rest = absurd (cc)
    by false t e rest = (t, rest e)

pub exceeds_only_without_idle : ExceedsOnlyWithoutIdle
exceeds_only_without_idle core settled over =
    let above : nat_le (live_bytes core.rows) core.budget ≡ false = lt-leb (live_bytes core.rows) core.budget over in
    let none : is_none (first_idle core.rows) ≡ true = sym (ap (λ b. b || is_none (first_idle core.rows)) above) ∙ settled in
    all_fail (λ row. is_idle row.state) core.rows (by (first_idle core.rows) none)
  where
    by : (o : Option Row) → is_none o ≡ true → o ≡ None
    by None h = refl
    by (Some row) h = absurd (cc)
