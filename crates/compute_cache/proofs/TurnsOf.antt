-- The turns of a pass, read off a history.
use Rattle.std.proofs.Common.{◌≡◌, ℕ, ◌+◌, ◌≤◌, Bool, true, false, not, cond, ◌&&◌, ◌||◌, List, [], ◌∷◌, ◌++◌, length, refl, sym, ap, ap₂, ◌∙◌, nat_eq, eqb-true, eq-eqb, arith, length-append}
use Rattle.std.specs.List.{AllByRecursion}
use Rattle.std.proofs.lemmas.Bool.{and_parts}
use Rattle.cache_core.specs.declared.entry.Entry.{Entry}
use Rattle.cache_core.specs.declared.entry.Act.{Act}
use Rattle.cache_core.specs.declared.entry.Act.TheVariants.{Start, Hit, Pending, NotCached, Finish, Abandon, Give, Evict}
use Rattle.cache_table.specs.Cache.{IsEvictBy}
use Rattle.turn_lock.specs.Entries.{Begins, entries_of, is_about, computes, computes_after}
use Rattle.turn_lock.proofs.Histories.{entries-append}
use Rattle.compute_cache.specs.Passes.{Started, started_at, is_turn_of, has_turn, is_among, without_turn, turns_after, turns_from, turns_of}

-- the turns after two runs of entries
pub turns-append : (n at : ℕ) (ts : List Started) (xs ys : List Entry) → turns_from n at ts (xs ++ ys) ≡ turns_from n (at + length xs) (turns_from n at ts xs) ys
turns-append n at ts [] ys = ap (λ k. turns_from n k ts ys) (omega arith)
turns-append n at ts (x ∷ xs) ys =
    let next = cond (nat_eq x.pass n) (turns_after at x.class x.key x.act ts) ts in
    turns-append n (at + 1) next xs ys ∙ ap (λ k. turns_from n k (turns_from n (at + 1) next xs) ys) (omega arith)

-- entries of other passes change none
pub turns-quiet : (n at : ℕ) (ts : List Started) (xs : List Entry) → entries_of n xs ≡ [] → turns_from n at ts xs ≡ ts
turns-quiet n at ts [] none = refl
turns-quiet n at ts (x ∷ xs) none = by (nat_eq x.pass n) none (turns-quiet n (at + 1) ts xs)
  where
    by : (b : Bool) → cond b (x ∷ entries_of n xs) (entries_of n xs) ≡ [] → (entries_of n xs ≡ [] → turns_from n (at + 1) ts xs ≡ ts)
        → turns_from n (at + 1) (cond b (turns_after at x.class x.key x.act ts) ts) xs ≡ ts
    by true e rest = absurd (cc (e))
    by false e rest = rest e

-- what a history has more than another with the same entries of a pass has none of it
pub quiet_rest : (n : ℕ) (xs rest ys mine : List Entry) → ys ≡ xs ++ rest → entries_of n xs ≡ mine → entries_of n ys ≡ mine → entries_of n rest ≡ []
quiet_rest n xs rest ys mine whole first last =
    let both : mine ≡ mine ++ entries_of n rest = sym last ∙ ap (entries_of n) whole ∙ entries-append n xs rest ∙ ap (λ l. l ++ entries_of n rest) first in
    none (entries_of n rest) (omega (arith, ap length both, length-append mine (entries_of n rest)))
  where
    none : (l : List Entry) → length l ≡ 0 → l ≡ []
    none [] e = refl
    none (x ∷ l) e = absurd (omega arith)

pub turns_grow : (n : ℕ) (seen before mine : List Entry) → Begins seen before → entries_of n seen ≡ mine → entries_of n before ≡ mine → turns_of n before ≡ turns_of n seen
turns_grow n seen before mine begins first last =
    ap (turns_of n) begins.1 ∙ turns-append n 0 [] seen begins.0
    ∙ turns-quiet n (0 + length seen) (turns_of n seen) begins.0 (quiet_rest n seen begins.0 before mine begins.1 first last)

-- an entry of the pass, and evictions after it
turns-evicts : (n at : ℕ) (ts : List Started) (xs : List Entry) → AllByRecursion (IsEvictBy n) xs → turns_from n at ts xs ≡ ts
turns-evicts n at ts [] each = refl
turns-evicts n at ts (x ∷ xs) each =
    ap (λ b. turns_from n (at + 1) (cond b (turns_after at x.class x.key x.act ts) ts) xs) (eq-eqb x.pass n each.0.0)
    ∙ ap (λ act. turns_from n (at + 1) (turns_after at x.class x.key act ts) xs) each.0.1.1
    ∙ turns-evicts n (at + 1) ts xs each.1

pub turns_more : (n : ℕ) (seen before mine : List Entry) (e : Entry) (evicts : List Entry) → Begins seen before → entries_of n seen ≡ mine → entries_of n before ≡ mine
    → e.pass ≡ n → AllByRecursion (IsEvictBy n) evicts
    → turns_of n (before ++ e ∷ evicts) ≡ turns_after (length before) e.class e.key e.act (turns_of n seen)
turns_more n seen before mine e evicts begins first last own each =
    turns-append n 0 [] before (e ∷ evicts)
    ∙ ap₂ (λ k ts. turns_from n k ts (e ∷ evicts)) zero_add (turns_grow n seen before mine begins first last)
    ∙ ap (λ b. turns_from n (length before + 1) (cond b (turns_after (length before) e.class e.key e.act (turns_of n seen)) (turns_of n seen)) evicts) (eq-eqb e.pass n own)
    ∙ turns-evicts n (length before + 1) (turns_after (length before) e.class e.key e.act (turns_of n seen)) evicts each
  where
    zero_add : 0 + length before ≡ length before
    zero_add = omega arith

-- there is a turn of a class and key exactly where the pass computes its value
any-last : (class key : ℕ) (t : Started) (ts : List Started) → has_turn class key (ts ++ t ∷ []) ≡ (is_turn_of class key t || has_turn class key ts)
any-last class key t [] = refl
any-last class key t (x ∷ ts) = ap (λ b. is_turn_of class key x || b) (any-last class key t ts) ∙ by (is_turn_of class key x) (is_turn_of class key t) (has_turn class key ts)
  where
    by : (a b c : Bool) → (a || (b || c)) ≡ (b || (a || c))
    by true true c = refl
    by true false c = refl
    by false b c = refl

any-without : (c k class key : ℕ) (ts : List Started) → has_turn class key (without_turn c k ts) ≡ cond (nat_eq c class && nat_eq k key) false (has_turn class key ts)
any-without c k class key [] = by (nat_eq c class && nat_eq k key)
  where
    by : (b : Bool) → false ≡ cond b false false
    by true = refl
    by false = refl
any-without c k class key (t ∷ ts) = by (is_turn_of c k t) refl (nat_eq c class && nat_eq k key) refl (any-without c k class key ts)
  where
    same : is_turn_of c k t ≡ true → is_turn_of class key t ≡ (nat_eq c class && nat_eq k key)
    same e =
        let parts = and_parts (nat_eq t.class c) (nat_eq t.key k) e in
        ap₂ (λ a b. nat_eq a class && nat_eq b key) (eqb-true t.class c parts.0) (eqb-true t.key k parts.1)

    other : is_turn_of c k t ≡ false → (nat_eq c class && nat_eq k key) ≡ true → is_turn_of class key t ≡ false
    other e about =
        let parts = and_parts (nat_eq c class) (nat_eq k key) about in
        ap₂ (λ a b. nat_eq t.class a && nat_eq t.key b) (sym (eqb-true c class parts.0)) (sym (eqb-true k key parts.1)) ∙ e

    by : (hit : Bool) → is_turn_of c k t ≡ hit → (about : Bool) → (nat_eq c class && nat_eq k key) ≡ about
        → has_turn class key (without_turn c k ts) ≡ cond about false (has_turn class key ts)
        → has_turn class key (cond (not hit) (t ∷ without_turn c k ts) (without_turn c k ts)) ≡ cond about false (is_turn_of class key t || has_turn class key ts)
    by true h true a rest = rest
    by true h false a rest = rest ∙ sym (ap (λ b. b || has_turn class key ts) (same h ∙ a))
    by false h true a rest = ap₂ (λ x y. x || y) (other h a) rest
    by false h false a rest = ap (λ b. is_turn_of class key t || b) rest

has_after : (at class key : ℕ) (e : Entry) (act : Act) (ts : List Started)
    → has_turn class key (turns_after at e.class e.key act ts) ≡ cond (is_about class key e) (computes_after (has_turn class key ts) act) (has_turn class key ts)
has_after at class key e Start ts = any-last class key (started_at at e.class e.key) ts ∙ by (is_about class key e) (has_turn class key ts)
  where
    by : (a b : Bool) → (a || b) ≡ cond a true b
    by true b = refl
    by false b = refl
has_after at class key e (Finish serial size) ts = any-without e.class e.key class key ts
has_after at class key e Abandon ts = any-without e.class e.key class key ts
has_after at class key e (Hit serial) ts = by (is_about class key e) (has_turn class key ts)
  where
    by : (a b : Bool) → b ≡ cond a b b
    by true b = refl
    by false b = refl
has_after at class key e (Pending owner) ts = by (is_about class key e) (has_turn class key ts)
  where
    by : (a b : Bool) → b ≡ cond a b b
    by true b = refl
    by false b = refl
has_after at class key e NotCached ts = by (is_about class key e) (has_turn class key ts)
  where
    by : (a b : Bool) → b ≡ cond a b b
    by true b = refl
    by false b = refl
has_after at class key e (Give serial) ts = by (is_about class key e) (has_turn class key ts)
  where
    by : (a b : Bool) → b ≡ cond a b b
    by true b = refl
    by false b = refl
has_after at class key e (Evict serial) ts = by (is_about class key e) (has_turn class key ts)
  where
    by : (a b : Bool) → b ≡ cond a b b
    by true b = refl
    by false b = refl

computes_from : (n at class key : ℕ) (ts : List Started) (xs : List Entry) → computes class key (has_turn class key ts) (entries_of n xs) ≡ has_turn class key (turns_from n at ts xs)
computes_from n at class key ts [] = refl
computes_from n at class key ts (x ∷ xs) = by (nat_eq x.pass n) (λ next. computes_from n (at + 1) class key next xs)
  where
    by : (b : Bool) → ((next : List Started) → computes class key (has_turn class key next) (entries_of n xs) ≡ has_turn class key (turns_from n (at + 1) next xs))
        → computes class key (has_turn class key ts) (cond b (x ∷ entries_of n xs) (entries_of n xs))
        ≡ has_turn class key (turns_from n (at + 1) (cond b (turns_after at x.class x.key x.act ts) ts) xs)
    by true rest =
        ap (λ b. computes class key b (entries_of n xs)) (sym (has_after at class key x x.act ts))
        ∙ rest (turns_after at x.class x.key x.act ts)
    by false rest = rest ts

pub computes_is : (n class key : ℕ) (seen mine : List Entry) → entries_of n seen ≡ mine → computes class key false mine ≡ has_turn class key (turns_of n seen)
computes_is n class key seen mine own = ap (computes class key false) (sym own) ∙ computes_from n 0 class key [] seen

-- a turn that is there is one of its class and key, and without these there are fewer
pub among_has : (t : Started) (ts : List Started) → is_among t ts ≡ true → has_turn t.class t.key ts ≡ true
among_has t [] e = absurd (cc)
among_has t (x ∷ ts) e = by (nat_eq x.place t.place) (is_turn_of t.class t.key x) e (among_has t ts)
  where
    by : (a b : Bool) → ((a && b) || is_among t ts) ≡ true → (is_among t ts ≡ true → has_turn t.class t.key ts ≡ true) → (b || has_turn t.class t.key ts) ≡ true
    by a true e rest = refl
    by true false e rest = rest e
    by false false e rest = rest e

fewer : (class key : ℕ) (ts : List Started) → length (without_turn class key ts) ≤ length ts
fewer class key [] = omega arith
fewer class key (t ∷ ts) = by (is_turn_of class key t) (fewer class key ts)
  where
    by : (b : Bool) → length (without_turn class key ts) ≤ length ts → length (cond (not b) (t ∷ without_turn class key ts) (without_turn class key ts)) ≤ length (t ∷ ts)
    by true le = omega arith
    by false le = omega arith

pub one_fewer : (class key : ℕ) (ts : List Started) → has_turn class key ts ≡ true → length (without_turn class key ts) + 1 ≤ length ts
one_fewer class key [] e = absurd (cc)
one_fewer class key (t ∷ ts) e = by (is_turn_of class key t) e (one_fewer class key ts) (fewer class key ts)
  where
    by : (b : Bool) → (b || has_turn class key ts) ≡ true → (has_turn class key ts ≡ true → length (without_turn class key ts) + 1 ≤ length ts) → length (without_turn class key ts) ≤ length ts
        → length (cond (not b) (t ∷ without_turn class key ts) (without_turn class key ts)) + 1 ≤ length (t ∷ ts)
    by true e rest le = omega arith
    by false e rest le = let less = rest e in omega (arith, less)

-- a pass without turns computes nothing
pub none_computes : (n class key : ℕ) (seen mine : List Entry) → entries_of n seen ≡ mine → turns_of n seen ≡ [] → computes class key false mine ≡ false
none_computes n class key seen mine own none = computes_is n class key seen mine own ∙ ap (has_turn class key) none
