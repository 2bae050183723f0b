-- The open receipts of a pass.
use Rattle.std.proofs.Common.{◌≡◌, ℕ, zero, suc, ◌+◌, ◌≤◌, ◌<◌, Bool, true, false, cond, ◌&&◌, ◌||◌, List, [], ◌∷◌, ◌++◌, length, refl, ap, ap₂, nat_eq, eqb-true, eq-eqb, arith}
use Rattle.std.specs.Prelude.{Some, count_by, slice_get}
use Rattle.std.specs.List.{AllByRecursion}
use Rattle.std.proofs.lemmas.Bool.{and_parts}
use Rattle.std.proofs.lemmas.Option.{slice_get_within}
use Rattle.std.proofs.lemmas.List.Sums.{sum_by-cons, sum_by_push}
use Rattle.cache_core.specs.declared.entry.Entry.{Entry}
use Rattle.cache_core.specs.declared.entry.Act.{Act}
use Rattle.cache_core.proofs.Serials.{all-push, all-without}
use Rattle.turn_lock.specs.Entries.{holds_taken, holds_given, takes_hold, IsClear, computes}
use Rattle.turn_lock.proofs.Lists.{bit}
use Rattle.compute_cache.specs.declared.hold.Hold.{Hold}
use Rattle.compute_cache.specs.State.{entry_of}
use Rattle.compute_cache.specs.Turned.{IsOpen}
use Rattle.compute_cache.specs.Passes.{held_at, is_hold_of, same_hold, is_held, without_hold, IsPlaced, AreRising, AreOpen}

-- an item more
count-last : (p : Hold → Bool) (xs : List Hold) (x : Hold) → count_by p (xs ++ x ∷ []) ≡ count_by p xs + bit (p x)
count-last p xs x = sum_by_push (λ h. bit (p h)) xs x

own_hold : (h : Hold) → is_hold_of h.class h.key h.serial h ≡ true
own_hold h = ap₂ (λ a b. a && b) (ap₂ (λ a b. a && b) (eq-eqb h.class h.class refl) (eq-eqb h.key h.key refl)) (eq-eqb h.serial h.serial refl)

-- a receipt less
pub count-without : (class key serial : ℕ) (h : Hold) (xs : List Hold) → is_held h xs ≡ true
    → count_by (is_hold_of class key serial) (without_hold h xs) + bit (is_hold_of class key serial h) ≡ count_by (is_hold_of class key serial) xs
count-without class key serial h [] e = absurd (cc)
count-without class key serial h (x ∷ xs) e = by (same_hold h x) refl e (count-without class key serial h xs)
  where
    p : Hold → Bool
    p = is_hold_of class key serial

    same : same_hold h x ≡ true → is_hold_of class key serial x ≡ is_hold_of class key serial h
    same e =
        let parts = and_parts (nat_eq x.place h.place) (is_hold_of h.class h.key h.serial x) e in
        let names = and_parts (nat_eq x.class h.class && nat_eq x.key h.key) (nat_eq x.serial h.serial) parts.1 in
        let pair = and_parts (nat_eq x.class h.class) (nat_eq x.key h.key) names.0 in
        ap₂ (λ a s. a && nat_eq s serial) (ap₂ (λ c k. nat_eq c class && nat_eq k key) (eqb-true x.class h.class pair.0) (eqb-true x.key h.key pair.1)) (eqb-true x.serial h.serial names.1)

    by : (b : Bool) → same_hold h x ≡ b → (b || is_held h xs) ≡ true
        → (is_held h xs ≡ true → count_by (is_hold_of class key serial) (without_hold h xs) + bit (is_hold_of class key serial h) ≡ count_by (is_hold_of class key serial) xs)
        → count_by (is_hold_of class key serial) (cond b xs (x ∷ without_hold h xs)) + bit (is_hold_of class key serial h) ≡ count_by (is_hold_of class key serial) (x ∷ xs)
    by true here e rest =
        omega (arith, sum_by-cons (λ i. bit (is_hold_of class key serial i)) x xs, ap bit (same here))
    by false here e rest =
        omega (arith, sum_by-cons (λ i. bit (is_hold_of class key serial i)) x xs, sum_by-cons (λ i. bit (is_hold_of class key serial i)) x (without_hold h xs), rest e)

-- where a receipt came from stays, and so do all
get-append : {X : Type 0} (xs ys : List X) (i : ℕ) (x : X) → slice_get xs i ≡ Some x → slice_get (xs ++ ys) i ≡ Some x
get-append [] ys i x e = absurd (cc)
get-append (y ∷ xs) ys zero x e = e
get-append (y ∷ xs) ys (suc i) x e = get-append xs ys i x e

get-at : {X : Type 0} (xs ys : List X) (x : X) → slice_get (xs ++ x ∷ ys) (length xs) ≡ Some x
get-at [] ys x = refl
get-at (y ∷ xs) ys x = get-at xs ys x

pub placed_grow : (n : ℕ) (seen more : List Entry) (xs : List Hold) → AllByRecursion (IsPlaced n seen) xs → AllByRecursion (IsPlaced n (seen ++ more)) xs
placed_grow n seen more [] all = tt
placed_grow n seen more (x ∷ xs) all =
    (record { act = all.0.act; entry = get-append seen more x.place (entry_of n x.class x.key all.0.act) all.0.entry; takes = all.0.takes }, placed_grow n seen more xs all.1)

placed_below : (n : ℕ) (seen : List Entry) (bound : ℕ) (xs : List Hold) → length seen ≤ bound → AllByRecursion (IsPlaced n seen) xs → AllByRecursion (λ h. h.place < bound) xs
placed_below n seen bound [] le all = tt
placed_below n seen bound (x ∷ xs) le all =
    let within : x.place < length seen = slice_get_within seen x.place (entry_of n x.class x.key all.0.act) all.0.entry in
    (omega (arith, within, le), placed_below n seen bound xs le all.1)

rising_last : (xs : List Hold) (h : Hold) → AreRising xs → AllByRecursion (λ x. x.place < h.place) xs → AreRising (xs ++ h ∷ [])
rising_last [] h rising below = (tt, tt)
rising_last (x ∷ xs) h rising below = (all-push (λ (l : Hold). x.place < l.place) xs h rising.0 below.0, rising_last xs h rising.1 below.1)

rising_without : (h : Hold) (xs : List Hold) → AreRising xs → AreRising (without_hold h xs)
rising_without h [] rising = tt
rising_without h (x ∷ xs) rising = by (same_hold h x) (rising_without h xs rising.1)
  where
    by : (b : Bool) → AreRising (without_hold h xs) → AreRising (cond b xs (x ∷ without_hold h xs))
    by true rest = rising.1
    by false rest = (all-without (λ (l : Hold). x.place < l.place) (same_hold h) xs rising.0, rest)

-- the receipts after entries of other passes, or of its own that take and give nothing
pub open_quiet : (n : ℕ) (seen mine more mine' : List Entry) (xs : List Hold) → AreOpen n seen mine xs
    → ((class key serial : ℕ) → holds_taken class key serial mine' ≡ holds_taken class key serial mine)
    → ((class key serial : ℕ) → holds_given class key serial mine' ≡ holds_given class key serial mine)
    → AreOpen n (seen ++ more) mine' xs
open_quiet n seen mine more mine' xs are taken given = record {
  placed = placed_grow n seen more xs are.placed;
  rising = are.rising;
  counted = λ class key serial. omega (arith, are.counted class key serial, taken class key serial, given class key serial);
}

-- after one was taken
pub open_more : (n : ℕ) (seen mine before rest mine' : List Entry) (xs : List Hold) (class key serial : ℕ) (act : Act) → AreOpen n seen mine xs
    → length seen ≤ length before → AllByRecursion (IsPlaced n before) xs
    → takes_hold serial act ≡ true
    → ((c k s : ℕ) → holds_taken c k s mine' ≡ holds_taken c k s mine + bit ((nat_eq class c && nat_eq key k) && nat_eq serial s))
    → ((c k s : ℕ) → holds_given c k s mine' ≡ holds_given c k s mine)
    → AreOpen n (before ++ entry_of n class key act ∷ rest) mine' (xs ++ held_at (length before) class key serial ∷ [])
open_more n seen mine before rest mine' xs class key serial act are longer placed takes taken given =
    let new = held_at (length before) class key serial in
    let e = entry_of n class key act in
    record {
      placed = all-push (IsPlaced n (before ++ e ∷ rest)) xs new (placed_grow n before (e ∷ rest) xs placed) (record { act = act; entry = get-at before rest e; takes = takes });
      rising = rising_last xs new are.rising (placed_below n seen (length before) xs longer are.placed);
      counted = λ c k s. omega (arith, are.counted c k s, taken c k s, given c k s, count-last (is_hold_of c k s) xs new);
    }

-- after one was given back
pub open_less : (n : ℕ) (seen mine more mine' : List Entry) (xs : List Hold) (h : Hold) → AreOpen n seen mine xs → is_held h xs ≡ true
    → ((c k s : ℕ) → holds_taken c k s mine' ≡ holds_taken c k s mine)
    → ((c k s : ℕ) → holds_given c k s mine' ≡ holds_given c k s mine + bit ((nat_eq h.class c && nat_eq h.key k) && nat_eq h.serial s))
    → AreOpen n (seen ++ more) mine' (without_hold h xs)
open_less n seen mine more mine' xs h are held taken given = record {
  placed = all-without (IsPlaced n (seen ++ more)) (same_hold h) xs (placed_grow n seen more xs are.placed);
  rising = rising_without h xs are.rising;
  counted = λ c k s. omega (arith, are.counted c k s, taken c k s, given c k s, count-without c k s h xs held);
}

-- a receipt that is listed is open
pub held_open : (n : ℕ) (seen mine : List Entry) (xs : List Hold) (h : Hold) → AreOpen n seen mine xs → is_held h xs ≡ true → IsOpen h.class h.key h.serial mine
held_open n seen mine xs h are held =
    omega (arith, are.counted h.class h.key h.serial, count-without h.class h.key h.serial h xs held, ap bit (own_hold h))

-- a pass without turns and receipts is clear
pub clear_from : (n : ℕ) (seen mine : List Entry) (xs : List Hold) → AreOpen n seen mine xs → xs ≡ [] → ((class key : ℕ) → computes class key false mine ≡ false) → IsClear mine
clear_from n seen mine xs are none turns = record {
  turns = turns;
  holds = λ class key serial.
      let empty : count_by (is_hold_of class key serial) xs ≡ 0 = ap (count_by (is_hold_of class key serial)) none in
      omega (arith, are.counted class key serial, empty);
}
