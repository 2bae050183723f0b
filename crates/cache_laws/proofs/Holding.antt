-- What a pass holds is what it took, less what it gave back.
use Rattle.std.proofs.Common.{◌≡◌, ℕ, ◌+◌, ◌<◌, Bool, true, false, cond, ◌&&◌, ◌||◌, List, [], ◌∷◌, ◌++◌, refl, sym, ap, ◌∙◌, subst, nat_eq, eqb-true, eq-eqb, arith}
use Rattle.std.specs.Prelude.{Option, Some, None, count_by}
use Rattle.std.specs.List.{list_any}
use Rattle.std.specs.Option.{option_map_or}
use Rattle.std.proofs.lemmas.List.Sums.{sum_by-cons, sum_by_push}
use Rattle.cache_core.specs.Holds.{without_one}
use Rattle.cache_core.specs.Rows.{state_of, is_live, is_held_by}
use Rattle.cache_core.specs.Core.{Core, is_in, step}
use Rattle.cache_core.specs.Laws.{Leaves}
use Rattle.cache_core.specs.declared.entry.Entry.{Entry}
use Rattle.cache_core.specs.declared.entry.Act.{Act}
use Rattle.cache_core.specs.declared.entry.Act.TheVariants.{Start, Hit, Pending, NotCached, Finish, Abandon, Give, Evict}
use Rattle.cache_core.specs.declared.row.State.{State}
use Rattle.cache_core.specs.declared.row.State.TheVariants.{Running, Live}
use Rattle.cache_core.proofs.Names.{nat_eq-sym}
use Rattle.cache_core.proofs.Evicting.{held_is_not_evicted}
use Rattle.turn_lock.specs.Entries.{entries_of, is_about, takes_hold, gives_back, holds_taken, holds_given}
use Rattle.turn_lock.proofs.Lists.{bit}
use Rattle.cache_laws.specs.Passes.{holds_in, holds_of, HoldsAreCounted, IsOpen, OpenReceiptIsLive, OpenReceiptIsNotEvicted}
use Rattle.cache_laws.proofs.Histories.{history_keeps}
use Rattle.cache_laws.proofs.Own.{own_count}
use Rattle.cache_laws.proofs.States.{state_after, Finds, Moves, moves}

-- the holds in the state of a row, if there is one
abbrev held_in : ℕ → ℕ → Option State → ℕ
held_in pass serial o = option_map_or (holds_in pass serial) o 0

-- one hold more
held_more : (pass serial owner own size : ℕ) (holders : List ℕ)
    → holds_in pass serial (Live own size (holders ++ owner ∷ [])) ≡ holds_in pass serial (Live own size holders) + bit (nat_eq owner pass && nat_eq own serial)
held_more pass serial owner own size holders =
    by (nat_eq owner pass) (nat_eq own serial) (count_by (nat_eq pass) holders) (count_by (nat_eq pass) (holders ++ owner ∷ []))
    (sum_by_push (λ h. bit (nat_eq pass h)) holders owner ∙ ap (λ b. count_by (nat_eq pass) holders + bit b) (nat_eq-sym pass owner))
  where
    by : (a b : Bool) (before after : ℕ) → after ≡ before + bit a → cond b after 0 ≡ cond b before 0 + bit (a && b)
    by true true before after h = h
    by false true before after h = h
    by true false before after h = refl
    by false false before after h = refl

-- one hold less
released_less : (pass owner : ℕ) (holders : List ℕ) → list_any (nat_eq owner) holders ≡ true
    → count_by (nat_eq pass) (without_one owner holders) + bit (nat_eq owner pass) ≡ count_by (nat_eq pass) holders
released_less pass owner [] has = absurd (cc)
released_less pass owner (h ∷ hs) has = by (nat_eq owner h) refl has (released_less pass owner hs)
  where
    by : (b : Bool) → nat_eq owner h ≡ b → (b || list_any (nat_eq owner) hs) ≡ true
        → (list_any (nat_eq owner) hs ≡ true → count_by (nat_eq pass) (without_one owner hs) + bit (nat_eq owner pass) ≡ count_by (nat_eq pass) hs)
        → count_by (nat_eq pass) (cond b hs (h ∷ without_one owner hs)) + bit (nat_eq owner pass) ≡ count_by (nat_eq pass) (h ∷ hs)
    by true same has rest =
        let one : bit (nat_eq pass h) ≡ bit (nat_eq owner pass) = ap (λ n. bit (nat_eq pass n)) (sym (eqb-true owner h same)) ∙ ap bit (nat_eq-sym pass owner) in
        omega (arith, one, sum_by-cons (λ n. bit (nat_eq pass n)) h hs)
    by false other has rest =
        omega (arith, rest has, sum_by-cons (λ n. bit (nat_eq pass n)) h hs, sum_by-cons (λ n. bit (nat_eq pass n)) h (without_one owner hs))

given_less : (pass serial owner own size : ℕ) (holders : List ℕ) → list_any (nat_eq owner) holders ≡ true
    → holds_in pass serial (Live own size (without_one owner holders)) + bit (nat_eq owner pass && nat_eq own serial) ≡ holds_in pass serial (Live own size holders)
given_less pass serial owner own size holders has =
    by (nat_eq owner pass) (nat_eq own serial) (count_by (nat_eq pass) holders) (count_by (nat_eq pass) (without_one owner holders)) (released_less pass owner holders has)
  where
    by : (a b : Bool) (before after : ℕ) → after + bit a ≡ before → cond b after 0 + bit (a && b) ≡ cond b before 0
    by true true before after h = h
    by false true before after h = h
    by true false before after h = refl
    by false false before after h = refl

-- a new value is held once
held_first : (pass serial owner own size : ℕ) → holds_in pass serial (Live own size (owner ∷ [])) ≡ bit (nat_eq owner pass && nat_eq own serial)
held_first pass serial owner own size = held_more pass serial owner own size [] ∙ by (nat_eq owner pass) (nat_eq own serial)
  where
    by : (a b : Bool) → cond b 0 0 + bit (a && b) ≡ bit (a && b)
    by true true = refl
    by true false = refl
    by false true = refl
    by false false = refl

no_value : (pass serial own size : ℕ) → holds_in pass serial (Live own size []) ≡ 0
no_value pass serial own size = by (nat_eq own serial)
  where
    by : (b : Bool) → cond {A = ℕ} b 0 0 ≡ 0
    by true = refl
    by false = refl

none : (a : Bool) → bit (a && false) ≡ 0
none true = refl
none false = refl

-- an act that steps changes the holds of a pass by what the pass took and gave
abbrev Balances : ℕ → ℕ → ℕ → Act → Option State → Type 0
Balances pass serial owner act o =
    held_in pass serial (state_after owner act o) + bit (nat_eq owner pass && gives_back serial act) ≡ held_in pass serial o + bit (nat_eq owner pass && takes_hold serial act)

balances : (pass serial owner : ℕ) (act : Act) (o : Option State) → Finds owner act o → Balances pass serial owner act o
balances pass serial owner Start o found = subst (Balances pass serial owner Start) (sym found) refl
balances pass serial owner (Hit own) o found =
    subst (Balances pass serial owner (Hit own)) (sym found.2)
    (omega (arith, none (nat_eq owner pass), held_more pass serial owner own found.0 found.1))
balances pass serial owner (Pending other) o found = refl
balances pass serial owner NotCached o found = refl
balances pass serial owner (Finish own size) o found =
    subst (Balances pass serial owner (Finish own size)) (sym found)
    (omega (arith, none (nat_eq owner pass), held_first pass serial owner own size))
balances pass serial owner Abandon o found = subst (Balances pass serial owner Abandon) (sym found) refl
balances pass serial owner (Give own) o found =
    subst (Balances pass serial owner (Give own)) (sym found.2)
    (omega (arith, none (nat_eq owner pass), given_less pass serial owner own found.0 found.1 found.3))
balances pass serial owner (Evict own) o found =
    subst (Balances pass serial owner (Evict own)) (sym found.1)
    (omega (arith, none (nat_eq owner pass), no_value pass serial own found.0))

-- what is kept of a history
abbrev Counted : ℕ → ℕ → ℕ → ℕ → List Entry → Core → Type 0
Counted pass class key serial history core =
    holds_of pass class key serial core.rows + holds_given class key serial (entries_of pass history) ≡ holds_taken class key serial (entries_of pass history)

counted_step : (pass class key serial : ℕ) (es : List Entry) (core next : Core) (e : Entry) → Moves class key core next e
    → Counted pass class key serial es core → Counted pass class key serial (es ++ e ∷ []) next
counted_step pass class key serial es core next e m h =
    by (is_about class key e) refl m.own m.after
    (own_count (λ x. is_about class key x && takes_hold serial x.act) pass es e)
    (own_count (λ x. is_about class key x && gives_back serial x.act) pass es e)
  where
    by : (b : Bool) → is_about class key e ≡ b
        → (b ≡ true → Finds e.pass e.act (state_of class key core.rows))
        → state_of class key next.rows ≡ cond b (state_after e.pass e.act (state_of class key core.rows)) (state_of class key core.rows)
        → holds_taken class key serial (entries_of pass (es ++ e ∷ [])) ≡ holds_taken class key serial (entries_of pass es) + bit (nat_eq e.pass pass && (b && takes_hold serial e.act))
        → holds_given class key serial (entries_of pass (es ++ e ∷ [])) ≡ holds_given class key serial (entries_of pass es) + bit (nat_eq e.pass pass && (b && gives_back serial e.act))
        → Counted pass class key serial (es ++ e ∷ []) next
    by true about found after taken given =
        omega (arith, h, taken, given, ap (held_in pass serial) after, balances pass serial e.pass e.act (state_of class key core.rows) (found refl))
    by false other found after taken given =
        omega (arith, h, taken, given, ap (held_in pass serial) after, none (nat_eq e.pass pass))

pub holds_are_counted : HoldsAreCounted
holds_are_counted budget history core leaves pass class key serial =
    history_keeps (Counted pass class key serial) budget
    (λ es core next e leaves s h. counted_step pass class key serial es core next e (moves budget es core next e leaves s class key) h)
    refl history core leaves

-- a list with an item that passes
some_counted : {X : Type 0} (p : X → Bool) (xs : List X) → 0 < count_by p xs → list_any p xs ≡ true
some_counted p [] h = absurd (omega arith)
some_counted p (x ∷ xs) h = by (p x) (sum_by-cons (λ y. bit (p y)) x xs) (some_counted p xs)
  where
    by : (b : Bool) → count_by p (x ∷ xs) ≡ bit b + count_by p xs → (0 < count_by p xs → list_any p xs ≡ true) → (b || list_any p xs) ≡ true
    by true e rest = refl
    by false e rest = rest (omega (arith, e, h))

-- a state in which a pass holds the value with a serial
pub held_is_live : (pass serial : ℕ) (o : Option State) → 0 < option_map_or (holds_in pass serial) o 0
    → (size : ℕ) × (holders : List ℕ) × (o ≡ Some (Live serial size holders)) × (list_any (nat_eq pass) holders ≡ true)
held_is_live pass serial None h = absurd (omega arith)
held_is_live pass serial (Some (Running owner)) h = absurd (omega arith)
held_is_live pass serial (Some (Live own size holders)) h = by (nat_eq own serial) refl h
  where
    by : (b : Bool) → nat_eq own serial ≡ b → 0 < cond b (count_by (nat_eq pass) holders) 0
        → (s : ℕ) × (hs : List ℕ) × (Some (Live own size holders) ≡ Some (Live serial s hs)) × (list_any (nat_eq pass) hs ≡ true)
    by true same h = (size, holders, ap (λ n. Some (Live n size holders)) (eqb-true own serial same), some_counted (nat_eq pass) holders h)
    by false other h = absurd (omega arith)

pub open_receipt_is_live : OpenReceiptIsLive
open_receipt_is_live budget history core leaves pass class key serial more =
    held_is_live pass serial (state_of class key core.rows) (omega (arith, more, holds_are_counted budget history core leaves pass class key serial))

-- its row is Live with the serial, and held by the pass: it may be given back
pub open_receipt_fits : (budget : ℕ) (history : List Entry) (core : Core) → Leaves budget history core → (pass class key serial : ℕ)
    → IsOpen class key serial (entries_of pass history)
    → (is_in (is_live serial) (state_of class key core.rows) ≡ true) × (is_in (is_held_by pass) (state_of class key core.rows) ≡ true)
open_receipt_fits budget history core leaves pass class key serial more =
    let live = open_receipt_is_live budget history core leaves pass class key serial more in
    (ap (is_in (is_live serial)) live.2 ∙ eq-eqb serial serial refl, ap (is_in (is_held_by pass)) live.2 ∙ live.3)

-- a list with a member is not empty
not_empty : (pass : ℕ) (holders : List ℕ) → list_any (nat_eq pass) holders ≡ true → holders ≡ [] → ⊥
not_empty pass [] has is = cc
not_empty pass (h ∷ hs) has is = cc

pub open_receipt_is_not_evicted : OpenReceiptIsNotEvicted
open_receipt_is_not_evicted budget history core leaves pass class key serial more entry evicted of_class of_key evicts = by (step core entry) refl
  where
    live : (size : ℕ) × (holders : List ℕ) × (state_of class key core.rows ≡ Some (Live serial size holders)) × (list_any (nat_eq pass) holders ≡ true)
    live = open_receipt_is_live budget history core leaves pass class key serial more

    no_holder : (next : Core) → step core entry ≡ Some next → (size : ℕ) × (state_of class key core.rows ≡ Some (Live evicted size []))
    no_holder next s =
        subst (λ k. (size : ℕ) × (state_of class k core.rows ≡ Some (Live evicted size []))) of_key
        (subst (λ c. (size : ℕ) × (state_of c entry.key core.rows ≡ Some (Live evicted size []))) of_class
        (held_is_not_evicted budget history core next entry evicted leaves s evicts))

    same : (next : Core) → step core entry ≡ Some next → live.1 ≡ []
    same next s = let both : Some (Live serial live.0 live.1) ≡ Some (Live evicted (no_holder next s).0 []) = sym live.2 ∙ (no_holder next s).1 in cc both

    by : (o : Option Core) → step core entry ≡ o → o ≡ None
    by None s = refl
    by (Some next) s = absurd (not_empty pass live.1 live.3 (same next s))
