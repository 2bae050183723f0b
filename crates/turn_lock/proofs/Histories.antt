-- Histories that begin with others, and their entries by pass.
use Rattle.std.proofs.Common.{◌≡◌, ◌≢◌, ℕ, ◌<◌, ◌≤◌, Bool, true, false, cond, List, [], ◌∷◌, ◌++◌, length, refl, sym, ap, ap₂, ◌∙◌, subst, arith, append_assoc, append-nil, length-append, eq-eqb, ne_eqb, nat_eq}
use Rattle.std.specs.Prelude.{nat_le}
use Rattle.std.proofs.lemmas.Bool.{leb-true, leb-false}
use Rattle.cache_core.specs.declared.entry.Entry.{Entry}
use Rattle.turn_lock.specs.Entries.{Begins, entries_of, AreOf, longer}

pub entries-append : (n : ℕ) (xs ys : List Entry) → entries_of n (xs ++ ys) ≡ entries_of n xs ++ entries_of n ys
entries-append n [] ys = refl
entries-append n (x ∷ xs) ys = by (nat_eq x.pass n) (entries-append n xs ys)
  where
    by : (b : Bool) → entries_of n (xs ++ ys) ≡ entries_of n xs ++ entries_of n ys
        → cond b (x ∷ entries_of n (xs ++ ys)) (entries_of n (xs ++ ys)) ≡ cond b (x ∷ entries_of n xs) (entries_of n xs) ++ entries_of n ys
    by true e = ap (λ l. x ∷ l) e
    by false e = e

entries-own : (n : ℕ) (xs : List Entry) → AreOf n xs → entries_of n xs ≡ xs
entries-own n [] all = refl
entries-own n (x ∷ xs) all = ap (λ b. cond b (x ∷ entries_of n xs) (entries_of n xs)) (eq-eqb x.pass n all.0) ∙ ap (λ l. x ∷ l) (entries-own n xs all.1)

entries-other : (m n : ℕ) (xs : List Entry) → AreOf n xs → m ≢ n → entries_of m xs ≡ []
entries-other m n [] all differs = refl
entries-other m n (x ∷ xs) all differs =
    ap (λ b. cond b (x ∷ entries_of m xs) (entries_of m xs)) (ne_eqb x.pass m (λ e. differs (sym e ∙ all.0))) ∙ entries-other m n xs all.1 differs

-- entries of one pass more
pub entries-more_other : (m n : ℕ) (history added new : List Entry) → new ≡ history ++ added → AreOf n added → m ≢ n → entries_of m new ≡ entries_of m history
entries-more_other m n history added new is all differs =
    ap (entries_of m) is ∙ entries-append m history added ∙ ap (λ l. entries_of m history ++ l) (entries-other m n added all differs) ∙ append-nil (entries_of m history)

pub entries-more_own : (n : ℕ) (history added new mine : List Entry) → new ≡ history ++ added → AreOf n added → entries_of n history ≡ mine → entries_of n new ≡ mine ++ added
entries-more_own n history added new mine is all own =
    ap (entries_of n) is ∙ entries-append n history added ∙ ap₂ (λ a b. a ++ b) own (entries-own n added all)

pub begins-refl : (xs : List Entry) → Begins xs xs
begins-refl xs = ([], sym (append-nil xs))

pub begins-trans : (xs ys zs : List Entry) → Begins xs ys → Begins ys zs → Begins xs zs
begins-trans xs ys zs a b = (a.0 ++ b.0, b.1 ∙ ap (λ l. l ++ b.0) a.1 ∙ append_assoc xs a.0 b.0)

no_length : (xs : List Entry) → length xs ≡ 0 → xs ≡ []
no_length [] e = refl
no_length (x ∷ xs) e = absurd (omega arith)

-- a history that begins another and is no shorter is that one
pub begins-whole : (xs ys : List Entry) → Begins xs ys → length ys ≤ length xs → xs ≡ ys
begins-whole xs ys b le =
    let none : b.0 ≡ [] = no_length b.0 (omega (arith, ap length b.1, length-append xs b.0)) in
    sym (b.1 ∙ ap (λ l. xs ++ l) none ∙ append-nil xs)

begins-length : (xs ys : List Entry) → Begins xs ys → length xs ≤ length ys
begins-length xs ys b = omega (arith, ap length b.1, length-append xs b.0)

-- of two beginnings of one history the shorter begins the longer
shorter_begins : (xs ys r q : List Entry) → xs ++ r ≡ ys ++ q → length xs ≤ length ys → Begins xs ys
shorter_begins [] ys r q e le = (ys, refl)
shorter_begins (x ∷ xs) [] r q e le = absurd (omega arith)
shorter_begins (x ∷ xs) (y ∷ ys) r q e le =
    let tails : xs ++ r ≡ ys ++ q = cc in
    let heads : x ≡ y = cc in
    let rest = shorter_begins xs ys r q tails (omega arith) in
    (rest.0, ap₂ (λ z l. z ∷ l) (sym heads) rest.1)

-- the longer of two beginnings of a history
pub record IsLonger (one other history : List Entry) : Type 0 where
  pub begins : Begins (longer one other) history
  pub from_one : Begins one (longer one other)
  pub from_other : Begins other (longer one other)

pub longer_of : (one other history : List Entry) → Begins one history → Begins other history → IsLonger one other history
longer_of one other history a b = by (nat_le (length other) (length one)) refl
  where
    by : (t : Bool) → nat_le (length other) (length one) ≡ t → IsLonger one other history
    by true e =
        let is : longer one other ≡ one = ap (λ t. cond t one other) e in
        let le : length other ≤ length one = leb-true _ _ e in
        record {
          begins = subst (λ l. Begins l history) (sym is) a;
          from_one = subst (Begins one) (sym is) (begins-refl one);
          from_other = subst (Begins other) (sym is) (shorter_begins other one b.0 a.0 (sym b.1 ∙ a.1) le);
        }
    by false e =
        let is : longer one other ≡ other = ap (λ t. cond t one other) e in
        let lt : length one < length other = leb-false _ _ e in
        record {
          begins = subst (λ l. Begins l history) (sym is) b;
          from_one = subst (Begins one) (sym is) (shorter_begins one other a.0 b.0 (sym a.1 ∙ b.1) (omega arith));
          from_other = subst (Begins other) (sym is) (begins-refl other);
        }

-- where one of them is the history, the longer is
pub longer_whole : (one other history whole : List Entry) → IsLonger one other history → Begins whole (longer one other) → whole ≡ history → longer one other ≡ history
longer_whole one other history whole is from e = begins-whole (longer one other) history is.begins (omega (arith, ap length e, begins-length whole (longer one other) from))

-- a history between two that have the same entries of a pass has them too
pub entries-between : (n : ℕ) (xs ys zs mine : List Entry) → Begins xs ys → Begins ys zs → entries_of n xs ≡ mine → entries_of n zs ≡ mine → entries_of n ys ≡ mine
entries-between n xs ys zs mine a b first last =
    let low : entries_of n ys ≡ mine ++ entries_of n a.0 = ap (entries_of n) a.1 ∙ entries-append n xs a.0 ∙ ap (λ l. l ++ entries_of n a.0) first in
    let high : mine ≡ entries_of n ys ++ entries_of n b.0 = sym last ∙ ap (entries_of n) b.1 ∙ entries-append n ys b.0 in
    let none : entries_of n a.0 ≡ [] = no_length (entries_of n a.0)
    (omega (arith, ap length low, ap length high, length-append mine (entries_of n a.0), length-append (entries_of n ys) (entries_of n b.0))) in
    low ∙ ap (λ l. mine ++ l) none ∙ append-nil mine

-- a beginning has no entry of a pass that the history has none of
pub entries-none : (n : ℕ) (xs ys : List Entry) → Begins xs ys → entries_of n ys ≡ [] → entries_of n xs ≡ []
entries-none n xs ys b none =
    no_length (entries_of n xs) (omega (arith, ap length (sym none ∙ ap (entries_of n) b.1 ∙ entries-append n xs b.0), length-append (entries_of n xs) (entries_of n b.0)))
