-- The base of one more time, and that no two answers fit one list of times.
use Rattle.std.proofs.Common.{◌≡◌, ◌↔◌, ℕ, zero, suc, ◌+◌, ◌*◌, ◌<◌, ◌≤◌, List, [], ◌∷◌, ◌++◌, take, refl, sym, ◌∙◌, subst, ap, arith}
use Rattle.std.specs.Prelude.{slice_get, unsigned_abs, Some, Ok, Err}
use Rattle.std.specs.declared.result.Result.{Result}
use Rattle.std.specs.Int.{◌∣◌}
use Rattle.std.specs.List.{All}
use Rattle.std.specs.List.Sorted.{IsPermutation}
use Rattle.std.proofs.lemmas.List.{take_more, take-take}
use Rattle.std.proofs.lemmas.List.Elements.{All-nil, All-push, All-pop, All-weaker, All-take}
use Rattle.std.proofs.lemmas.List.Sorted.{All-permutation, IsPermutation-sym}
use Rattle.std.proofs.lemmas.Option.{get_or_from_slice_get, slice_get_within}
use Rattle.std.proofs.Math.Nat.{dvd_trans, dvd_antisymm, one-dvd, le_of_dvd}
use Rattle.rational_time.specs.declared.base.TimeError.{TimeError}
use Rattle.rational_time.specs.declared.base.TimeError.TheVariants.{ZeroScale, TimeTooFar, BaseTooLarge}
use Rattle.rational_time.specs.declared.time.Time.{Time}
use Rattle.rational_time.specs.declared.time.TimeBase.{TimeBase}
use Rattle.rational_time.specs.Times.{IsNear, IsLeastCommonMultiple, IsBaseOf, IsFirstWithout, Refuses}
use Rattle.rational_time.proofs.Measures.{IsMultipleOfBoth}

-- ---- one more time

pub base_of_none : IsBaseOf [] 1
base_of_none = record {
  scaled = All-nil _;
  near = All-nil _;
  multiple = record { common = All-nil _; least = λ m h. one-dvd m };
  positive = omega arith;
  small = omega arith;
}

pub multiple_of_more : (times : List Time) (time : Time) (base multiple : ℕ) → IsLeastCommonMultiple times base → IsMultipleOfBoth base time.scale multiple → IsLeastCommonMultiple (times ++ time ∷ []) multiple
multiple_of_more times time base multiple h both = record {
  common =
      All-push (λ (t : Time). t.scale ∣ multiple) times time
      (All-weaker (λ (t : Time). t.scale ∣ base) (λ (t : Time). t.scale ∣ multiple) (λ t d. dvd_trans t.scale d both.first) times h.common)
      both.second;
  least = λ m all.
      let parts = All-pop (λ (t : Time). t.scale ∣ m) (times ++ time ∷ []) times (Some time) refl all in
      both.least m (h.least m parts.0) parts.1;
}

pub base_of_more : (times : List Time) (time : Time) (base multiple : ℕ) → IsBaseOf times base → 1 ≤ time.scale → IsNear time → IsMultipleOfBoth base time.scale multiple → multiple ≤ 2147483647 → IsBaseOf (times ++ time ∷ []) multiple
base_of_more times time base multiple h scaled near both small = record {
  scaled = All-push (λ (t : Time). 1 ≤ t.scale) times time h.scaled scaled;
  near = All-push IsNear times time h.near near;
  multiple = multiple_of_more times time base multiple h.multiple both;
  positive = both.positive;
  small = small;
}

-- the times up to and with the one at an index
pub taken : (times : List Time) (index : ℕ) (time : Time) → slice_get times index ≡ Some time → take (index + 1) times ≡ take index times ++ time ∷ []
taken times index time e =
    take_more times index time (slice_get_within times index time e)
    ∙ ap (λ (t : Time). take index times ++ t ∷ []) (get_or_from_slice_get times index time time e)

-- ---- one answer alone

at_element : (P : Time → Type 0) (times : List Time) (index : ℕ) (time : Time) → All P times → slice_get times index ≡ Some time → P time
at_element P times index time all e =
    subst P (get_or_from_slice_get times index time time e) (all index time (slice_get_within times index time e))

taken_all : (P : Time → Type 0) (n : ℕ) (times : List Time) → All P times → All P (take n times)
taken_all P n times all = All-take P n times all

-- times with a base have no fault
pub not_refused : (times : List Time) (base : ℕ) → IsBaseOf times base → (e : TimeError) → ¬ Refuses e times
not_refused times base h (ZeroScale index) r =
    let scaled = at_element (λ (t : Time). 1 ≤ t.scale) times index r.0 h.scaled r.1.here in
    omega (arith, scaled, r.2)
not_refused times base h (TimeTooFar index) r =
    let near = at_element IsNear times index r.0 h.near r.1.here in
    omega (arith, near, r.3)
not_refused times base h (BaseTooLarge index) r =
    let divided = r.4.1.least base (taken_all (λ (t : Time). t.scale ∣ base) (index + 1) times h.multiple.common) in
    let below = le_of_dvd h.positive divided in
    omega (arith, below, r.4.2, h.small)

slice_get-take : {X : Type 0} (xs : List X) (i j : ℕ) → i < j → slice_get (take j xs) i ≡ slice_get xs i
slice_get-take [] i zero h = absurd (omega arith)
slice_get-take [] i (suc j) h = refl
slice_get-take (x ∷ xs) i zero h = absurd (omega arith)
slice_get-take (x ∷ xs) zero (suc j) h = refl
slice_get-take (x ∷ xs) (suc i) (suc j) h = slice_get-take xs i j (omega arith)

abbrev index_of : TimeError → ℕ
index_of (ZeroScale index) = index
index_of (TimeTooFar index) = index
index_of (BaseTooLarge index) = index

first_in_part : (times : List Time) (index end : ℕ) (time : Time) → index < end → IsFirstWithout times index time → IsFirstWithout (take end times) index time
first_in_part times index end time h first = record {
  before = (first.before.0, subst (λ (part : List Time). IsBaseOf part first.before.0) (sym (take-take index end times (omega arith))) first.before.1);
  here = slice_get-take times index end h ∙ first.here;
}

-- a refusal is one of each longer part of the times
in_part : (times : List Time) (e : TimeError) (end : ℕ) → Refuses e times → index_of e < end → Refuses e (take end times)
in_part times (ZeroScale index) end r h = (r.0, first_in_part times index end r.0 h r.1, r.2)
in_part times (TimeTooFar index) end r h = (r.0, first_in_part times index end r.0 h r.1, r.2, r.3)
in_part times (BaseTooLarge index) end r h =
    let same = take-take (index + 1) end times (omega arith) in (
      r.0,
      first_in_part times index end r.0 h r.1,
      r.2,
      r.3,
      (r.4.0, subst (λ (part : List Time). IsLeastCommonMultiple part r.4.0) (sym same) r.4.1, r.4.2),
    )

-- the times before the first one at fault have a base
base_before : (times : List Time) (e : TimeError) → Refuses e times → (base : ℕ) × IsBaseOf (take (index_of e) times) base
base_before times (ZeroScale index) r = r.1.before
base_before times (TimeTooFar index) r = r.1.before
base_before times (BaseTooLarge index) r = r.1.before

not_earlier : (times : List Time) (e f : TimeError) → Refuses e times → Refuses f times → ¬ (index_of e < index_of f)
not_earlier times e f r q h =
    let base = base_before times f q in
    not_refused (take (index_of f) times) base.0 base.1 e (in_part times e (index_of f) r h)

same_time : (times : List Time) (i j : ℕ) (t u : Time) → i ≡ j → slice_get times i ≡ Some t → slice_get times j ≡ Some u → t ≡ u
same_time times i j t u e p q = cc

zero_and_scaled : (t u : Time) → t ≡ u → t.scale ≡ 0 → 1 ≤ u.scale → ⊥
zero_and_scaled t u e p q = omega (arith, ap (λ (time : Time). time.scale) e)

far_and_near : (t u : Time) → t ≡ u → 36000 * t.scale < unsigned_abs t.value → IsNear u → ⊥
far_and_near t u e p q = let near : IsNear t = subst IsNear (sym e) q in omega (arith, near)

same_at_index : (times : List Time) (e f : TimeError) → Refuses e times → Refuses f times → index_of e ≡ index_of f → e ≡ f
same_at_index times (ZeroScale i) (ZeroScale j) r q h = ap ZeroScale h
same_at_index times (TimeTooFar i) (TimeTooFar j) r q h = ap TimeTooFar h
same_at_index times (BaseTooLarge i) (BaseTooLarge j) r q h = ap BaseTooLarge h
same_at_index times (ZeroScale i) (TimeTooFar j) r q h =
    absurd (zero_and_scaled r.0 q.0 (same_time times i j r.0 q.0 h r.1.here q.1.here) r.2 q.2)
same_at_index times (ZeroScale i) (BaseTooLarge j) r q h =
    absurd (zero_and_scaled r.0 q.0 (same_time times i j r.0 q.0 h r.1.here q.1.here) r.2 q.2)
same_at_index times (TimeTooFar i) (ZeroScale j) r q h =
    absurd (zero_and_scaled q.0 r.0 (same_time times j i q.0 r.0 (sym h) q.1.here r.1.here) q.2 r.2)
same_at_index times (BaseTooLarge i) (ZeroScale j) r q h =
    absurd (zero_and_scaled q.0 r.0 (same_time times j i q.0 r.0 (sym h) q.1.here r.1.here) q.2 r.2)
same_at_index times (TimeTooFar i) (BaseTooLarge j) r q h =
    absurd (far_and_near r.0 q.0 (same_time times i j r.0 q.0 h r.1.here q.1.here) r.3 q.3)
same_at_index times (BaseTooLarge i) (TimeTooFar j) r q h =
    absurd (far_and_near q.0 r.0 (same_time times j i q.0 r.0 (sym h) q.1.here r.1.here) q.3 r.3)

one_refusal : (times : List Time) (e f : TimeError) → Refuses e times → Refuses f times → e ≡ f
one_refusal times e f r q =
    let below = not_earlier times e f r q in
    let above = not_earlier times f e q r in
    same_at_index times e f r q (omega (arith, below, above))

-- ---- the answers

pub refused_iff : (times : List Time) (f : TimeError) → Refuses f times → (e : TimeError) → ◌≡◌ {A = Result TimeBase TimeError} (Err f) (Err e) ↔ Refuses e times
refused_iff times f r e =
    (λ same. let equal : f ≡ e = cc in subst (λ (x : TimeError). Refuses x times) equal r, λ q. ap Err (one_refusal times f e r q))

pub accepted_iff : (times : List Time) (base : ℕ) (v : TimeBase) → IsBaseOf times base → (e : TimeError) → ◌≡◌ {A = Result TimeBase TimeError} (Ok v) (Err e) ↔ Refuses e times
accepted_iff times base v h e = (λ same. cc, λ q. absurd (not_refused times base h e q))

-- ---- the order of times

pub any_order : (times others : List Time) (base other : ℕ) → IsPermutation times others → IsBaseOf times base → IsBaseOf others other → base ≡ other
any_order times others base other moved h k =
    let back = IsPermutation-sym times others moved in
    dvd_antisymm
    (h.multiple.least other (All-permutation (λ (t : Time). t.scale ∣ other) others times back k.multiple.common))
    (k.multiple.least base (All-permutation (λ (t : Time). t.scale ∣ base) times others moved h.multiple.common))
