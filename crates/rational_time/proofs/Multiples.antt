-- The common base that is computed is the least common multiple.
use Rattle.std.proofs.Common.{◌≡◌, ℕ, zero, suc, ◌%◌, ◌≤◌, List, [], ◌∷◌, ◌++◌, take, refl, arith}
use Rattle.std.specs.Int.{◌∣◌}
use Rattle.std.specs.List.{All}
use Rattle.std.proofs.lemmas.List.Elements.{All-nil, All-cons, All-head, All-tail, All-weaker, All-take}
use Rattle.std.proofs.Math.Nat.{dvd_trans, dvd_antisymm, one-dvd, le_of_dvd}
use Rattle.rational_time.specs.Measure.{IsMeasure}
use Rattle.rational_time.specs.Times.{IsLeastCommonMultiple, IsBaseOf, common_divisor_in, common_divisor, common_multiple, common_base}
use Rattle.rational_time.specs.declared.time.Time.{Time}
use Rattle.rational_time.proofs.Measures.{IsMultipleOfBoth, measure_at_zero, measure_step, multiple_from_measure}
use Rattle.rational_time.proofs.Bases.{multiple_of_more}

divisor_in : (turns a b : ℕ) → b ≤ turns → IsMeasure a b (common_divisor_in turns a b)
divisor_in zero a b h = measure_at_zero a b (omega arith)
divisor_in (suc turns) a zero h = measure_at_zero a zero refl
divisor_in (suc turns) a (suc b) h =
    measure_step a (suc b) _ (divisor_in turns (suc b) (a % suc b) (omega arith))

pub multiple_of_both : (a b : ℕ) → 1 ≤ a → 1 ≤ b → IsMultipleOfBoth a b (common_multiple a b)
multiple_of_both a b some other = multiple_from_measure a b (common_divisor a b) some other (divisor_in b a b (omega arith))

-- it is the least, and not 0
pub record IsBase (times : List Time) (n : ℕ) : Type 0 where
  pub multiple : IsLeastCommonMultiple times n
  pub positive : 1 ≤ n

pub is_base : (times : List Time) → All (λ (time : Time). 1 ≤ time.scale) times → IsBase times (common_base times)
is_base [] scaled = record { multiple = record { common = All-nil _; least = λ m h. one-dvd m }; positive = omega arith }
is_base (time ∷ times) scaled =
    let P : Time → Type 0 = λ t. 1 ≤ t.scale in
    let rest = is_base times (All-tail P time times scaled) in
    let both = multiple_of_both time.scale (common_base times) (All-head P time times scaled) rest.positive in
    record {
      multiple = record {
        common =
            All-cons (λ (t : Time). t.scale ∣ common_base (time ∷ times)) time times both.first
            (All-weaker (λ (t : Time). t.scale ∣ common_base times) (λ (t : Time). t.scale ∣ common_base (time ∷ times)) (λ t d. dvd_trans t.scale d both.second) times rest.multiple.common);
        least = λ m all.
            both.least m
            (All-head (λ (t : Time). t.scale ∣ m) time times all)
            (rest.multiple.least m (All-tail (λ (t : Time). t.scale ∣ m) time times all));
      };
      positive = both.positive;
    }

pub least : (times : List Time) → All (λ (time : Time). 1 ≤ time.scale) times → IsLeastCommonMultiple times (common_base times)
least times scaled = (is_base times scaled).multiple

-- there is but one
pub one_base : (times : List Time) (n : ℕ) → All (λ (time : Time). 1 ≤ time.scale) times → IsLeastCommonMultiple times n → n ≡ common_base times
one_base times n scaled h =
    let k = least times scaled in
    dvd_antisymm (h.least _ k.common) (k.least n h.common)

pub base_value : (times : List Time) (n : ℕ) → IsBaseOf times n → n ≡ common_base times
base_value times n h = one_base times n h.scaled h.multiple

-- ---- one more time

pub base_of_first : IsBase [] 1
base_of_first = record { multiple = record { common = All-nil _; least = λ m h. one-dvd m }; positive = omega arith }

pub base_with : (times : List Time) (time : Time) (base more : ℕ) → IsBase times base → IsMultipleOfBoth base time.scale more → IsBase (times ++ time ∷ []) more
base_with times time base more h both = record { multiple = multiple_of_more times time base more h.multiple both; positive = both.positive }

-- a multiple of the first times divides that of all
pub base_of_part : (times : List Time) (n part : ℕ) → All (λ (time : Time). 1 ≤ time.scale) times → IsBase (take n times) part → part ≤ common_base times
base_of_part times n part scaled h =
    let whole = is_base times scaled in
    le_of_dvd whole.positive (h.multiple.least _ (All-take (λ (t : Time). t.scale ∣ common_base times) n times whole.multiple.common))
