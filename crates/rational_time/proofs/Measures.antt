-- Euclid's steps, and the least common multiple that his measure gives.
use Rattle.std.proofs.Common.{◌≡◌, ℕ, ◌+◌, ◌*◌, ◌/◌, ◌%◌, ◌<◌, ◌≤◌, sym, subst, arith}
use Rattle.std.specs.Int.{◌∣◌}
use Rattle.std.proofs.Math.Nat.{dvd_refl, dvd-zero, dvd-mod_iff, dvd-add_iff_right, dvd-mul_right_of_dvd, dvd-mul_left, dvd-mul_right, dvd_of_mul-dvd-mul_right, mul-dvd-mul_left, mul-dvd-mul_right, pos_of_dvd_of_pos, div-add-mod', mul-div_cancel', mul_comm, mul-pos}
use Rattle.rational_time.specs.Measure.{IsMeasure}

pub measure_at_zero : (a b : ℕ) → b ≡ 0 → IsMeasure a b a
measure_at_zero a b e = record {
  first = dvd_refl a;
  second = subst (λ (n : ℕ). a ∣ n) (sym e) (dvd-zero a);
  combined = λ n m p q. p;
}

-- what divides multiples of a and of b divides that multiple of the rest
rest_divided : (a b n m : ℕ) → n ∣ m * a → n ∣ m * b → n ∣ m * (a % b)
rest_divided a b n m p q =
    let split : m * b * (a / b) + m * (a % b) ≡ m * a = grind (arith, div-add-mod' a b) in
    (dvd-add_iff_right n {m = m * b * (a / b)} {n = m * (a % b)} (dvd-mul_right_of_dvd n q (a / b))).1 (subst (λ (k : ℕ). n ∣ k) (sym split) p)

pub measure_step : (a b g : ℕ) → IsMeasure b (a % b) g → IsMeasure a b g
measure_step a b g h = record {
  first = (dvd-mod_iff g h.first).0 h.second;
  second = h.first;
  combined = λ n m p q. h.combined n m q (rest_divided a b n m p q);
}

-- what two numbers' least common multiple is
pub record IsMultipleOfBoth (a b multiple : ℕ) : Type 0 where
  pub first : a ∣ multiple
  pub second : b ∣ multiple
  pub least : (m : ℕ) → a ∣ m → b ∣ m → multiple ∣ m
  pub positive : 1 ≤ multiple

exchange : (x y g a b : ℕ) → g * x ≡ a → g * y ≡ b → a * y ≡ x * b
exchange x y g a b e f = rw (← e, ← f) (omega arith)

gathered : (x g a b : ℕ) → g * x ≡ a → x * b * g ≡ a * b
gathered x g a b e = rw (← e) (omega arith)

pub multiple_from_measure : (a b g : ℕ) → 1 ≤ a → 1 ≤ b → IsMeasure a b g → IsMultipleOfBoth a b (a / g * b)
multiple_from_measure a b g some other h =
    let g_positive : 0 < g = pos_of_dvd_of_pos h.first some in
    let whole_a : g * (a / g) ≡ a = mul-div_cancel' g h.first in
    let whole_b : g * (b / g) ≡ b = mul-div_cancel' g h.second in
    let by_a : a * (b / g) ≡ a / g * b = exchange (a / g) (b / g) g a b whole_a whole_b in
    let times_g : a / g * b * g ≡ a * b = gathered (a / g) g a b whole_a in
    record {
      first = subst (λ (k : ℕ). a ∣ k) by_a (dvd-mul_right a (b / g));
      second = dvd-mul_left b (a / g);
      least = λ m p q.
          let over_a : a * b ∣ m * a = subst (λ (k : ℕ). a * b ∣ k) (mul_comm a m) (mul-dvd-mul_left b a q) in
          let over_b : a * b ∣ m * b = mul-dvd-mul_right a p b in
          dvd_of_mul-dvd-mul_right (a / g * b) g_positive (subst (λ (k : ℕ). k ∣ m * g) (sym times_g) (h.combined (a * b) m over_a over_b));
      positive = pos_of_dvd_of_pos (dvd-mul_right (a / g * b) g) (rw times_g (mul-pos some other));
    }
