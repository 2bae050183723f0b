-- Times rise exactly where their ticks do.
use Rattle.std.proofs.Common.{◌≡◌, ◌↔◌, ℕ, zero, suc, ◌+◌, ◌*◌, ◌<◌, ◌≤◌, List, [], ◌∷◌, ℤ, pos, negsuc, neg_ℤ, ◌≤ℤ◌, ◌<ℤ◌, ◌*ℤ◌, refl, sym, ◌∙◌, ap, arith}
use Rattle.std.specs.Prelude.{IsTrue}
use Rattle.std.specs.List.{All}
use Rattle.std.proofs.Math.Nat.{mul-lt-mul_of_pos_right, mul-pos}
use Rattle.std.proofs.lemmas.Bool.{and_parts, and_from}
use Rattle.std.proofs.lemmas.Int.{ints, by_lt_z}
use Rattle.std.proofs.lemmas.List.Elements.{All-head, All-tail}
use Rattle.rational_time.specs.Times.{tick_of, comes_before}
use Rattle.rational_time.specs.declared.time.Time.{Time}
use Rattle.rational_time.proofs.Numbers.{scaled_up, negated-product}
use Rattle.param_stream.specs.declared.key.Keyframe.{Keyframe}
use Rattle.param_stream.specs.Curve.{IsTimed, IsRising, rises, rises_from, key_tick}

-- ---- products by a positive number keep the order

grows : (a b : ℤ) (k : ℕ) → 1 ≤ k → a <ℤ b → (a *ℤ pos k) <ℤ (b *ℤ pos k)
grows (pos a) (pos b) k some h =
    let less : a < b = omega (arith, ints) in
    omega (arith, ints, mul-lt-mul_of_pos_right {m = a} {n = b} {k = k} less some)
grows (pos a) (negsuc b) k some h = absurd (omega (arith, ints))
grows (negsuc a) (pos b) k some h =
    let below : 0 < suc a * k = mul-pos {m = suc a} {n = k} (omega arith) some in
    omega (arith, ints, below)
grows (negsuc a) (negsuc b) k some h =
    let less : suc b < suc a = omega (arith, ints) in
    omega (arith, ints, mul-lt-mul_of_pos_right {m = suc b} {n = suc a} {k = k} less some)

same_or_less : (a b : ℤ) (P : Type 0) → b ≤ℤ a → (b <ℤ a → P) → (b ≡ a → P) → P
same_or_less a b P le less same = by_lt_z {P = P} b a less (λ h. same (omega (arith, ints, le, h)))

shrinks : (a b : ℤ) (k : ℕ) → 1 ≤ k → (a *ℤ pos k) <ℤ (b *ℤ pos k) → a <ℤ b
shrinks a b k some h =
    by_lt_z {P = a <ℤ b} a b (λ less. less)
    (λ le. same_or_less a b (a <ℤ b) le
    (λ less. absurd (omega (arith, ints, grows b a k some less, h)))
    (λ same. absurd (omega (arith, ints, ap (λ (z : ℤ). z *ℤ pos k) same, h))))

twice : (v : ℤ) (m n : ℕ) → (v *ℤ pos m) *ℤ pos n ≡ v *ℤ pos (m * n)
twice (pos a) m n = ap pos (omega arith)
twice (negsuc a) m n = negated-product (suc a * m) n ∙ ap (λ (x : ℕ). neg_ℤ (pos x)) (omega arith)

-- ---- ticks stand in the order of their times

-- a time times the other's scale, in ticks: as the other way round
exchanged : (v w : ℤ) (base a b : ℕ) → (v *ℤ pos a) ≡ (w *ℤ pos base) → (v *ℤ pos (a * b)) ≡ ((w *ℤ pos b) *ℤ pos base)
exchanged v w base a b e =
    sym (twice v a b) ∙ ap (λ (z : ℤ). z *ℤ pos b) e ∙ twice w base b ∙ ap (λ (n : ℕ). w *ℤ pos n) (omega arith) ∙ sym (twice w b base)

-- both sides of the order by cross products, in ticks of each
pub record Crossed (base : ℕ) (x y : Time) : Type 0 where
  pub first : (tick_of base x *ℤ pos (x.scale * y.scale)) ≡ ((x.value *ℤ pos y.scale) *ℤ pos base)
  pub second : (tick_of base y *ℤ pos (x.scale * y.scale)) ≡ ((y.value *ℤ pos x.scale) *ℤ pos base)

crossed : (base : ℕ) (key next : Keyframe) → IsTimed base key → IsTimed base next → Crossed base key.time next.time
crossed base key next h k = record {
  first = exchanged _ _ base key.time.scale next.time.scale (scaled_up key.time.value base key.time.scale h.divides);
  second =
      ap (λ (n : ℕ). tick_of base next.time *ℤ pos n) (omega arith)
      ∙ exchanged _ _ base next.time.scale key.time.scale (scaled_up next.time.value base next.time.scale k.divides);
}

pub rises_in_ticks : (base : ℕ) (key next : Keyframe) → 1 ≤ base → IsTimed base key → IsTimed base next → IsTrue (comes_before key.time next.time) → key_tick base key <ℤ key_tick base next
rises_in_ticks base key next some h k e =
    let c = crossed base key next h k in
    let less : (key.time.value *ℤ pos next.time.scale) <ℤ (next.time.value *ℤ pos key.time.scale) = omega (arith, ints, e) in
    let grown = grows _ _ base some less in
    shrinks _ _ (key.time.scale * next.time.scale) (mul-pos {m = key.time.scale} {n = next.time.scale} h.scaled k.scaled) (rw (c.first, c.second) grown)

pub rises_in_time : (base : ℕ) (key next : Keyframe) → 1 ≤ base → IsTimed base key → IsTimed base next → key_tick base key <ℤ key_tick base next → IsTrue (comes_before key.time next.time)
rises_in_time base key next some h k less =
    let c = crossed base key next h k in
    let grown = grows _ _ (key.time.scale * next.time.scale) (mul-pos {m = key.time.scale} {n = next.time.scale} h.scaled k.scaled) less in
    let back : (key.time.value *ℤ pos next.time.scale) <ℤ (next.time.value *ℤ pos key.time.scale) = shrinks _ _ base some (rw (← c.first, ← c.second) grown) in
    grind (arith, ints, back)

-- ---- all of them

rising_from : (base : ℕ) (key : Keyframe) (rest : List Keyframe) → 1 ≤ base → All (IsTimed base) (key ∷ rest) → IsTrue (rises_from key rest) → IsRising base (key ∷ rest)
rising_from base key [] some timed e i inside = absurd (omega arith)
rising_from base key (next ∷ rest) some timed e zero inside =
    let tail = All-tail (IsTimed base) key (next ∷ rest) timed in
    rises_in_ticks base key next some (All-head (IsTimed base) key (next ∷ rest) timed) (All-head (IsTimed base) next rest tail) (and_parts _ _ e).0
rising_from base key (next ∷ rest) some timed e (suc i) inside =
    let plus : suc i + 1 ≡ suc (i + 1) = omega arith in
    rw plus (rising_from base next rest some (All-tail (IsTimed base) key (next ∷ rest) timed) (and_parts _ _ e).1 i (omega arith))

tail_rising : (base : ℕ) (key : Keyframe) (rest : List Keyframe) → IsRising base (key ∷ rest) → IsRising base rest
tail_rising base key rest rising i inside =
    let plus : suc i + 1 ≡ suc (i + 1) = omega arith in
    let h = rising (suc i) (omega arith) in
    rw plus at h

rises_of : (base : ℕ) (key : Keyframe) (rest : List Keyframe) → 1 ≤ base → All (IsTimed base) (key ∷ rest) → IsRising base (key ∷ rest) → IsTrue (rises_from key rest)
rises_of base key [] some timed rising = refl
rises_of base key (next ∷ rest) some timed rising =
    let tail = All-tail (IsTimed base) key (next ∷ rest) timed in
    and_from _ _
    (rises_in_time base key next some (All-head (IsTimed base) key (next ∷ rest) timed) (All-head (IsTimed base) next rest tail) (rising 0 (omega arith)))
    (rises_of base next rest some tail (tail_rising base key (next ∷ rest) rising))

pub both_rise : (base : ℕ) (keys : List Keyframe) → 1 ≤ base → All (IsTimed base) keys → IsTrue (rises keys) ↔ IsRising base keys
both_rise base [] some timed = (λ e i inside. absurd (omega arith), λ rising. refl)
both_rise base (key ∷ rest) some timed = (rising_from base key rest some timed, rises_of base key rest some timed)
