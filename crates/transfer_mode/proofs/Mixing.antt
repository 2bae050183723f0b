-- What each mode makes of two colours, from the products of alphas and colours.
use Rattle.std.proofs.Common.{◌≡◌, ℕ, ◌+◌, ◌-◌, ◌*◌, ◌%◌, ◌<◌, ◌≤◌, min, max, Bool, true, false, cond, refl, ap, ap₂, ◌∙◌, arith}
use Rattle.std.specs.Prelude.{nat_le, if◌then◌else◌}
use Rattle.std.proofs.Math.Nat.{mul-le-mul_left, mul_comm, mod-eq_of_lt, add-mod_left}
use Rattle.std.proofs.lemmas.Bool.{leb-true, leb-false}
use Rattle.transfer_mode.specs.Lanes.{Lane, IsLane}
use Rattle.transfer_mode.specs.Both as both
use Rattle.transfer_mode.proofs.Bounds.{both_left}

-- the products of a lane, in order
pub record Fit (size : ℕ) (l : Lane) : Type 0 where
  pub source : l.s * l.da ≤ l.sa * l.da
  pub destination : l.d * l.sa ≤ l.sa * l.da
  pub below_source : l.s * l.d ≤ l.s * l.da
  pub below_destination : l.s * l.d ≤ l.d * l.sa
  pub sum : l.s * l.da + l.d * l.sa ≤ l.sa * l.da + l.s * l.d
  pub fits : l.sa * l.da < size
  pub source_in : l.s ≤ l.sa
  pub destination_in : l.d ≤ l.da

pub fit_of : (most size : ℕ) → most * most < size → (l : Lane) → IsLane most l → Fit size l
fit_of most size small l h =
    let wide = mul-le-mul_left {m = l.da} {n = most} l.sa h.alpha in
    let high = mul-le-mul_left {m = l.sa} {n = most} most h.source_alpha in
    record {
      source = omega (arith, mul-le-mul_left l.da h.source);
      destination = omega (arith, mul-le-mul_left l.sa h.destination);
      below_source = mul-le-mul_left l.s h.destination;
      below_destination = omega (arith, mul-le-mul_left l.d h.source);
      sum = both_left l.sa l.da l.s l.d h.source h.destination;
      fits = omega (arith, wide, high, small, mul_comm l.sa most);
      source_in = h.source;
      destination_in = h.destination;
    }

plus_is : (size x y : ℕ) → x + y < size → (x + y) % size ≡ x + y
plus_is size x y h = mod-eq_of_lt h

less_is : (size x y : ℕ) → y ≤ x → x < size → (x + (size - y)) % size ≡ x - y
less_is size x y le h =
    let moved : x + (size - y) ≡ size + (x - y) = omega (arith, le, h) in
    ap (λ z. z % size) moved ∙ add-mod_left size (x - y) ∙ mod-eq_of_lt (omega (arith, h))

-- modulo size
abbrev pub plus : ℕ → ℕ → ℕ → ℕ
plus size x y = (x + y) % size

abbrev pub less : ℕ → ℕ → ℕ → ℕ
less size x y = (x + (size - y)) % size

pub screen_lane : (size : ℕ) (l : Lane) → Fit size l → plus size (l.s * l.da) (less size (l.d * l.sa) (l.s * l.d)) ≡ both.screen l.sa l.da l.s l.d
screen_lane size l h =
    ap (plus size (l.s * l.da)) (less_is size (l.d * l.sa) (l.s * l.d) h.below_destination (omega (arith, h.destination, h.fits)))
    ∙ plus_is size (l.s * l.da) (l.d * l.sa - l.s * l.d) (omega (arith, h.sum, h.below_destination, h.fits))
    ∙ omega (arith, h.below_destination)

pub difference_lane : (size : ℕ) (l : Lane) → Fit size l
    → less size (max (l.s * l.da) (l.d * l.sa)) (min (l.s * l.da) (l.d * l.sa)) ≡ both.difference l.sa l.da l.s l.d
difference_lane size l h =
    less_is size (max (l.s * l.da) (l.d * l.sa)) (min (l.s * l.da) (l.d * l.sa)) (omega arith) (omega (arith, h.source, h.destination, h.fits)) ∙ omega arith

pub exclusion_lane : (size : ℕ) (l : Lane) → Fit size l
    → plus size (less size (l.s * l.da) (l.s * l.d)) (less size (l.d * l.sa) (l.s * l.d)) ≡ both.exclusion l.sa l.da l.s l.d
exclusion_lane size l h =
    ap₂ (plus size) (less_is size (l.s * l.da) (l.s * l.d) h.below_source (omega (arith, h.source, h.fits)))
    (less_is size (l.d * l.sa) (l.s * l.d) h.below_destination (omega (arith, h.destination, h.fits)))
    ∙ plus_is size (l.s * l.da - l.s * l.d) (l.d * l.sa - l.s * l.d) (omega (arith, h.sum, h.below_destination, h.below_source, h.fits))
    ∙ omega (arith, h.below_destination, h.below_source)

pub add_lane : (size : ℕ) (l : Lane) → Fit size l
    → plus size (l.s * l.da) (min (l.d * l.sa) (less size (l.sa * l.da) (l.s * l.da))) ≡ both.add l.sa l.da l.s l.d
add_lane size l h =
    ap (λ z. plus size (l.s * l.da) (min (l.d * l.sa) z)) (less_is size (l.sa * l.da) (l.s * l.da) h.source h.fits)
    ∙ plus_is size (l.s * l.da) (min (l.d * l.sa) (l.sa * l.da - l.s * l.da)) (omega (arith, h.source, h.fits))
    ∙ omega (arith, h.source)

pub linear_burn_lane : (size : ℕ) (l : Lane) → Fit size l
    → l.s * l.da - less size (l.sa * l.da) (l.d * l.sa) ≡ both.linear_burn l.sa l.da l.s l.d
linear_burn_lane size l h =
    ap (λ z. l.s * l.da - z) (less_is size (l.sa * l.da) (l.d * l.sa) h.destination h.fits) ∙ omega (arith, h.destination)

pub linear_light_lane : (size : ℕ) (l : Lane) → Fit size l → (let rest = less size (l.sa * l.da) (l.s * l.da) in
    plus size (l.d * l.sa) (min (less size (l.sa * l.da) (l.d * l.sa)) (l.s * l.da - rest)) - (rest - l.s * l.da) ≡ both.linear_light l.sa l.da l.s l.d)
linear_light_lane size l h =
    ap₂ (λ u v. plus size (l.d * l.sa) (min u (l.s * l.da - v)) - (v - l.s * l.da)) (less_is size (l.sa * l.da) (l.d * l.sa) h.destination h.fits)
    (less_is size (l.sa * l.da) (l.s * l.da) h.source h.fits)
    ∙ ap (λ z. z - (l.sa * l.da - l.s * l.da - l.s * l.da)) (plus_is size (l.d * l.sa) (min (l.sa * l.da - l.d * l.sa) (l.s * l.da - (l.sa * l.da - l.s * l.da))) (omega (arith, h.destination, h.fits)))
    ∙ omega (arith, h.source, h.destination)

-- twice a part of a product
twice_below : (s sa da : ℕ) → 2 * s ≤ sa → 2 * (s * da) ≤ sa * da
twice_below s sa da h = omega (arith, mul-le-mul_left {m = 2 * s} {n = sa} da h)

twice_above : (s sa da : ℕ) → sa < 2 * s → sa * da + da ≤ 2 * (s * da)
twice_above s sa da h = omega (arith, mul-le-mul_left {m = sa + 1} {n = 2 * s} da (omega (arith, h)))

pub pin_light_lane : (size : ℕ) (l : Lane) → Fit size l → (let rest = less size (l.sa * l.da) (l.s * l.da) in
    max (min (l.d * l.sa) (plus size (l.s * l.da) (min (l.s * l.da) rest))) (l.s * l.da - rest) ≡ both.pin_light l.sa l.da l.s l.d)
pin_light_lane size l h =
    let p = l.s * l.da in
    let all = l.sa * l.da in
    ap (λ z. max (min (l.d * l.sa) (plus size p (min p z))) (p - z)) (less_is size all p h.source h.fits)
    ∙ ap (λ z. max (min (l.d * l.sa) z) (p - (all - p))) (plus_is size p (min p (all - p)) (omega (arith, h.source, h.fits)))
    ∙ by (nat_le (2 * l.s) l.sa) refl
  where
    by : (b : Bool) → nat_le (2 * l.s) l.sa ≡ b
        → max (min (l.d * l.sa) (l.s * l.da + min (l.s * l.da) (l.sa * l.da - l.s * l.da))) (l.s * l.da - (l.sa * l.da - l.s * l.da))
        ≡ (if b then min (l.d * l.sa) (2 * l.s * l.da) else max (l.d * l.sa) (2 * l.s * l.da - l.sa * l.da))
    by true e = omega (arith, twice_below l.s l.sa l.da (leb-true (2 * l.s) l.sa e), h.source)
    by false e = omega (arith, twice_above l.s l.sa l.da (leb-false (2 * l.s) l.sa e), h.source, h.destination)

-- a choice between two numbers by one of two tests that agree, or that differ where both numbers are one
choice : (b c : Bool) (x y x' y' : ℕ) → (b ≡ true → c ≡ true → x ≡ x') → (b ≡ false → c ≡ false → y ≡ y')
    → (b ≡ true → c ≡ false → x ≡ y') → (b ≡ false → c ≡ true → y ≡ x') → cond b x y ≡ (if c then x' else y')
choice true true x y x' y' tt' ff tf ft = tt' refl refl
choice false false x y x' y' tt' ff tf ft = ff refl refl
choice true false x y x' y' tt' ff tf ft = tf refl refl
choice false true x y x' y' tt' ff tf ft = ft refl refl

pub hard_mix_lane : (size : ℕ) (l : Lane) → Fit size l
    → cond (nat_le (less size (l.sa * l.da) (l.d * l.sa)) (l.s * l.da)) (l.sa * l.da) (less size (l.sa * l.da) (l.sa * l.da)) ≡ both.hard_mix l.sa l.da l.s l.d
hard_mix_lane size l h =
    let p = l.s * l.da in
    let q = l.d * l.sa in
    let all = l.sa * l.da in
    ap₂ (λ u v. cond (nat_le u p) all v) (less_is size all q h.destination h.fits) (less_is size all all (omega arith) h.fits)
    ∙ choice (nat_le (all - q) p) (nat_le all (p + q)) all (all - all) all 0 (λ _ _. refl) (λ _ _. omega arith)
    (λ e k. absurd (omega (arith, leb-true (all - q) p e, leb-false all (p + q) k)))
    (λ e k. absurd (omega (arith, leb-false (all - q) p e, leb-true all (p + q) k, h.destination)))

-- what both leave
left_of_both : (sa da s d : ℕ) → s ≤ sa → d ≤ da → sa * da - s * da - (d * sa - s * d) ≡ (sa - s) * (da - d)
left_of_both sa da s d hs hd =
    let u = sa - s in
    let v = da - d in
    let es : sa ≡ s + u = omega (arith, hs) in
    let ed : da ≡ d + v = omega (arith, hd) in
    let at : (s + u) * (d + v) - s * (d + v) - (d * (s + u) - s * d) ≡ u * v = omega arith in
    ap₂ (λ x y. x * y - s * y - (d * x - s * d)) es ed ∙ at

none_of_none : (sa da : ℕ) → da ≤ 0 → sa * da ≡ 0
none_of_none sa da h = let e : da ≡ 0 = omega (arith, h) in ap (λ z. sa * z) e ∙ omega arith

pub hard_light_lane : (size : ℕ) (l : Lane) → Fit size l → (let rest = less size (l.sa * l.da) (l.s * l.da) in
    let left = less size rest (less size (l.d * l.sa) (l.s * l.d)) in
    cond (nat_le (l.s * l.da) rest) (plus size (l.s * l.d) (l.s * l.d)) (less size (l.sa * l.da) (plus size left left)) ≡ both.hard_light l.sa l.da l.s l.d)
hard_light_lane size l h =
    let p = l.s * l.da in
    let q = l.d * l.sa in
    let t = l.s * l.d in
    let all = l.sa * l.da in
    let r = (l.sa - l.s) * (l.da - l.d) in
    let left_is : less size (all - p) (q - t) ≡ r =
    less_is size (all - p) (q - t) (omega (arith, h.sum, h.source, h.below_destination)) (omega (arith, h.fits))
    ∙ left_of_both l.sa l.da l.s l.d h.source_in h.destination_in in
    ap₂ (λ u v. cond (nat_le p u) (plus size t t) (less size all (plus size (less size u v) (less size u v)))) (less_is size all p h.source h.fits)
    (less_is size q t h.below_destination (omega (arith, h.destination, h.fits)))
    ∙ ap (λ z. cond (nat_le p (all - p)) (plus size t t) (less size all (plus size z z))) left_is
    ∙ choice (nat_le p (all - p)) (nat_le (2 * l.s) l.sa) (plus size t t) (less size all (plus size r r)) (2 * l.s * l.d) (all - 2 * (l.sa - l.s) * (l.da - l.d))
    (λ e k. plus_is size t t (omega (arith, twice_below l.s l.sa l.d (leb-true (2 * l.s) l.sa k), h.destination, h.fits)) ∙ omega arith)
    (λ e k.
    let part = twice_below (l.sa - l.s) l.sa (l.da - l.d) (omega (arith, leb-false (2 * l.s) l.sa k, h.source_in)) in
    let fits : 2 * r ≤ all = omega (arith, part, mul-le-mul_left {m = l.da - l.d} {n = l.da} l.sa (omega arith)) in
    ap (less size all) (plus_is size r r (omega (arith, fits, h.fits))) ∙ less_is size all (r + r) (omega (arith, fits)) h.fits ∙ omega arith)
    (λ e k.
    let none = none_of_none l.sa l.da (omega (arith, leb-true p (all - p) e, twice_above l.s l.sa l.da (leb-false (2 * l.s) l.sa k), h.source)) in
    plus_is size t t (omega (arith, none, h.below_source, h.source, h.fits)) ∙ omega (arith, none, h.below_source, h.source))
    (λ e k. absurd (omega (arith, leb-false p (all - p) e, twice_below l.s l.sa l.da (leb-true (2 * l.s) l.sa k))))

-- source and destination exchanged
abbrev exchanged : Lane → Lane
exchanged l = record { sa = l.da; da = l.sa; s = l.d; d = l.s }

fit_exchanged : (size : ℕ) (l : Lane) → Fit size l → Fit size (exchanged l)
fit_exchanged size l h = record {
  source = omega (arith, h.destination, mul_comm l.sa l.da);
  destination = omega (arith, h.source, mul_comm l.sa l.da);
  below_source = omega (arith, h.below_destination, mul_comm l.s l.d);
  below_destination = omega (arith, h.below_source, mul_comm l.s l.d);
  sum = omega (arith, h.sum, mul_comm l.sa l.da, mul_comm l.s l.d);
  fits = omega (arith, h.fits, mul_comm l.sa l.da);
  source_in = h.destination_in;
  destination_in = h.source_in;
}

pub overlay_lane : (size : ℕ) (l : Lane) → Fit size l → (let rest = less size (l.sa * l.da) (l.d * l.sa) in
    let left = less size rest (less size (l.s * l.da) (l.s * l.d)) in
    cond (nat_le (l.d * l.sa) rest) (plus size (l.s * l.d) (l.s * l.d)) (less size (l.sa * l.da) (plus size left left)) ≡ both.overlay l.sa l.da l.s l.d)
overlay_lane size l h =
    let q = l.d * l.sa in
    let of : ℕ → ℕ → ℕ = λ all t. (let rest = less size all q in let left = less size rest (less size (l.s * l.da) t) in
    cond (nat_le q rest) (plus size t t) (less size all (plus size left left))) in
    ap₂ of (mul_comm l.sa l.da) (mul_comm l.s l.d) ∙ hard_light_lane size (exchanged l) (fit_exchanged size l h)
    ∙ ap₂ (λ u v. if nat_le (2 * l.d) l.da then u else v) (omega arith) (omega arith)
