-- What is read from a stream's fields.
use Rattle.std.proofs.Common.{◌≡◌, ℕ, ◌/◌, ◌^◌, ◌<◌, ◌≤◌, List, length, ℤ, pos, ◌≤ℤ◌, ◌<ℤ◌, ◌-ℤ◌, refl, sym, ◌∙◌, subst, arith}
use Rattle.std.specs.Prelude.{slice_index_or, unsigned_abs}
use Rattle.std.proofs.lemmas.Int.{ints}
use Rattle.rational_time.proofs.Numbers.{abs-product, scaled_near}
use Rattle.param_stream.specs.declared.key.Keyframe.{Keyframe}
use Rattle.param_stream.specs.declared.stream.Stream.TheInside.{Inside}
use Rattle.param_stream.specs.Curve.{Curve, IsTimed, IsBound, IsBetween, key_at, key_tick, tick_at, between, value_at, value_between}
use Rattle.param_stream.specs.Streams.{curve_of, IsKept}
use Rattle.param_stream.proofs.Values.{IsReached, element, tick_element, length_ticks, reached_from_ticks, value_within}

pub reached_of : (s : Inside) (list : List ℤ) (t tick : ℤ) (count : ℕ) → IsKept s → list ≡ s.ticks.items → tick ≡ t → count ≤ length list → ((i : ℕ) → i < count → slice_index_or list i (pos 0) ≤ℤ tick) → ((i : ℕ) → count ≤ i → i < length list → tick <ℤ slice_index_or list i (pos 0)) → IsReached s.base.ticks s.keys.items t count
reached_of s list t tick count kept e f within below above =
    let P : ℤ → Type 0 = λ z. IsReached s.base.ticks s.keys.items z count in
    subst P f (reached_from_ticks s.base.ticks s.keys.items list tick count (e ∙ kept.ticks) within below above)

bound_within : (least most value : ℤ) → IsBound least → IsBound most → IsBetween least most value → IsBound value
bound_within least most value a b h = (omega (arith, ints, a.0, h.0), omega (arith, ints, b.1, h.1))

pub record ReadsKey (s : Inside) (i : ℕ) (key : Keyframe) : Type 0 where
  pub is : key ≡ key_at s.keys.items i
  pub bound : IsBound key.value

pub reads_key : (s : Inside) (i : ℕ) (key : Keyframe) → IsKept s → i < length s.keys.items → key ≡ slice_index_or s.keys.items i key → ReadsKey s i key
reads_key s i key kept inside e =
    let is : key ≡ key_at s.keys.items i = element s.keys.items i key inside e in
    let bound = bound_within s.least s.most _ kept.sound.least_bound kept.sound.most_bound (kept.sound.within i _ inside) in
    record { is = is; bound = subst (λ (k : Keyframe). IsBound k.value) (sym is) bound }

near_tick : (base : ℕ) (key : Keyframe) → base < 2 ^ 32 → IsTimed base key → unsigned_abs (key_tick base key) ≤ 2 ^ 48
near_tick base key small timed =
    let near = scaled_near (unsigned_abs key.time.value) base key.time.scale timed.divides timed.near in
    let product = abs-product key.time.value (base / key.time.scale) in
    omega (arith, near, product)

pub record ReadsTick (s : Inside) (i : ℕ) (tick : ℤ) : Type 0 where
  pub is : tick ≡ tick_at s.base.ticks s.keys.items i
  pub near : unsigned_abs tick ≤ 2 ^ 48

pub reads_tick : (s : Inside) (i : ℕ) (tick : ℤ) → IsKept s → i < length s.keys.items → tick ≡ slice_index_or s.ticks.items i tick → ReadsTick s i tick
reads_tick s i tick kept inside e =
    let is : tick ≡ tick_at s.base.ticks s.keys.items i = e ∙ tick_element s.base.ticks s.keys.items s.ticks.items i tick kept.ticks inside in
    let near = near_tick s.base.ticks (key_at s.keys.items i) kept.small (kept.sound.timed i _ inside) in
    record { is = is; near = subst (λ (t : ℤ). unsigned_abs t ≤ 2 ^ 48) (sym is) near }

pub between_read : (base : ℕ) (first second key next : Keyframe) (t tick start end r : ℤ) → key ≡ first → next ≡ second → start ≡ key_tick base first → end ≡ key_tick base second → tick ≡ t → r ≡ value_between key.kind key.value next.value (tick -ℤ start) (end -ℤ start) → r ≡ between base first second t
between_read base first second key next t tick start end r a b e f g is = is ∙ rw (a, b, e, f, g) refl

-- what callers see of it
pub seen : (s : Inside) (curve : Curve) (t v : ℤ) → curve_of s ≡ curve → v ≡ value_at s.base.ticks s.keys.items t → v ≡ value_at curve.base curve.keys t
seen s curve t v e is = subst (λ (c : Curve). v ≡ value_at c.base c.keys t) e is

pub seen_within : (s : Inside) (curve : Curve) (t : ℤ) → IsKept s → curve_of s ≡ curve → IsBetween curve.least curve.most (value_at curve.base curve.keys t)
seen_within s curve t kept e =
    subst
    (λ (c : Curve). IsBetween c.least c.most (value_at c.base c.keys t))
    e
    (value_within s.base.ticks s.keys.items t s.least s.most kept.sound.some kept.sound.within)

-- fewer ticks than there are keyframes are reached, where not as many are
pub before_end : (s : Inside) (list : List ℤ) (count all : ℕ) → IsKept s → list ≡ s.ticks.items → count ≤ length list → all ≡ length s.keys.items → ¬ (count ≡ all) → count < length s.keys.items
before_end s list count all kept e within same other =
    let long = length_ticks s.base.ticks s.keys.items list (e ∙ kept.ticks) in
    omega (arith, long, other)
