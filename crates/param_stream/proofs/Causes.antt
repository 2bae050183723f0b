-- Keyframes have one cause of refusal at most.
use Rattle.std.proofs.Common.{◌≡◌, ℕ, ◌<◌, List, [], length, ℤ, refl, subst, ap, arith}
use Rattle.std.specs.List.{All}
use Rattle.std.proofs.lemmas.Int.{ints}
use Rattle.param_stream.specs.declared.key.Keyframe.{Keyframe}
use Rattle.param_stream.specs.declared.stream.StreamError.{StreamError}
use Rattle.param_stream.specs.declared.stream.StreamError.TheVariants.{Empty, NotRising, OutOfRange, Memory}
use Rattle.param_stream.specs.Curve.{Curve, IsSound, IsTimed, IsBound, IsRising, IsBetween, IsFirstNotRising, IsFirstOutside}
use Rattle.param_stream.specs.Refusals.{Refuses}

empty_and_longer : (keys : List Keyframe) (n : ℕ) → keys ≡ [] → n < length keys → ⊥
empty_and_longer keys n e h = omega (arith, ap (length {A = Keyframe}) e)

rising_and_falling : (base : ℕ) (keys : List Keyframe) (i : ℕ) → IsRising base keys → IsFirstNotRising base keys i → ⊥
rising_and_falling base keys i rising h = absurd (omega (arith, ints, rising i h.here, h.falls))

one_fall : (base : ℕ) (keys : List Keyframe) (i j : ℕ) → IsFirstNotRising base keys i → IsFirstNotRising base keys j → ¬ (i < j)
one_fall base keys i j h k less = absurd (omega (arith, ints, k.before i less, h.falls))

one_outside : (keys : List Keyframe) (least most : ℤ) (i j : ℕ) → IsFirstOutside keys least most i → IsFirstOutside keys least most j → ¬ (i < j)
one_outside keys least most i j h k less = h.outside (k.before i less)

within_and_outside : (keys : List Keyframe) (least most : ℤ) (i : ℕ) → All (λ (key : Keyframe). IsBetween least most key.value) keys → IsFirstOutside keys least most i → ⊥
within_and_outside keys least most i all h = h.outside (all i _ h.here)

pub one_cause : (curve : Curve) (e f : StreamError) → Refuses e curve → Refuses f curve → e ≡ f
one_cause curve Empty Empty r q = refl
one_cause curve Empty (NotRising j) r q = absurd (empty_and_longer curve.keys _ r q.2.here)
one_cause curve Empty (OutOfRange j) r q = absurd (empty_and_longer curve.keys _ r q.1.here)
one_cause curve Empty Memory r q = absurd (empty_and_longer curve.keys _ r q.some)
one_cause curve (NotRising i) Empty r q = absurd (empty_and_longer curve.keys _ q r.2.here)
one_cause curve (NotRising i) (NotRising j) r q =
    let below = one_fall curve.base curve.keys r.0 q.0 r.2 q.2 in
    let above = one_fall curve.base curve.keys q.0 r.0 q.2 r.2 in
    ap NotRising (omega (arith, below, above, r.1, q.1))
one_cause curve (NotRising i) (OutOfRange j) r q = absurd (rising_and_falling curve.base curve.keys r.0 q.0 r.2)
one_cause curve (NotRising i) Memory r q = absurd (rising_and_falling curve.base curve.keys r.0 q.rising r.2)
one_cause curve (OutOfRange i) Empty r q = absurd (empty_and_longer curve.keys _ q r.1.here)
one_cause curve (OutOfRange i) (NotRising j) r q = absurd (rising_and_falling curve.base curve.keys q.0 r.0 q.2)
one_cause curve (OutOfRange i) (OutOfRange j) r q =
    let below = one_outside curve.keys curve.least curve.most i j r.1 q.1 in
    let above = one_outside curve.keys curve.least curve.most j i q.1 r.1 in
    ap OutOfRange (omega (arith, below, above))
one_cause curve (OutOfRange i) Memory r q = absurd (within_and_outside curve.keys curve.least curve.most i q.within r.1)
one_cause curve Memory Empty r q = absurd (empty_and_longer curve.keys _ q r.some)
one_cause curve Memory (NotRising j) r q = absurd (rising_and_falling curve.base curve.keys q.0 r.rising q.2)
one_cause curve Memory (OutOfRange j) r q = absurd (within_and_outside curve.keys curve.least curve.most j r.within q.1)
one_cause curve Memory Memory r q = refl

-- what the tests before the stream is made show of it
pub sound_of : (base : ℕ) (keys first second : List Keyframe) (least most : ℤ) → first ≡ keys → second ≡ keys → 0 < length keys → All (IsTimed base) keys → IsRising base first → All (λ (key : Keyframe). IsBetween least most key.value) second → IsBound least → IsBound most → IsSound (record { base = base; keys = keys; least = least; most = most })
sound_of base keys first second least most e f some timed rising within low high = record {
  some = some;
  timed = timed;
  rising = subst (λ (list : List Keyframe). IsRising base list) e rising;
  within = subst (λ (list : List Keyframe). All (λ (key : Keyframe). IsBetween least most key.value) list) f within;
  least_bound = low;
  most_bound = high;
}

pub outside_of : (base : ℕ) (keys first second : List Keyframe) (least most least' most' : ℤ) (index : ℕ) → first ≡ keys → second ≡ keys → least' ≡ least → most' ≡ most → IsRising base first → IsFirstOutside second least' most' index → Refuses (OutOfRange index) (record { base = base; keys = keys; least = least; most = most })
outside_of base keys first second least most least' most' index e f g h rising outside = (
  subst (λ (list : List Keyframe). IsRising base list) e rising,
  rw (f, g, h) at outside,
)
