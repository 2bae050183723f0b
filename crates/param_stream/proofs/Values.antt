-- The value by how many keyframes are reached, and the laws that follow.
use Rattle.std.proofs.Common.{◌≡◌, ℕ, zero, suc, ◌+◌, ◌-◌, ◌<◌, ◌≤◌, List, [], ◌∷◌, length, ℤ, pos, negsuc, ◌≤ℤ◌, ◌<ℤ◌, ◌-ℤ◌, ◌*ℤ◌, lit≤, refl, sym, ◌∙◌, subst, ap, arith, Bool, true, false, map}
use Rattle.std.specs.Prelude.{int_lt, if◌then◌else◌, slice_index_or}
use Rattle.std.specs.List.{All}
use Rattle.std.proofs.Common.{ltb, zero-le, ◌*◌, ◌/◌}
use Rattle.std.proofs.Math.Nat.{mul-zero, zero-div}
use lib.Signed.{≤ℤ_refl}
use Rattle.rational_time.specs.Times.{floor_of}
use Rattle.std.proofs.lemmas.Int.{ints}
use Rattle.std.proofs.lemmas.List.{get_or_default, get_or-map, length-map}
use Rattle.std.proofs.lemmas.List.Elements.{All-head, All-tail}
use Rattle.param_stream.specs.declared.key.Ease.{Ease}
use Rattle.param_stream.specs.declared.key.Ease.TheVariants.{Hold, Linear, Smooth}
use Rattle.param_stream.specs.declared.key.Keyframe.{Keyframe}
use Rattle.param_stream.specs.Curve.{key_tick, key_at, tick_at, between, value_between, eased_part, value_from, value_at, IsRising, IsBetween}
use Rattle.param_stream.proofs.Shares.{share_lem, share_within, eased_is, eased_most, parts_over}

-- that many keyframes are reached at the tick, and no later ones
pub record IsReached (base : ℕ) (keys : List Keyframe) (t : ℤ) (count : ℕ) : Type 0 where
  pub within : count ≤ length keys
  pub below : (j : ℕ) → j < count → tick_at base keys j ≤ℤ t
  pub above : (j : ℕ) → count ≤ j → j < length keys → t <ℤ tick_at base keys j

tested : (a b : ℤ) → a <ℤ b → int_lt a b ≡ true
tested a b h = grind (arith, ints)

untested : (a b : ℤ) → b ≤ℤ a → int_lt a b ≡ false
untested a b h = grind (arith, ints)

chosen : {X : Type 0} (b : Bool) (x y : X) → b ≡ true → (if b then x else y) ≡ x
chosen b x y e = rw e refl

passed : {X : Type 0} (b : Bool) (x y : X) → b ≡ false → (if b then x else y) ≡ y
passed b x y e = rw e refl

tail_reached : (base : ℕ) (key : Keyframe) (keys : List Keyframe) (t : ℤ) (count : ℕ) → IsReached base (key ∷ keys) t (suc count) → IsReached base keys t count
tail_reached base key keys t count h = record {
  within = omega (arith, h.within);
  below = λ j less. h.below (suc j) (omega arith);
  above = λ j more inside. h.above (suc j) (omega arith) (omega arith);
}

from_middle : (base : ℕ) (key : Keyframe) (rest : List Keyframe) (t : ℤ) (d : ℕ) → IsReached base (key ∷ rest) t (suc d) → d < length rest → value_from base key rest t ≡ between base (key_at (key ∷ rest) d) (key_at rest d) t
from_middle base key [] t d h inside = absurd (omega arith)
from_middle base key (next ∷ rest) t zero h inside =
    chosen _ _ _ (tested t (key_tick base next) (h.above 1 (omega arith) (omega arith)))
from_middle base key (next ∷ rest) t (suc d) h inside =
    passed _ _ _ (untested t (key_tick base next) (h.below 1 (omega arith)))
    ∙ from_middle base next rest t d (tail_reached base key (next ∷ rest) t (suc d) h) (omega arith)

from_end : (base : ℕ) (key : Keyframe) (rest : List Keyframe) (t : ℤ) (d : ℕ) → IsReached base (key ∷ rest) t (suc d) → d ≡ length rest → value_from base key rest t ≡ (key_at (key ∷ rest) d).value
from_end base key [] t zero h e = refl
from_end base key [] t (suc d) h e = absurd (omega arith)
from_end base key (next ∷ rest) t zero h e = absurd (omega arith)
from_end base key (next ∷ rest) t (suc d) h e =
    passed _ _ _ (untested t (key_tick base next) (h.below 1 (omega arith)))
    ∙ from_end base next rest t d (tail_reached base key (next ∷ rest) t (suc d) h) (omega arith)

pub value_none_reached : (base : ℕ) (keys : List Keyframe) (t : ℤ) → 0 < length keys → IsReached base keys t 0 → value_at base keys t ≡ (key_at keys 0).value
value_none_reached base [] t some h = absurd (omega arith)
value_none_reached base (key ∷ rest) t some h =
    chosen _ _ _ (tested t (key_tick base key) (h.above 0 (omega arith) some))

pub value_some_reached : (base : ℕ) (keys : List Keyframe) (t : ℤ) (d : ℕ) → IsReached base keys t (d + 1) → d + 1 < length keys → value_at base keys t ≡ between base (key_at keys d) (key_at keys (d + 1)) t
value_some_reached base [] t d h inside = absurd (omega arith)
value_some_reached base (key ∷ rest) t d h inside =
    let next : d + 1 ≡ suc d = omega arith in
    let reached : IsReached base (key ∷ rest) t (suc d) = rw next at h in
    passed _ _ _ (untested t (key_tick base key) (h.below 0 (omega arith)))
    ∙ from_middle base key rest t d reached (omega arith)
    ∙ ap (λ (n : ℕ). between base (key_at (key ∷ rest) d) (key_at (key ∷ rest) n) t) (sym next)

pub value_all_reached : (base : ℕ) (keys : List Keyframe) (t : ℤ) (d : ℕ) → IsReached base keys t (d + 1) → d + 1 ≡ length keys → value_at base keys t ≡ (key_at keys d).value
value_all_reached base [] t d h e = absurd (omega arith)
value_all_reached base (key ∷ rest) t d h e =
    let next : d + 1 ≡ suc d = omega arith in
    let reached : IsReached base (key ∷ rest) t (suc d) = rw next at h in
    passed _ _ _ (untested t (key_tick base key) (h.below 0 (omega arith)))
    ∙ from_end base key rest t d reached (omega arith)

-- ticks rise over any distance
pub rises_by : (base : ℕ) (keys : List Keyframe) → IsRising base keys → (i n : ℕ) → i + n < length keys → tick_at base keys i ≤ℤ tick_at base keys (i + n)
rises_by base keys rising i zero inside =
    let e : i + 0 ≡ i = omega arith in rw e (omega (arith, ints))
rises_by base keys rising i (suc n) inside =
    let e : i + suc n ≡ i + n + 1 = omega arith in
    let before = rises_by base keys rising i n (omega arith) in
    let step = rising (i + n) (omega arith) in
    rw e (omega (arith, ints, before, step))

pub rises : (base : ℕ) (keys : List Keyframe) → IsRising base keys → (i j : ℕ) → i ≤ j → j < length keys → tick_at base keys i ≤ℤ tick_at base keys j
rises base keys rising i j le inside =
    let e : i + (j - i) ≡ j = omega arith in
    let P : ℕ → Type 0 = λ n. tick_at base keys i ≤ℤ tick_at base keys n in
    subst P e (rises_by base keys rising i (j - i) (omega arith))

-- at a tick from one keyframe on and before the next, those up to that one are reached
pub reached_at_split : (base : ℕ) (keys : List Keyframe) (i : ℕ) (t : ℤ) → IsRising base keys → i < length keys → tick_at base keys i ≤ℤ t → (i + 1 < length keys → t <ℤ tick_at base keys (i + 1)) → IsReached base keys t (i + 1)
reached_at_split base keys i t rising inside from to = record {
  within = omega arith;
  below = λ j less. omega (arith, ints, rises base keys rising j i (omega arith) inside, from);
  above = λ j more within. omega (arith, ints, rises base keys rising (i + 1) j more within, to (omega arith));
}

-- ---- the laws

pub at_split : (base : ℕ) (keys : List Keyframe) (i : ℕ) (t : ℤ) → IsRising base keys → i + 1 < length keys → tick_at base keys i ≤ℤ t → t <ℤ tick_at base keys (i + 1) → value_at base keys t ≡ between base (key_at keys i) (key_at keys (i + 1)) t
at_split base keys i t rising inside from to =
    value_some_reached base keys t i (reached_at_split base keys i t rising (omega arith) from (λ h. to)) inside

pub after_last : (base : ℕ) (keys : List Keyframe) (i : ℕ) (t : ℤ) → IsRising base keys → i + 1 ≡ length keys → tick_at base keys i ≤ℤ t → value_at base keys t ≡ (key_at keys i).value
after_last base keys i t rising last from =
    value_all_reached base keys t i (reached_at_split base keys i t rising (omega arith) from (λ h. absurd (omega arith))) last

pub before_first : (base : ℕ) (keys : List Keyframe) (t : ℤ) → 0 < length keys → t <ℤ tick_at base keys 0 → value_at base keys t ≡ (key_at keys 0).value
before_first base [] t some h = absurd (omega arith)
before_first base (key ∷ rest) t some h = chosen _ _ _ (tested t (key_tick base key) h)

-- the value between two neighbours stays within bounds that hold both values
pub between_within : (kind : Ease) (from to : ℤ) (run span : ℕ) (low high : ℤ) → run < span → IsBetween low high from → IsBetween low high to → IsBetween low high (value_between kind from to (pos run) (pos span))
between_within Hold from to run span low high inside a b = a
between_within Linear from to run span low high inside a b =
    share_within low high from to _ (share_lem (to -ℤ from) run span (omega arith) (omega arith)) a b
between_within Smooth from to run span low high inside a b =
    let most = parts_over run span inside in
    rw (eased_is run span _ refl most) (share_within low high from to _ (share_lem (to -ℤ from) _ 65536 (lit≤ tt) (eased_most _ most)) a b)

natural : (z : ℤ) → pos 0 ≤ℤ z → (n : ℕ) × (z ≡ pos n)
natural (pos n) h = (n, refl)
natural (negsuc n) h = absurd (omega (arith, ints))

pub neighbours_within : (base : ℕ) (key next : Keyframe) (t low high : ℤ) → key_tick base key ≤ℤ t → t <ℤ key_tick base next → IsBetween low high key.value → IsBetween low high next.value → IsBetween low high (between base key next t)
neighbours_within base key next t low high from to a b =
    let run = natural (t -ℤ key_tick base key) (omega (arith, ints)) in
    let span = natural (key_tick base next -ℤ key_tick base key) (omega (arith, ints)) in
    let inside : run.0 < span.0 = omega (arith, ints, run.1, span.1) in
    rw (run.1, span.1) (between_within key.kind key.value next.value run.0 span.0 low high inside a b)

from_within : (base : ℕ) (key : Keyframe) (rest : List Keyframe) (t low high : ℤ) → key_tick base key ≤ℤ t → All (λ (k : Keyframe). IsBetween low high k.value) (key ∷ rest) → IsBetween low high (value_from base key rest t)
from_within base key [] t low high from all = All-head (λ (k : Keyframe). IsBetween low high k.value) key [] all
from_within base key (next ∷ rest) t low high from all =
    by (int_lt t (key_tick base next)) refl (λ reached. from_within base next rest t low high reached tail)
  where
    tail : All (λ (k : Keyframe). IsBetween low high k.value) (next ∷ rest)
    tail = All-tail (λ (k : Keyframe). IsBetween low high k.value) key (next ∷ rest) all

    by : (b : Bool) → int_lt t (key_tick base next) ≡ b → (key_tick base next ≤ℤ t → IsBetween low high (value_from base next rest t)) → IsBetween low high (if b then between base key next t else value_from base next rest t)
    by true e later =
        neighbours_within base key next t low high from (omega (arith, ints, e))
        (All-head (λ (k : Keyframe). IsBetween low high k.value) key (next ∷ rest) all)
        (All-head (λ (k : Keyframe). IsBetween low high k.value) next rest tail)
    by false e later = later (omega (arith, ints, e))

pub value_within : (base : ℕ) (keys : List Keyframe) (t low high : ℤ) → 0 < length keys → All (λ (key : Keyframe). IsBetween low high key.value) keys → IsBetween low high (value_at base keys t)
value_within base [] t low high some all = absurd (omega arith)
value_within base (key ∷ rest) t low high some all = by (int_lt t (key_tick base key)) refl
  where
    by : (b : Bool) → int_lt t (key_tick base key) ≡ b → IsBetween low high (if b then key.value else value_from base key rest t)
    by true e = All-head (λ (k : Keyframe). IsBetween low high k.value) key rest all
    by false e = from_within base key rest t low high (omega (arith, ints, e)) all

-- at the earlier of two neighbours the value is that one's
zero_share : (change : ℤ) (whole : ℕ) → floor_of (change *ℤ pos 0) (pos whole) ≡ pos 0
zero_share (pos d) whole = rw (mul-zero, zero-div) refl
zero_share (negsuc d) whole = rw (mul-zero, zero-div) refl

between_start : (kind : Ease) (from to : ℤ) (span : ℕ) → value_between kind from to (pos 0) (pos span) ≡ from
between_start Hold from to span = refl
between_start Linear from to span = rw (zero_share (to -ℤ from) span) (omega (arith, ints))
between_start Smooth from to span =
    let none : 0 ≡ 65536 * 0 / span = rw zero-div refl in
    let start : eased_part (pos 0) (pos span) ≡ pos 0 = eased_is 0 span 0 none zero-le in
    rw (start, zero_share (to -ℤ from) 65536) (omega (arith, ints))

start_value : (base : ℕ) (key next : Keyframe) (t : ℤ) → t ≡ key_tick base key → key_tick base key <ℤ key_tick base next → between base key next t ≡ key.value
start_value base key next t e less =
    let run : (t -ℤ key_tick base key) ≡ pos 0 = omega (arith, ints) in
    let span = natural (key_tick base next -ℤ key_tick base key) (omega (arith, ints)) in
    rw (run, span.1) (between_start key.kind key.value next.value span.0)

pub at_key : (base : ℕ) (keys : List Keyframe) (i : ℕ) → IsRising base keys → i < length keys → value_at base keys (tick_at base keys i) ≡ (key_at keys i).value
at_key base keys i rising inside = by (ltb (i + 1) (length keys)) refl
  where
    by : (b : Bool) → ltb (i + 1) (length keys) ≡ b → value_at base keys (tick_at base keys i) ≡ (key_at keys i).value
    by true e =
        let more : i + 1 < length keys = grind arith in
        at_split base keys i _ rising more (≤ℤ_refl _) (rising i more)
        ∙ start_value base (key_at keys i) (key_at keys (i + 1)) _ refl (rising i more)
    by false e =
        let last : i + 1 ≡ length keys = grind arith in
        after_last base keys i _ rising last (≤ℤ_refl _)

-- ---- what the code reads

pub element : (keys : List Keyframe) (i : ℕ) (key : Keyframe) → i < length keys → key ≡ slice_index_or keys i key → key ≡ key_at keys i
element keys i key inside e = e ∙ get_or_default keys i key _ inside

pub tick_element : (base : ℕ) (keys : List Keyframe) (ticks : List ℤ) (i : ℕ) (t : ℤ) → ticks ≡ map (key_tick base) keys → i < length keys → slice_index_or ticks i t ≡ tick_at base keys i
tick_element base keys ticks i t e inside = ap (λ (ts : List ℤ). slice_index_or ts i t) e ∙ get_or-map (key_tick base) keys i _ t inside

pub length_ticks : (base : ℕ) (keys : List Keyframe) (ticks : List ℤ) → ticks ≡ map (key_tick base) keys → length ticks ≡ length keys
length_ticks base keys ticks e = ap (length {A = ℤ}) e ∙ length-map keys (key_tick base)

pub ticks_rise : (base : ℕ) (keys : List Keyframe) (ticks : List ℤ) → ticks ≡ map (key_tick base) keys → IsRising base keys → (i j : ℕ) → i ≤ j → j < length ticks → slice_index_or ticks i (pos 0) ≤ℤ slice_index_or ticks j (pos 0)
ticks_rise base keys ticks e rising i j le inside =
    let same = length_ticks base keys ticks e in
    rw (tick_element base keys ticks i (pos 0) e (omega arith), tick_element base keys ticks j (pos 0) e (omega arith)) (rises base keys rising i j le (omega arith))

pub reached_from_ticks : (base : ℕ) (keys : List Keyframe) (ticks : List ℤ) (t : ℤ) (count : ℕ) → ticks ≡ map (key_tick base) keys → count ≤ length ticks → ((i : ℕ) → i < count → slice_index_or ticks i (pos 0) ≤ℤ t) → ((i : ℕ) → count ≤ i → i < length ticks → t <ℤ slice_index_or ticks i (pos 0)) → IsReached base keys t count
reached_from_ticks base keys ticks t count e within below above =
    let same = length_ticks base keys ticks e in
    record {
      within = omega arith;
      below = λ j less. rw (← tick_element base keys ticks j (pos 0) e (omega arith)) (below j less);
      above = λ j more inside. rw (← tick_element base keys ticks j (pos 0) e inside) (above j more (omega arith));
    }
