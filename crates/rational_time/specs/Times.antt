-- Times are whole numbers of ticks of one common base.
use Rattle.std.specs.Prelude.{◌≡◌, ℕ, zero, suc, ◌%◌, [], ◌∷◌, Bool, nat_le, int_lt, ◌+◌, ◌*◌, ◌/◌, ◌<◌, ◌≤◌, List, take, slice_get, ℤ, pos, neg_ℤ, ◌*ℤ◌, ◌+ℤ◌, ◌≤ℤ◌, ◌<ℤ◌, unsigned_abs}
use Rattle.std.specs.Prelude.{Some}
use Rattle.std.specs.Int.{◌∣◌, int_min, int_max, int_div_euclid}
use Rattle.std.specs.List.{All}
use Rattle.std.specs.List.Sorted.{IsPermutation}
use Rattle.rational_time.specs.declared.time.Time.{Time}
use Rattle.rational_time.specs.declared.time.TheConstants.{MOST_SECONDS, GREATEST_BASE}
use Rattle.rational_time.specs.declared.base.TimeError.{TimeError}
use Rattle.rational_time.specs.declared.base.TimeError.TheVariants.{ZeroScale, TimeTooFar, BaseTooLarge}

-- at most 36,000 seconds from zero
abbrev pub IsNear : Time → Type 0
IsNear time = unsigned_abs time.value ≤ MOST_SECONDS * time.scale

-- whether it is
abbrev pub is_near : Time → Bool
is_near time = nat_le (unsigned_abs time.value) (MOST_SECONDS * time.scale)

-- the first time is less than the second, by cross products
abbrev pub comes_before : Time → Time → Bool
comes_before a b = int_lt (a.value *ℤ pos b.scale) (b.value *ℤ pos a.scale)

-- each scale divides the number
abbrev pub IsMultipleOfScales : List Time → ℕ → Type 0
IsMultipleOfScales times n = All (λ time. time.scale ∣ n) times

-- the least common multiple of the scales: each scale divides it, and it divides every number that each scale divides
pub record IsLeastCommonMultiple (times : List Time) (n : ℕ) : Type 0 where
  pub common : IsMultipleOfScales times n
  pub least : (m : ℕ) → IsMultipleOfScales times m → n ∣ m

-- the greatest common divisor, by Euclid, in at most so many turns
abbrev pub common_divisor_in : ℕ → ℕ → ℕ → ℕ
common_divisor_in zero a b = a
common_divisor_in (suc turns) a zero = a
common_divisor_in (suc turns) a (suc b) = common_divisor_in turns (suc b) (a % suc b)

-- the rests fall, so b turns are enough
abbrev pub common_divisor : ℕ → ℕ → ℕ
common_divisor a b = common_divisor_in b a b

abbrev pub common_multiple : ℕ → ℕ → ℕ
common_multiple a b = a / common_divisor a b * b

-- the least common multiple of the scales, 1 for none, computed
abbrev pub common_base : List Time → ℕ
common_base [] = 1
common_base (time ∷ times) = common_multiple time.scale (common_base times)

-- it is the least common multiple where no scale is 0
abbrev pub CommonBaseIsLeast : Type 0
CommonBaseIsLeast = (times : List Time) → All (λ time. 1 ≤ time.scale) times → IsLeastCommonMultiple times (common_base times)

-- the times have a base, and it is this one
pub record IsBaseOf (times : List Time) (base : ℕ) : Type 0 where
  pub scaled : All (λ time. 1 ≤ time.scale) times
  pub near : All IsNear times
  pub multiple : IsLeastCommonMultiple times base
  pub positive : 1 ≤ base
  pub small : base ≤ GREATEST_BASE

-- the times before the index have a base, and this time stands there
pub record IsFirstWithout (times : List Time) (index : ℕ) (time : Time) : Type 0 where
  pub before : (base : ℕ) × IsBaseOf (take index times) base
  pub here : slice_get times index ≡ Some time

-- the times that have no base, by the first one at fault and the first fault there
abbrev pub Refuses : TimeError → List Time → Type 0
Refuses (ZeroScale index) times = (time : Time) × IsFirstWithout times index time × (time.scale ≡ 0)
Refuses (TimeTooFar index) times =
    (time : Time) × IsFirstWithout times index time × (1 ≤ time.scale) × (MOST_SECONDS * time.scale < unsigned_abs time.value)
Refuses (BaseTooLarge index) times =
    (time : Time)
    × IsFirstWithout times index time
    × (1 ≤ time.scale)
    × IsNear time
    × ((multiple : ℕ) × IsLeastCommonMultiple (take (index + 1) times) multiple × (GREATEST_BASE < multiple))

-- a time in ticks of a base that its scale divides
abbrev pub tick_of : ℕ → Time → ℤ
tick_of base time = time.value *ℤ pos (base / time.scale)

-- where a frame of this many ticks begins
abbrev pub tick_of_frame : ℤ → ℤ → ℤ
tick_of_frame frame ticks = frame *ℤ ticks

-- a quotient by a positive number, rounded towards minus infinity
abbrev pub floor_of : ℤ → ℤ → ℤ
floor_of x y = int_div_euclid x y

-- q is x / y for a positive y, rounded towards minus infinity
pub record IsFloor (x y q : ℤ) : Type 0 where
  pub at_most : (q *ℤ y) ≤ℤ x
  pub next_above : x <ℤ ((q +ℤ pos 1) *ℤ y)

-- the frame of this many ticks in which a tick lies
abbrev pub frame_at : ℤ → ℤ → ℤ
frame_at tick ticks = floor_of tick ticks

-- the tick nearest to t of those within 36,000 seconds of zero
abbrev pub held_of : ℕ → ℤ → ℤ
held_of base t = int_max (neg_ℤ (pos (MOST_SECONDS * base))) (int_min (pos (MOST_SECONDS * base)) t)

-- a frame's first tick lies in that frame
abbrev pub FramesAgree : Type 0
FramesAgree = (n ticks : ℤ) → pos 1 ≤ℤ ticks → frame_at (tick_of_frame n ticks) ticks ≡ n

-- the order of the times is of no account for their base
abbrev pub BaseIgnoresOrder : Type 0
BaseIgnoresOrder =
    (times others : List Time) (base other : ℕ)
    → IsPermutation times others
    → IsBaseOf times base
    → IsBaseOf others other
    → base ≡ other
