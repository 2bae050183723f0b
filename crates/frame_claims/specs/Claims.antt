-- What contracts see of some claims and of a seat.
use Rattle.std.specs.Prelude.{ℕ, ◌≡◌, ◌+◌, ◌<◌, ◌≤◌, Bool, true, false, ◌||◌, List, [], ◌∷◌, ◌++◌, All, count_by, nat_eq, nat_lt, length, Option, Some, None, if◌then◌else◌, IsPermutation}
use Rattle.std.specs.List.{range_with_len}
use Rattle.atomic_table.specs.Seated.{TableId}

-- which claims they are; their numbers, count of them from the first on; and whether the opening seat was given out
pub record Claims : Type 0 where
  pub id : TableId
  pub first : ℕ
  pub count : ℕ
  pub opened : Bool

-- a seat: its claims, by what no others share with them and by their numbers; whether it is the opening seat; the numbers
-- that it drew, in order; and whether it knows that all were drawn. The opening seat counts the seats made and joined
pub record Seat : Type 0 where
  pub id : TableId
  pub first : ℕ
  pub count : ℕ
  pub opening : Bool
  pub draws : List ℕ
  pub ended : Bool
  pub made : ℕ
  pub joined : ℕ

-- the seat is of these claims
pub record IsOf (claims : Claims) (seat : Seat) : Type 0 where
  pub same : seat.id ≡ claims.id
  pub first : seat.first ≡ claims.first
  pub count : seat.count ≡ claims.count

-- it is the opening seat, and every other seat was joined
pub record IsAlone (seat : Seat) : Type 0 where
  pub opening : seat.opening ≡ true
  pub last : seat.made ≡ seat.joined + 1

-- the numbers of the claims, in order
abbrev pub numbers_of : Claims → List ℕ
numbers_of claims = range_with_len claims.first claims.count

-- each is a number of the claims
abbrev pub AreIn : Claims → List ℕ → Type 0
AreIn claims draws = All (λ number. (claims.first ≤ number) × (number < claims.first + claims.count)) draws

-- no number stands in the list twice
abbrev pub AreOnce : List ℕ → Type 0
AreOnce draws = (number : ℕ) → count_by (nat_eq number) draws ≤ 1

-- these are the numbers of the claims, each once, and so count of them
pub record AreAll (claims : Claims) (draws : List ℕ) : Type 0 where
  pub each_once : IsPermutation (numbers_of claims) draws
  pub length_is : length draws ≡ claims.count

-- the next number, where the first of them were drawn
abbrev pub next_after : Claims → ℕ → Option ℕ
next_after claims drawn = if nat_lt drawn claims.count then Some (claims.first + drawn) else None

-- the opening seat of some claims
abbrev pub opening_of : Claims → Seat
opening_of claims = record { id = claims.id; first = claims.first; count = claims.count; opening = true; draws = []; ended = false; made = 1; joined = 0 }

-- the claims after it was given out
abbrev pub opened_once : Claims → Claims
opened_once claims = record claims { opened = true }

-- a seat that drew a number, and one that found that all were drawn
abbrev pub drawing : ℕ → Seat → Seat
drawing number seat = record seat { draws = seat.draws ++ number ∷ [] }

abbrev pub ending : Seat → Seat
ending seat = record seat { ended = true }

-- the opening seat after a split, and the new seat
abbrev pub splitting : Seat → Seat
splitting seat = record seat { made = seat.made + 1 }

abbrev pub split_from : Seat → Seat
split_from seat = record { id = seat.id; first = seat.first; count = seat.count; opening = false; draws = []; ended = seat.ended; made = 0; joined = 0 }

-- the opening seat after it took in another
abbrev pub joining : Seat → Seat → Seat
joining other seat = record seat { draws = seat.draws ++ other.draws; ended = seat.ended || other.ended; joined = seat.joined + 1 }
