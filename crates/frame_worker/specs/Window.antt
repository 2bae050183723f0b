-- What is made of a window of frames, and the claims of its workers.
use Rattle.std.specs.Prelude.{◌≡◌, ◌+◌, ◌<◌, ◌≤◌, ℕ, true, false, List, [], All, length, map, slice_index_or}
use Rattle.frame_claims.specs.Claims.{Claims, Seat, IsOf}
use Rattle.frame_worker.specs.declared.maker.Piece.{Piece}

-- one piece for each of `count` frames from the first on, in order
pub record AreFrames {X : Type 0} (is_piece : ℕ → X → Type 0) (first count : ℕ) (pieces : List X) : Type 0 where
  pub counted : length pieces ≡ count
  pub each : (place : ℕ) (d : X) → place < count → is_piece (first + place) (slice_index_or pieces place d)

-- a seat that the opening one takes in
pub record IsFurther (claims : Claims) (seat : Seat) : Type 0 where
  pub own : IsOf claims seat
  pub opening : seat.opening ≡ false

-- one that has drawn nothing, beside an empty list of pieces
pub record IsNew {X : Type 0} (claims : Claims) (seat : Seat) (pieces : List X) : Type 0 where
  pub further : IsFurther claims seat
  pub draws : seat.draws ≡ []
  pub none : pieces ≡ []

-- the opening seat, which so many others are to join
pub record Awaits (claims : Claims) (others : ℕ) (seat : Seat) : Type 0 where
  pub own : IsOf claims seat
  pub opening : seat.opening ≡ true
  pub made : seat.made ≡ seat.joined + 1 + others

-- the pieces of what a seat drew, in that order: all its frames are made
pub record AreDrawn {P : Type 0} (gives : ℕ → P → Type 0) (seat : Seat) (pieces : List (Piece P)) : Type 0 where
  pub frames : map (λ (piece : Piece P). piece.frame) pieces ≡ seat.draws
  pub each : All (λ (piece : Piece P). gives piece.frame piece.made) pieces

-- a fact of each number of the claims
abbrev pub EachNumber : (ℕ → Type 0) → Claims → Type 0
EachNumber P claims = (number : ℕ) → claims.first ≤ number → number < claims.first + claims.count → P number
