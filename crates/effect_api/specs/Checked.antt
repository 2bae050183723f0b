-- What an effect is handed: checked-out planes by their ids, and sums.
use Rattle.std.specs.Prelude.{◌≡◌, ◌≢◌, ℕ, ◌≤◌, ◌==◌, List, [], ◌∷◌, length, map, slice_get, Option, Some, None, if◌then◌else◌}
use Rattle.std.specs.List.{All}
use Rattle.geom_rect.specs.Rect.{origin, area_of}
use Rattle.argb_world.specs.Picture.{Picture, greatest_part}
use Rattle.comp_stack.specs.Stack.{Plane}
use Rattle.comp_stack.specs.Layers.{plane_of}
use Rattle.compute_cache.specs.Suite.{ReceiptOf}
use Rattle.effect_api.specs.declared.moment.Moment.{Moment}
use Rattle.effect_api.specs.declared.moment.Want.{Want}
use Rattle.effect_api.specs.declared.moment.Ask.{Ask}
use Rattle.effect_api.specs.declared.checkouts.Value.{Value}
use Rattle.effect_api.specs.declared.checkouts.Value.TheVariants as value
use Rattle.effect_api.specs.declared.checkouts.PixelsOf.{PixelsOf}
use Rattle.effect_api.specs.declared.checkouts.PixelsOf.TheVariants.{Drawn, Shared}
use Rattle.effect_api.specs.Planes.{IsPlane, HasSides}

-- no picture
abbrev pub nothing : Picture
nothing = record { extent = origin; part = origin; pixels = [] }

-- a kept value is a plane, and which
abbrev pub IsPlaneValue : {most : ℕ} → Value most → Type 0
IsPlaneValue (value.Plane world) = Unit {0}
IsPlaneValue (value.Sums sums) = ⊥

abbrev pub value_world : {most : ℕ} → Value most → Picture
value_world (value.Plane world) = world
value_world (value.Sums sums) = nothing

abbrev pub plane_in : {most : ℕ} → Value most → Option Picture
plane_in (value.Plane world) = Some world
plane_in (value.Sums sums) = None

-- a kept value is sums, and which
abbrev pub IsSumsValue : {most : ℕ} → Value most → Type 0
IsSumsValue (value.Plane world) = ⊥
IsSumsValue (value.Sums sums) = Unit {0}

abbrev pub value_sums : {most : ℕ} → Value most → List ℕ
value_sums (value.Plane world) = []
value_sums (value.Sums sums) = sums

-- pairs of an id and pixels, and how many pairs there is room for
pub record Pairs (W K V : Type 0) : Type 0 where
  pub pairs : List (ℕ × PixelsOf W K V)
  pub room : ℕ

module _ {W K V : Type 0} where
  -- what is shared is a plane
  abbrev pub SharesPlane : (V → Type 0) → PixelsOf W K V → Type 0
  SharesPlane is_plane (Drawn world) = Unit {0}
  SharesPlane is_plane (Shared receipt) = is_plane receipt.value

  -- no pair has the id
  abbrev pub IsNew : ℕ → List (ℕ × PixelsOf W K V) → Type 0
  IsNew id pairs = All (λ pair. pair.0 ≢ id) pairs

  -- the id of each pair is new among the pairs after it
  abbrev pub HaveDistinctIds : List (ℕ × PixelsOf W K V) → Type 0
  HaveDistinctIds [] = Unit {0}
  HaveDistinctIds (pair ∷ pairs) = IsNew pair.0 pairs × HaveDistinctIds pairs

  -- ids differ, and what is shared is a plane
  pub record IsChecked (is_plane : V → Type 0) (all : Pairs W K V) : Type 0 where
    pub ids : HaveDistinctIds all.pairs
    pub worlds : All (λ pair. SharesPlane is_plane pair.1) all.pairs

-- the pixels of worlds of a depth
abbrev pub Pixels : ℕ → Type 0 → Type 0
Pixels most K = PixelsOf Picture K (Value most)

module _ {most : ℕ} {K : Type 0} where
  -- they are those of a plane, and which
  abbrev pub HasWorld : Pixels most K → Type 0
  HasWorld pixels = SharesPlane IsPlaneValue pixels

  abbrev pub world_of : Pixels most K → Picture
  world_of (Drawn world) = world
  world_of (Shared receipt) = value_world receipt.value

  abbrev pub world_in : Pixels most K → Option Picture
  world_in (Drawn world) = Some world
  world_in (Shared receipt) = plane_in receipt.value

  -- they come from the cache
  abbrev pub IsShared : Pixels most K → Type 0
  IsShared (Drawn world) = ⊥
  IsShared (Shared receipt) = Unit {0}

  -- the world with the id
  abbrev pub world_with : ℕ → List (ℕ × Pixels most K) → Option Picture
  world_with id [] = None
  world_with id (pair ∷ pairs) = if pair.0 == id then world_in pair.1 else world_with id pairs

  -- the planes, in order
  abbrev pub planes_of : List (ℕ × Pixels most K) → List Plane
  planes_of pairs = map (λ pair. plane_of (world_of pair.1)) pairs

  -- there is one pair for each want, whose id is the want's number; what is wanted at another tick is shared
  pub record AreChecked (wants : List Want) (at : Moment) (pairs : List (ℕ × Pixels most K)) : Type 0 where
    pub one_each : length pairs ≡ length wants
    pub id_is : (i : ℕ) (pair : ℕ × Pixels most K) → slice_get pairs i ≡ Some pair → pair.0 ≡ i
    pub shared : (i : ℕ) (want : Want) (pair : ℕ × Pixels most K) → slice_get wants i ≡ Some want → slice_get pairs i ≡ Some pair
        → want.tick ≢ at.tick → IsShared pair.1
    pub near : All (λ pair. HasSides (world_of pair.1).extent) pairs

  -- the sums of receipts
  abbrev pub sums_in : List (ReceiptOf (Value most) K) → List (List ℕ)
  sums_in receipts = map (λ receipt. value_sums receipt.value) receipts

-- the sums of some plane, which has no more points than a picture may have
abbrev pub AreSumsOf : ℕ → (ℕ → ℕ → Plane → List ℕ) → Ask → List ℕ → Type 0
AreSumsOf most sums_of ask sums =
    (plane : Plane) × IsPlane most plane × (area_of plane.extent ≤ greatest_part) × (sums ≡ sums_of ask.class ask.ask plane)

-- there are sums for each ask, in order
abbrev pub AreSums : ℕ → (ℕ → ℕ → Plane → List ℕ) → List Ask → List (List ℕ) → Type 0
AreSums most sums_of [] [] = Unit {0}
AreSums most sums_of [] (sums ∷ rest) = ⊥
AreSums most sums_of (ask ∷ asks) [] = ⊥
AreSums most sums_of (ask ∷ asks) (sums ∷ rest) = AreSumsOf most sums_of ask sums × AreSums most sums_of asks rest
