-- What contracts see of a pass of a cache.
use Rattle.std.specs.Prelude.{ℕ, ◌≡◌, ◌+◌, ◌<◌, Bool, true, not, ◌&&◌, List, [], ◌∷◌, ◌++◌, filter, count_by, nat_eq, slice_get, Option, Some, if◌then◌else◌, ⊤}
use Rattle.std.specs.List.{AllByRecursion, list_any}
use Rattle.atomic_table.specs.Seated.{TableId}
use Rattle.cache_core.specs.Holds.{without_first}
use Rattle.cache_core.specs.declared.entry.Entry.{Entry}
use Rattle.cache_core.specs.declared.entry.Act.{Act}
use Rattle.cache_core.specs.declared.entry.Act.TheVariants.{Start, Hit, Pending, NotCached, Finish, Abandon, Give, Evict}
use Rattle.turn_lock.specs.Entries.{Begins, entries_of, holds_taken, holds_given, takes_hold}
use Rattle.turn_lock.specs.Lock.{Lock}
use Rattle.cache_table.specs.Cache.{IsEvictBy}
use Rattle.compute_cache.specs.State.{entry_of}
use Rattle.compute_cache.specs.Turned.{IsSettledHistory}
use Rattle.compute_cache.specs.declared.hold.Hold.{Hold}

-- a pass: its cache, by what no other cache shares with it and by the state that it was started with; its number, the
-- history that it has seen, its own entries, and its open receipts. The opening pass, which is number 0, counts the
-- passes made and the passes joined
pub record CachePass (S : Type 0) : Type 0 where
  pub id : TableId
  pub origin : Option S
  pub number : ℕ
  pub seen : List Entry
  pub mine : List Entry
  pub receipts : List Hold
  pub made : ℕ
  pub joined : ℕ

-- a turn: the place, class and key of a Start
pub record Started : Type 0 where
  pub place : ℕ
  pub class : ℕ
  pub key : ℕ

abbrev pub started_at : ℕ → ℕ → ℕ → Started
started_at place class key = record { place = place; class = class; key = key }

-- the turn is of this class and key
abbrev pub is_turn_of : ℕ → ℕ → Started → Bool
is_turn_of class key turn = nat_eq turn.class class && nat_eq turn.key key

-- there is a turn of this class and key
abbrev pub has_turn : ℕ → ℕ → List Started → Bool
has_turn class key turns = list_any (is_turn_of class key) turns

-- the turn itself is among these
abbrev pub is_among : Started → List Started → Bool
is_among turn turns = list_any (λ other. nat_eq other.place turn.place && is_turn_of turn.class turn.key other) turns

-- the turns but for those of this class and key
abbrev pub without_turn : ℕ → ℕ → List Started → List Started
without_turn class key turns = filter (λ turn. not (is_turn_of class key turn)) turns

-- the turns after an act of the pass at a place
abbrev pub turns_after : ℕ → ℕ → ℕ → Act → List Started → List Started
turns_after place class key Start turns = turns ++ started_at place class key ∷ []
turns_after place class key (Hit serial) turns = turns
turns_after place class key (Pending owner) turns = turns
turns_after place class key NotCached turns = turns
turns_after place class key (Finish serial size) turns = without_turn class key turns
turns_after place class key Abandon turns = without_turn class key turns
turns_after place class key (Give serial) turns = turns
turns_after place class key (Evict serial) turns = turns

-- the turns of a pass after entries, the first of which stands at this place
abbrev pub turns_from : ℕ → ℕ → List Started → List Entry → List Started
turns_from number place turns [] = turns
turns_from number place turns (entry ∷ entries) =
    turns_from number (place + 1) (if nat_eq entry.pass number then turns_after place entry.class entry.key entry.act turns else turns) entries

-- the turns of a pass in a history: each Start of its own without a later Finish or Abandon of its own with that class
-- and key
abbrev pub turns_of : ℕ → List Entry → List Started
turns_of number history = turns_from number 0 [] history

abbrev pub turns : {S : Type 0} → CachePass S → List Started
turns pass = turns_of pass.number pass.seen

-- an open receipt
abbrev pub held_at : ℕ → ℕ → ℕ → ℕ → Hold
held_at place class key serial = record { place = place; class = class; key = key; serial = serial }

-- of this class, key and serial
abbrev pub is_hold_of : ℕ → ℕ → ℕ → Hold → Bool
is_hold_of class key serial hold = nat_eq hold.class class && nat_eq hold.key key && nat_eq hold.serial serial

-- the receipt itself
abbrev pub same_hold : Hold → Hold → Bool
same_hold wanted hold = nat_eq hold.place wanted.place && is_hold_of wanted.class wanted.key wanted.serial hold

abbrev pub is_held : Hold → List Hold → Bool
is_held wanted holds = list_any (same_hold wanted) holds

abbrev pub without_hold : Hold → List Hold → List Hold
without_hold wanted holds = without_first (same_hold wanted) holds

-- where the receipt came from: a Finish or a Hit of the pass stands at its place
pub record IsPlaced (number : ℕ) (seen : List Entry) (hold : Hold) : Type 0 where
  pub act : Act
  pub entry : slice_get seen hold.place ≡ Some (entry_of number hold.class hold.key act)
  pub takes : takes_hold hold.serial act ≡ true

-- places rise
abbrev pub AreRising : List Hold → Type 0
AreRising [] = ⊤
AreRising (hold ∷ holds) = AllByRecursion (λ later. hold.place < later.place) holds × AreRising holds

-- the open receipts of a pass: each is of a Finish or Hit of its own, no two of the same; and for each class, key and
-- serial there are as many as the pass took holds and did not give back
pub record AreOpen (number : ℕ) (seen mine : List Entry) (receipts : List Hold) : Type 0 where
  pub placed : AllByRecursion (IsPlaced number seen) receipts
  pub rising : AreRising receipts
  pub counted : (class key serial : ℕ) → count_by (is_hold_of class key serial) receipts + holds_given class key serial mine ≡ holds_taken class key serial mine

module _ {S : Type 0} where
  -- the pass is of this lock
  pub record IsOfLock (lock : Lock S) (pass : CachePass S) : Type 0 where
    pub same : pass.id ≡ lock.id
    pub from : pass.origin ≡ Some lock.origin

  -- the same pass, later
  pub record IsLater (old new : CachePass S) : Type 0 where
    pub id : new.id ≡ old.id
    pub origin : new.origin ≡ old.origin
    pub number : new.number ≡ old.number
    pub made : new.made ≡ old.made
    pub joined : new.joined ≡ old.joined

  -- a call of the pass made these entries. Before them stands a history that begins with what the pass had seen, and has
  -- of the pass just what it had made; they end what it has now seen, which is legal and settled
  pub record Called (budget : ℕ) (old new : CachePass S) (before entries : List Entry) : Type 0 where
    pub later : IsLater old new
    pub begins : Begins old.seen before
    pub seen : new.seen ≡ before ++ entries
    pub mine : new.mine ≡ old.mine ++ entries
    pub own : entries_of new.number new.seen ≡ new.mine
    pub settled : IsSettledHistory budget new.seen

  -- one entry and then evictions by the pass
  pub record CalledAndEvicted (budget : ℕ) (old new : CachePass S) (before : List Entry) (entry : Entry) : Type 0 where
    pub evicts : List Entry
    pub each : AllByRecursion (IsEvictBy entry.pass) evicts
    pub called : Called budget old new before (entry ∷ evicts)
