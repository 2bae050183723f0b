-- How many values the passes of a history computed.
use Rattle.std.specs.Prelude.{ℕ, ◌≡◌, Bool, true, false, ◌&&◌, List, length, filter, map, count_by, nat_eq}
use Rattle.std.specs.List.{AllByRecursion, IsDistinct}
use Rattle.std.specs.Set.{is_member, distinct_count}
use Rattle.cache_core.specs.Core.{Core}
use Rattle.cache_core.specs.Laws.{Leaves}
use Rattle.cache_core.specs.declared.entry.Entry.{Entry}
use Rattle.cache_core.specs.declared.entry.Act.{Act}
use Rattle.cache_core.specs.declared.entry.Act.TheVariants.{Start, Hit, Pending, NotCached, Finish, Abandon, Give, Evict}

-- an act by which a row comes to be
abbrev pub is_start : Act → Bool
is_start Start = true
is_start (Hit serial) = false
is_start (Pending owner) = false
is_start NotCached = false
is_start (Finish serial size) = false
is_start Abandon = false
is_start (Give serial) = false
is_start (Evict serial) = false

-- an act by which a row goes
abbrev pub takes_out : Act → Bool
takes_out Start = false
takes_out (Hit serial) = false
takes_out (Pending owner) = false
takes_out NotCached = false
takes_out (Finish serial size) = false
takes_out Abandon = true
takes_out (Give serial) = false
takes_out (Evict serial) = true

-- an act that begins a value, puts it in, takes it or gives it back
abbrev pub is_use : Act → Bool
is_use Start = true
is_use (Hit serial) = true
is_use (Pending owner) = false
is_use NotCached = false
is_use (Finish serial size) = true
is_use Abandon = false
is_use (Give serial) = true
is_use (Evict serial) = false

-- the class and key of an entry
abbrev pub name_of : Entry → ℕ × ℕ
name_of entry = (entry.class, entry.key)

-- those of each entry with such an act
abbrev pub used_names : List Entry → List (ℕ × ℕ)
used_names history = map name_of (filter (λ entry. is_use entry.act) history)

abbrev pub same_name : ℕ × ℕ → ℕ × ℕ → Bool
same_name one other = nat_eq one.0 other.0 && nat_eq one.1 other.1

-- how many Starts a history has
abbrev pub starts_of : List Entry → ℕ
starts_of history = count_by (λ entry. is_start entry.act) history

-- the others have just the names, and each once
pub record HasEachOnce (names others : List (ℕ × ℕ)) : Type 0 where
  pub distinct : IsDistinct same_name others
  pub same_members : (name : ℕ × ℕ) → is_member same_name others name ≡ is_member same_name names name

-- there is such a list, and all such lists have this length
pub record IsDistinctCount (names : List (ℕ × ℕ)) (count : ℕ) : Type 0 where
  pub some : (others : List (ℕ × ℕ)) × HasEachOnce names others
  pub each : (others : List (ℕ × ℕ)) → HasEachOnce names others → length others ≡ count

-- `distinct_count` counts distinct names
abbrev pub DistinctNamesAreCounted : Type 0
DistinctNamesAreCounted = (names : List (ℕ × ℕ)) → IsDistinctCount names (distinct_count same_name names)

-- in a legal history in which no row goes, each class and key that is used was computed once: there are as many Starts
-- as distinct pairs of class and key
abbrev pub ComputationsAreCounted : Type 0
ComputationsAreCounted =
    (budget : ℕ) (history : List Entry) (core : Core) → Leaves budget history core
    → AllByRecursion (λ entry. takes_out entry.act ≡ false) history
    → starts_of history ≡ distinct_count same_name (used_names history)
