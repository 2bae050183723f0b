-- Histories by the passes that made their entries.
use Rattle.std.specs.Prelude.{ℕ, ◌≡◌, Bool, true, false, ◌&&◌, List, [], ◌∷◌, ◌++◌, length, filter, count_by, nat_eq, nat_le, if◌then◌else◌}
use Rattle.std.specs.List.{AllByRecursion}
use Rattle.cache_core.specs.declared.entry.Entry.{Entry}
use Rattle.cache_core.specs.declared.entry.Act.{Act}
use Rattle.cache_core.specs.declared.entry.Act.TheVariants.{Start, Hit, Pending, NotCached, Finish, Abandon, Give, Evict}

-- a history begins with another: it is that one, followed by something or nothing
abbrev pub Begins : List Entry → List Entry → Type 0
Begins first history = (rest : List Entry) × (history ≡ first ++ rest)

-- the entries of a pass, in their order
abbrev pub entries_of : ℕ → List Entry → List Entry
entries_of pass history = filter (λ entry. nat_eq entry.pass pass) history

-- each entry is of the pass
abbrev pub AreOf : ℕ → List Entry → Type 0
AreOf pass entries = AllByRecursion (λ entry. entry.pass ≡ pass) entries

-- the longer of two histories, the first where they are as long
abbrev pub longer : List Entry → List Entry → List Entry
longer one other = if nat_le (length other) (length one) then one else other

-- whether an entry is about this class and key
abbrev pub is_about : ℕ → ℕ → Entry → Bool
is_about class key entry = nat_eq entry.class class && nat_eq entry.key key

-- whether a pass computes a value after an act of its own, by whether it did before
abbrev pub computes_after : Bool → Act → Bool
computes_after before Start = true
computes_after before (Hit serial) = before
computes_after before (Pending owner) = before
computes_after before NotCached = before
computes_after before (Finish serial size) = false
computes_after before Abandon = false
computes_after before (Give serial) = before
computes_after before (Evict serial) = before

-- whether a pass with these entries computes the value of a class and key: a Start has no Finish or Abandon after it
abbrev pub computes : ℕ → ℕ → Bool → List Entry → Bool
computes class key before [] = before
computes class key before (entry ∷ entries) =
    computes class key (if is_about class key entry then computes_after before entry.act else before) entries

-- an act by which a pass becomes a holder of the value with this serial, and one by which it gives it back
abbrev pub takes_hold : ℕ → Act → Bool
takes_hold wanted Start = false
takes_hold wanted (Hit serial) = nat_eq serial wanted
takes_hold wanted (Pending owner) = false
takes_hold wanted NotCached = false
takes_hold wanted (Finish serial size) = nat_eq serial wanted
takes_hold wanted Abandon = false
takes_hold wanted (Give serial) = false
takes_hold wanted (Evict serial) = false

abbrev pub gives_back : ℕ → Act → Bool
gives_back wanted Start = false
gives_back wanted (Hit serial) = false
gives_back wanted (Pending owner) = false
gives_back wanted NotCached = false
gives_back wanted (Finish serial size) = false
gives_back wanted Abandon = false
gives_back wanted (Give serial) = nat_eq serial wanted
gives_back wanted (Evict serial) = false

-- how often
abbrev pub holds_taken : ℕ → ℕ → ℕ → List Entry → ℕ
holds_taken class key serial entries = count_by (λ entry. is_about class key entry && takes_hold serial entry.act) entries

abbrev pub holds_given : ℕ → ℕ → ℕ → List Entry → ℕ
holds_given class key serial entries = count_by (λ entry. is_about class key entry && gives_back serial entry.act) entries

-- a pass with these entries computes no value and holds none
pub record IsClear (entries : List Entry) : Type 0 where
  pub turns : (class key : ℕ) → computes class key false entries ≡ false
  pub holds : (class key serial : ℕ) → holds_taken class key serial entries ≡ holds_given class key serial entries
