-- The parts of a JSON value.
use Rattle.std.specs.Prelude.{ℕ, ◌&&◌, ◌||◌, ◌==◌, ℤ, List, [], ◌∷◌, length, map, Bool, true, false, is_some, if◌then◌else◌, Option, Some, None, option_and_then}
use Rattle.std.specs.List.{list_any, list_all}
use Rattle.std.specs.Borrow.{Bor}
use Rattle.std.specs.Str.{bytes_eq}
use Rattle.serde_json.specs.Data.{Data, null, boolean, number, string, array, object, Items, no_items, item, Members, no_members, member}
use Rattle.serde_json.specs.Find.{get, as_number, as_u64, as_i64}
use Rattle.project_model.specs.Bounds.{is_among}

abbrev pub list_of : Items → List Data
list_of no_items = []
list_of (item d rest) = d ∷ list_of rest

-- the items of an array; any other value has none
abbrev pub items_in : Data → List Data
items_in (array items) = list_of items
items_in _ = []

abbrev pub member_names : Members → List (List ℕ)
member_names no_members = []
member_names (member name d rest) = name ∷ member_names rest

-- the names of an object's members; any other value has none
abbrev pub names_in : Data → List (List ℕ)
names_in (object members) = member_names members
names_in _ = []

abbrev pub is_object : Data → Bool
is_object (object _) = true
is_object _ = false

abbrev pub is_array : Data → Bool
is_array (array _) = true
is_array _ = false

abbrev pub is_number : Data → Bool
is_number (number _) = true
is_number _ = false

-- the texts that references point to
abbrev pub texts_of : List (Bor (List ℕ)) → List (List ℕ)
texts_of names = map (λ name. name.now) names

abbrev pub is_one_of : List (List ℕ) → List ℕ → Bool
is_one_of names name = list_any (bytes_eq name) names

-- an object with no names but these
abbrev pub has_only : List (List ℕ) → Data → Bool
has_only names d = is_object d && list_all (is_one_of names) (names_in d)

-- it has a member of each of these names
abbrev pub has_each : List (List ℕ) → Data → Bool
has_each names d = list_all (λ name. is_some (get name d)) names

-- an object with exactly these names
abbrev pub has_exactly : List (List ℕ) → Data → Bool
has_exactly names d = has_only names d && has_each names d

-- the part is there, and the test accepts it
abbrev pub is_there : (Data → Bool) → Option Data → Bool
is_there test None = false
is_there test (Some d) = test d

-- the test accepts the part where it is there
abbrev pub where_there : (Data → Bool) → Option Data → Bool
where_there test None = true
where_there test (Some d) = test d

-- an array of at least and at most so many objects
abbrev pub is_list_of_objects : ℕ → ℕ → Data → Bool
is_list_of_objects least most (array items) = is_among least most (length (list_of items)) && list_all is_object (list_of items)
is_list_of_objects least most _ = false

abbrev pub u64_in : Data → Option ℕ
u64_in d = option_and_then as_u64 (as_number d)

abbrev pub is_this : ℕ → Option ℕ → Bool
is_this n None = false
is_this n (Some m) = n == m

-- it is this number
abbrev pub is_the_number : ℕ → Data → Bool
is_the_number n d = is_this n (u64_in d)

-- the whole number that it is, from -2^63 to 2^63-1
abbrev pub whole_in : Data → Option ℤ
whole_in d = option_and_then as_i64 (as_number d)

abbrev pub small : ℕ → Option ℕ
small n = if is_among 0 4294967295 n then Some n else None

-- the whole number that it is, from 0 to 2^32-1
abbrev pub count_in : Data → Option ℕ
count_in d = option_and_then small (u64_in d)

abbrev pub tiny : ℕ → Option ℕ
tiny n = if is_among 0 255 n then Some n else None

-- the whole number that it is, from 0 to 255
abbrev pub byte_in : Data → Option ℕ
byte_in d = option_and_then tiny (u64_in d)

-- the test accepts some value in d, at any depth, d itself included
abbrev mutual
  pub anywhere : (Data → Bool) → Data → Bool
  anywhere test null = test null
  anywhere test (boolean b) = test (boolean b)
  anywhere test (number n) = test (number n)
  anywhere test (string s) = test (string s)
  anywhere test (array items) = test (array items) || in_items test items
  anywhere test (object members) = test (object members) || in_members test members

  pub in_items : (Data → Bool) → Items → Bool
  in_items test no_items = false
  in_items test (item d rest) = anywhere test d || in_items test rest

  pub in_members : (Data → Bool) → Members → Bool
  in_members test no_members = false
  in_members test (member name d rest) = anywhere test d || in_members test rest
