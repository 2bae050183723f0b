-- What a clip store holds, and what its calls answer where it tells that.
use Rattle.std.specs.Prelude.{◌≡◌, ◌↔◌, ℕ, ◌≤◌, List, [], length, take, drop, bytes_eq, map, string_bytes, Option, Some, None}
use Rattle.std.specs.Option.{option_map, unwrap_or}
use Rattle.std.specs.Map.{lookup}
use Rattle.std.specs.BTreeMap.{BTreeMap}
use Rattle.std.proofs.Common.{String, Vec, Global}

-- the bytes under each name
abbrev pub ClipMap : Type 0
ClipMap = List ℕ → Option (List ℕ)

-- of a store that does not tell them
abbrev pub untold : Option ClipMap
untold = None

-- the length of what is under a name, where it is there
abbrev pub length_at : ClipMap → List ℕ → Option ℕ
length_at clips name = option_map length (clips name)

-- the bytes under a name, none where it is not there
abbrev pub bytes_at : ClipMap → List ℕ → List ℕ
bytes_at clips name = unwrap_or (clips name) []

-- where the store tells, the answer is the length under the name
abbrev pub AnswersLength : Option ClipMap → List ℕ → Option ℕ → Type 0
AnswersLength None name answer = Unit {0}
AnswersLength (Some clips) name answer = answer ≡ length_at clips name

-- where the store tells, these are bytes from the place on
abbrev pub AreBytesFrom : Option ClipMap → List ℕ → ℕ → ℕ → List ℕ → Type 0
AreBytesFrom None name place n read = Unit {0}
AreBytesFrom (Some clips) name place n read = take n read ≡ take n (drop place (bytes_at clips name))

-- where the store tells, nothing is read exactly where the place is at or past the end
abbrev pub EndsThere : Option ClipMap → List ℕ → ℕ → ℕ → Type 0
EndsThere None name place n = Unit {0}
EndsThere (Some clips) name place n = (n ≡ 0) ↔ (length (bytes_at clips name) ≤ place)

-- entries by name as such a map: the first entry of a name counts
abbrev pub found_in : List (List ℕ × List ℕ) → ClipMap
found_in entries name = lookup (λ key. bytes_eq name key) entries

-- the names and bytes of a map, in the names' order
abbrev pub entries_of : BTreeMap (String Global) (Vec ℕ Global) → List (List ℕ × List ℕ)
entries_of clips = map (λ e. (string_bytes e.0, e.1.items)) clips.entries
