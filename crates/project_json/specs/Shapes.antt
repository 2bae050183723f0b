-- The shapes of the parts of a project: streams, times and sources.
use Rattle.std.specs.Prelude.{ℕ, ◌&&◌, ◌||◌, ◌==◌, List, [], ◌∷◌, length, codes, Bool, true, false, is_some}
use Rattle.std.specs.List.{list_all}
use Rattle.serde_json.specs.Data.{Data}
use Rattle.serde_json.specs.Find.{get}
use Rattle.project_model.specs.Bounds.{most_keys, is_among}
use Rattle.project_json.specs.Parts.{items_in, names_in, is_number, has_only, is_there}
use Rattle.project_json.specs.Reads.{time_in, kind_in}

abbrev pub source_names : List (List ℕ)
source_names = codes "solid" ∷ codes "clip" ∷ codes "comp" ∷ []

-- three items, the first a number, and the third a kind
abbrev pub are_key_parts : List Data → Bool
are_key_parts (value ∷ time ∷ kind ∷ []) = is_number value && is_some (kind_in kind)
are_key_parts _ = false

-- `[number, time, kind]`, whatever the time is
abbrev pub is_keyframe : Data → Bool
is_keyframe d = are_key_parts (items_in d)

-- a number, or an array of keyframes
abbrev pub is_stream : Data → Bool
is_stream d = is_number d || (is_among 1 most_keys (length (items_in d)) && list_all is_keyframe (items_in d))

abbrev pub is_time : Data → Bool
is_time d = is_some (time_in d)

-- the frame of a clip, or of a composition, is a time
abbrev pub has_frame : Data → Bool
has_frame d = is_there is_time (get (codes "frame") d)

abbrev pub has_time_second : List Data → Bool
has_time_second (value ∷ time ∷ kind ∷ []) = is_time time
has_time_second _ = true

-- the time of a keyframe is a time
abbrev pub key_has_time : Data → Bool
key_has_time d = has_time_second (items_in d)

-- an object with exactly one name, of a solid, a clip or a composition
abbrev pub is_source : Data → Bool
is_source d = has_only source_names d && length (names_in d) == 1
