-- The JSON value that bytes are, as the kit's serde_json reads it.
use Rattle.std.specs.Prelude.{ℕ, List, if◌then◌else◌, Option, None}
use Rattle.std.specs.Str.{is_utf8}
use Rattle.serde_json.specs.Data.{Data}
use Rattle.serde_json.specs.Read.{read}

-- none where the bytes are no UTF-8, or where the text has no reading
unfoldable pub json_of : List ℕ → Option Data
json_of bytes = if is_utf8 bytes then read bytes else None
