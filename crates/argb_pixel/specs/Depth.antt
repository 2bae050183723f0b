-- The greatest value of a channel: 255 at 8 bit and 32768 at 16 bit, as in the After Effects C++ SDK Guide.
use Rattle.std.specs.Prelude.{◌≡◌, ℕ, ◌⊎◌}

abbrev pub IsDepth : ℕ → Type 0
IsDepth most = (most ≡ 255) ⊎ (most ≡ 32768)
