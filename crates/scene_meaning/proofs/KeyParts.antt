-- Keys of different parts differ.
use Rattle.std.proofs.Common.{◌≡◌, ℕ, ◌+◌, ◌*◌, ◌<◌, ◌^◌, ℤ, pos, ◌+ℤ◌, sym, ◌∙◌, w32, w64, arith}
use Rattle.std.specs.Prelude.{unsigned_abs}
use Rattle.std.specs.Int.{to_be_bytes, from_be_bytes}
use Rattle.std.specs.Int.RustNames.{FitsSigned}
use Rattle.std.proofs.lemmas.Int.{ints}
use Rattle.std.proofs.lemmas.Nat.{from_be_bytes-to_be_bytes_4, from_be_bytes-to_be_bytes_8}
use Rattle.scene_meaning.specs.Keys.{IsSpelled, KeysDiffer, key_in}

-- the tick with 2^63 added
abbrev pub raised : ℤ → ℕ
raised t = unsigned_abs (t +ℤ pos (2 ^ 63))

pub raised_fits : (t : ℤ) → FitsSigned w64 t → raised t < 2 ^ 64
raised_fits t fits = omega (arith, ints, fits.sfits)

raised_apart : (t u : ℤ) → FitsSigned w64 t → FitsSigned w64 u → raised t ≡ raised u → t ≡ u
raised_apart t u fits other same = omega (arith, ints, fits.sfits, other.sfits, same)

-- a key is made of its parts
pub key_is : (class node ask : ℕ) (t : ℤ) → IsSpelled class node ask t → key_in class node ask t ≡ ((class * 2 ^ 32 + node) * 2 ^ 24 + ask) * 2 ^ 64 + raised t
key_is class node ask t is =
    let four : from_be_bytes w32 (to_be_bytes w32 node) ≡ node = from_be_bytes-to_be_bytes_4 node is.node_fits in
    let eight : from_be_bytes w64 (to_be_bytes w64 (raised t)) ≡ raised t = from_be_bytes-to_be_bytes_8 (raised t) (raised_fits t is.tick_fits) in
    omega (arith, four, eight, is.ask_fits)

apart : (class node ask raised_t other_class other_node other_ask raised_u : ℕ)
    → node < 2 ^ 32 → ask < 2 ^ 24 → raised_t < 2 ^ 64 → other_node < 2 ^ 32 → other_ask < 2 ^ 24 → raised_u < 2 ^ 64
    → ((class * 2 ^ 32 + node) * 2 ^ 24 + ask) * 2 ^ 64 + raised_t ≡ ((other_class * 2 ^ 32 + other_node) * 2 ^ 24 + other_ask) * 2 ^ 64 + raised_u
    → (class ≡ other_class) × (node ≡ other_node) × (ask ≡ other_ask) × (raised_t ≡ raised_u)
apart class node ask t other_class other_node other_ask u a b c d e f same =
    (omega (arith, a, b, c, d, e, f, same), omega (arith, a, b, c, d, e, f, same), omega (arith, a, b, c, d, e, f, same), omega (arith, a, b, c, d, e, f, same))

pub differ : KeysDiffer
differ class node ask other_class other_node other_ask t u is other same =
    let all = apart class node ask (raised t) other_class other_node other_ask (raised u)
    is.node_fits is.ask_fits (raised_fits t is.tick_fits) other.node_fits other.ask_fits (raised_fits u other.tick_fits)
    (sym (key_is class node ask t is) ∙ same ∙ key_is other_class other_node other_ask u other) in
    (all.0, all.1, all.2, raised_apart t u is.tick_fits other.tick_fits all.3)
