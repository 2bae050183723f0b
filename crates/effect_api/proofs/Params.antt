-- The keyframes of a parameter.
use Rattle.std.proofs.Common.{◌≡◌, ℕ, ℤ, List, [], map, slice_index_or, slice_get, Option, Some, None, ap, sym, ◌∙◌, subst}
use Rattle.std.specs.Option.{option_map, unwrap_or}
use Rattle.std.specs.List.{All}
use Rattle.std.proofs.lemmas.Option.{get_or_from_slice_get, slice_get-map, slice_get_within, unwrap_or-slice_get}
use Rattle.param_stream.specs.Curve.{Curve, value_at}
use Rattle.param_stream.specs.declared.key.Keyframe.{Keyframe}

-- those of the stream at the place
pub keys_found : (curves : List Curve) (index : ℕ) (curve : Curve) → slice_get curves index ≡ Some curve
    → slice_index_or (map (λ (c : Curve). c.keys) curves) index [] ≡ curve.keys
keys_found curves index curve found =
    get_or_from_slice_get (map (λ (c : Curve). c.keys) curves) index curve.keys []
    (slice_get-map (λ (c : Curve). c.keys) curves index ∙ ap (option_map (λ (c : Curve). c.keys)) found)

-- none where there is no stream
pub no_keys : (curves : List Curve) (index : ℕ) → slice_get curves index ≡ None → slice_index_or (map (λ (c : Curve). c.keys) curves) index [] ≡ []
no_keys curves index gone =
    sym (unwrap_or-slice_get (map (λ (c : Curve). c.keys) curves) index [])
    ∙ ap (λ (o : Option (List Keyframe)). unwrap_or o []) (slice_get-map (λ (c : Curve). c.keys) curves index ∙ ap (option_map (λ (c : Curve). c.keys)) gone)

-- a stream at a place has what all have
pub stream_has : (P : Curve → Type 0) (curves : List Curve) (index : ℕ) (curve : Curve) → All P curves → slice_get curves index ≡ Some curve → P curve
stream_has P curves index curve all found =
    subst P (get_or_from_slice_get curves index curve curve found) (all index curve (slice_get_within curves index curve found))

-- the value of a parameter is that of the stream at its place
pub value_found : (curves : List Curve) (index base : ℕ) (curve : Curve) (tick : ℤ) → All (λ (c : Curve). c.base ≡ base) curves → slice_get curves index ≡ Some curve
    → value_at curve.base curve.keys tick ≡ value_at base (slice_index_or (map (λ (c : Curve). c.keys) curves) index []) tick
value_found curves index base curve tick based found =
    ap (λ (b : ℕ). value_at b curve.keys tick) (stream_has (λ (c : Curve). c.base ≡ base) curves index curve based found)
    ∙ ap (λ (keys : List Keyframe). value_at base keys tick) (sym (keys_found curves index curve found))
