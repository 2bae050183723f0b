-- Laws of the values of parts that stand in no object.
use Rattle.std.proofs.Common.{◌≡◌, ℕ, ◌<◌, ◌≤◌, List, length, map, All, Bool, true, ◌&&◌, refl, sym, ap, subst, ◌∙◌, arith}
use Rattle.std.proofs.lemmas.Bool.Decides.{nat_tests}
use Rattle.std.proofs.lemmas.List.{map-id}
use Rattle.std.proofs.lemmas.List.Elements.{All-weaker}
use Rattle.std.specs.List.{AllZip, list_all}
use Rattle.std.specs.Result.{result_ok}
use Rattle.hex.specs.Hex.{IsBytes, encode_lower}
use Rattle.hex.proofs.HexLemmas.{decode_of-encode_lower}
use Rattle.serde_json.specs.Data.{Data, string, array}
use Rattle.serde_json.specs.View as view
use Rattle.param_stream.specs.Curve.{IsTimed}
use Rattle.param_stream.specs.declared.key.Keyframe.{Keyframe}
use Rattle.project_model.specs.Bounds.{is_among, most_keys}
use Rattle.project_json.specs.Parts.{list_of}
use Rattle.project_json.specs.Reads.{key_in}
use Rattle.project_json.specs.Shapes.{is_keyframe, key_has_time}
use Rattle.project_write.specs.Parts.{IsWhole, IsArrayOf, IsHex, IsKey, IsStream}
use Rattle.project_write.proofs.ListLemmas.{list_back, zip_length, zip_all, zip_map, array_whole}

few_keys : (n count : ℕ) (each : Bool) → n ≡ count → 0 < count → count ≤ most_keys → each ≡ true → is_among 1 most_keys n && each ≡ true
few_keys n count each same some few all = rw all (grind (arith, nat_tests))

pub hex_of : (bytes text : List ℕ) (d : Data) → d ≡ string text → text ≡ encode_lower bytes → IsBytes bytes → IsHex bytes d
hex_of bytes text d is hex fits =
    subst (IsHex bytes) (sym (is ∙ ap string hex))
    record { read = ap result_ok (decode_of-encode_lower bytes fits); whole = record { whole = refl; nests = omega arith } }

-- ---- streams

stream_at : (keys : List Keyframe) (values : List Data) → AllZip IsKey keys values → 0 < length keys → length keys ≤ most_keys
    → IsWhole 3 (array (view.items_of values)) → IsStream keys (array (view.items_of values))
stream_at keys values each some few whole =
    let back = list_back values in
    let count : length (list_of (view.items_of values)) ≡ length keys = ap length back ∙ zip_length IsKey keys values each in
    record {
      form = few_keys _ _ _ count some few (ap (list_all is_keyframe) back ∙ zip_all IsKey is_keyframe (λ x d r. r.form) keys values each);
      timed = ap (list_all key_has_time) back ∙ zip_all IsKey key_has_time (λ x d r. r.timed) keys values each;
      read = ap (map key_in) back ∙ zip_map IsKey (λ key. key) key_in (λ x d r. r.read) keys values each ∙ map-id keys;
      whole = whole;
    }

pub stream_of : (keys : List Keyframe) (d : Data) → IsArrayOf IsKey keys d → 0 < length keys → length keys ≤ most_keys → IsStream keys d
stream_of keys d a some few =
    subst (IsStream keys) (sym a.is)
    (stream_at keys a.values a.each some few (subst (IsWhole 3) a.is (array_whole IsKey 2 (λ x d r. r.whole) keys d a)))

pub scaled_keys : (base : ℕ) (keys : List Keyframe) → All (IsTimed base) keys → All (λ (key : Keyframe). 1 ≤ key.time.scale) keys
scaled_keys base keys timed = All-weaker (IsTimed base) (λ (key : Keyframe). 1 ≤ key.time.scale) (λ key t. t.scaled) keys timed
