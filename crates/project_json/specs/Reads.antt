-- What the parts of a project are read as: times, keyframes, modes, mattes, sources, and the parts of effects.
use Rattle.std.specs.Prelude.{ℕ, ◌&&◌, ℤ, pos, negsuc, List, [], ◌∷◌, map, codes, if◌then◌else◌, Option, Some, None, option_and_then, unwrap_or}
use Rattle.std.specs.List.{position_from}
use Rattle.std.specs.Result.{result_ok}
use Rattle.std.specs.Str.{bytes_eq}
use Rattle.hex.specs.Hex.{decode_of}
use Rattle.serde_json.specs.Data.{Data}
use Rattle.serde_json.specs.Find.{get, as_str}
use Rattle.rational_time.specs.declared.time.Time.{Time}
use Rattle.param_stream.specs.declared.key.Ease.{Ease}
use Rattle.param_stream.specs.declared.key.Ease.TheVariants.{Hold, Linear, Smooth}
use Rattle.param_stream.specs.declared.key.Keyframe.{Keyframe}
use Rattle.transfer_mode.specs.Names.{mode_named}
use Rattle.transfer_mode.specs.declared.mode.Mode.{Mode}
use Rattle.track_matte.specs.Names.{matte_named}
use Rattle.track_matte.specs.declared.matte.Matte.{Matte}
use Rattle.project_model.specs.Bounds.{is_among, is_between}
use Rattle.project_model.specs.Constant.{zero_time, constant_key}
use Rattle.project_model.specs.declared.effect.EffectSchema.{EffectSchema}
use Rattle.project_model.specs.declared.item.Item.{Item}
use Rattle.project_model.specs.declared.item.Item.TheVariants.{Solid, Clip, Comp}
use Rattle.project_json.specs.Parts.{items_in, is_number, whole_in, count_in}

abbrev pub time_from : Option ℤ → Option ℕ → Option Time
time_from (Some value) (Some scale) =
    if is_between (negsuc 2147483647) (pos 2147483647) value && is_among 1 4294967295 scale
    then Some record { value = value; scale = scale }
    else None
time_from _ _ = None

-- two items
abbrev pub time_from_items : List Data → Option Time
time_from_items (value ∷ scale ∷ []) = time_from (whole_in value) (count_in scale)
time_from_items _ = None

-- `[value, scale]`
abbrev pub time_in : Data → Option Time
time_in d = time_from_items (items_in d)

abbrev pub kind_named : List ℕ → Option Ease
kind_named name =
    if bytes_eq name (codes "hold") then Some Hold
    else (if bytes_eq name (codes "linear") then Some Linear
    else (if bytes_eq name (codes "ease") then Some Smooth else None))

-- `"hold"`, `"linear"` or `"ease"`
abbrev pub kind_in : Data → Option Ease
kind_in d = option_and_then kind_named (as_str d)

-- the name of a mode
abbrev pub mode_in : Data → Option Mode
mode_in d = option_and_then mode_named (as_str d)

-- the name of a matte
abbrev pub matte_in : Data → Option Matte
matte_in d = option_and_then matte_named (as_str d)

-- three items; one that is not of its kind counts as 0, as zero seconds or as hold
abbrev pub key_from_items : List Data → Keyframe
key_from_items (value ∷ time ∷ kind ∷ []) = record {
  time = unwrap_or (time_in time) zero_time;
  value = unwrap_or (whole_in value) (pos 0);
  kind = unwrap_or (kind_in kind) Hold;
}
key_from_items _ = constant_key (pos 0)

-- `[value, time, kind]`
abbrev pub key_in : Data → Keyframe
key_in d = key_from_items (items_in d)

-- a number is a constant stream, and an array is its keyframes
abbrev pub keys_in : Data → List Keyframe
keys_in d = if is_number d then constant_key (unwrap_or (whole_in d) (pos 0)) ∷ [] else map key_in (items_in d)

-- a solid that no rule accepts
abbrev pub no_solid : Item
no_solid = Solid 0 0 0 0 0 0

abbrev pub solid_from : Option ℕ → Option ℕ → Option ℕ → Option ℕ → Option ℕ → Option ℕ → Option Item
solid_from (Some width) (Some height) (Some a) (Some r) (Some g) (Some b) = Some (Solid width height a r g b)
solid_from _ _ _ _ _ _ = None

-- six whole numbers from 0 to 2^32-1
abbrev pub solid_from_items : List Data → Option Item
solid_from_items (w ∷ h ∷ a ∷ r ∷ g ∷ b ∷ []) =
    solid_from (count_in w) (count_in h) (count_in a) (count_in r) (count_in g) (count_in b)
solid_from_items _ = None

-- `[width, height, alpha, red, green, blue]`, or a solid that no rule accepts
abbrev pub solid_in : Data → Item
solid_in d = unwrap_or (solid_from_items (items_in d)) no_solid

-- an index that names nothing: no project has so many clips or compositions
abbrev pub no_index : ℕ
no_index = 4294967295

-- a whole number from 0 to 2^32-1, or an index that names nothing
abbrev pub index_in : Data → ℕ
index_in d = unwrap_or (count_in d) no_index

-- the members for a solid, a clip and a composition
abbrev pub source_from : Option Data → Option Data → Option Data → Item
source_from (Some solid) _ _ = solid_in solid
source_from None (Some clip) _ = Clip (index_in clip)
source_from None None (Some comp) = Comp (index_in comp)
source_from None None None = no_solid

-- `{"solid": ..}`, `{"clip": index}` or `{"comp": index}`
abbrev pub source_in : Data → Item
source_in d = source_from (get (codes "solid") d) (get (codes "clip") d) (get (codes "comp") d)

-- the kind of this name, which is its place in the set
abbrev pub fx_named : List EffectSchema → List ℕ → Option ℕ
fx_named schemas name = position_from (λ schema. bytes_eq name schema.name) 0 schemas

-- the name of an effect of the set
abbrev pub fx_kind_in : List EffectSchema → Data → Option ℕ
fx_kind_in schemas d = option_and_then (fx_named schemas) (as_str d)

-- hex text, in either case
abbrev pub bytes_in : Data → Option (List ℕ)
bytes_in d = option_and_then (λ text. result_ok (decode_of text)) (as_str d)

-- the greatest kind, for what names no effect of the set
abbrev pub no_kind : ℕ
no_kind = 65535
