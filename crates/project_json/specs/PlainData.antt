-- The plain parts of a project that a JSON value writes. It is total: a number that is not there, or that is no whole number
-- from 0 to 2^32-1, or to 255 for the depth of a clip, counts as 0, or as the greatest index; what is no name counts as the empty
-- one, what names no mode or matte as none, what names no effect of the set as the greatest kind, and sequence data that is no
-- hex text as none; the rule on it accepts none of these. What is absent has its default.
use Rattle.std.specs.Prelude.{ℕ, ℤ, pos, List, [], ◌∷◌, map, codes, Option, Some, option_and_then, option_map, unwrap_or}
use Rattle.std.specs.Option.{option_map_or}
use Rattle.serde_json.specs.Data.{Data}
use Rattle.serde_json.specs.Find.{get, as_str}
use Rattle.rational_time.specs.declared.time.Time.{Time}
use Rattle.param_stream.specs.declared.key.Keyframe.{Keyframe}
use Rattle.transfer_mode.specs.declared.mode.Mode.{Mode}
use Rattle.transfer_mode.specs.declared.mode.Mode.TheVariants.{Normal}
use Rattle.track_matte.specs.declared.matte.Matte.{Matte}
use Rattle.track_matte.specs.declared.matte.Matte.TheVariants as matte
use Rattle.project_model.specs.Bounds.{full_opacity}
use Rattle.project_model.specs.Constant.{zero_time, constant_key}
use Rattle.project_model.specs.declared.clip.ClipUse.{ClipUse}
use Rattle.project_model.specs.declared.effect.EffectSchema.{EffectSchema}
use Rattle.project_model.specs.declared.plain.PlainFx.{PlainFx}
use Rattle.project_model.specs.declared.plain.PlainLayer.{PlainLayer}
use Rattle.project_model.specs.declared.plain.PlainComp.{PlainComp}
use Rattle.project_model.specs.declared.plain.PlainProject.{PlainProject}
use Rattle.project_json.specs.Parts.{items_in, byte_in, count_in}
use Rattle.project_json.specs.Reads.{time_in, keys_in, mode_in, matte_in, no_solid, index_in, no_index, source_in, fx_kind_in, no_kind, bytes_in}

-- the count in the member of that name
abbrev pub count_of : ℕ → List ℕ → Data → ℕ
count_of other name d = unwrap_or (option_and_then count_in (get name d)) other

-- the text in the member of that name
abbrev pub text_of : List ℕ → Data → List ℕ
text_of name d = unwrap_or (option_and_then as_str (get name d)) []

-- the depth of a clip
abbrev pub depth_of : Data → ℕ
depth_of clip = unwrap_or (option_and_then byte_in (get (codes "depth") clip)) 0

abbrev pub time_of : List ℕ → Data → Time
time_of name d = unwrap_or (option_and_then time_in (get name d)) zero_time

-- the stream in the member of that name, where it is constant if it is absent
abbrev pub keys_of : ℤ → List ℕ → Data → List Keyframe
keys_of other name d = unwrap_or (option_map keys_in (get name d)) (constant_key other ∷ [])

-- the items of the array in the member of that name
abbrev pub items_of : List ℕ → Data → List Data
items_of name d = unwrap_or (option_map items_in (get name d)) []

-- the mode that the member names, Normal where it is not there
abbrev pub mode_of : Data → Option Mode
mode_of layer = option_map_or mode_in (get (codes "mode") layer) (Some Normal)

-- the matte that the member names, none where it is not there
abbrev pub matte_of : Data → Option Matte
matte_of layer = option_map_or matte_in (get (codes "matte") layer) (Some matte.None)

abbrev pub plain_clip_of : Data → ClipUse
plain_clip_of clip = record {
  name = text_of (codes "name") clip;
  width = count_of 0 (codes "width") clip;
  height = count_of 0 (codes "height") clip;
  depth = depth_of clip;
  frame = time_of (codes "frame") clip;
  frames = count_of 0 (codes "frames") clip;
}

-- the kind of the effect that `effect` names, where these are the schemas of the effect set
abbrev pub fx_kind_of : List EffectSchema → Data → Option ℕ
fx_kind_of schemas fx = option_and_then (fx_kind_in schemas) (get (codes "effect") fx)

-- the bytes of `sequence`, none of them where it is not there
abbrev pub sequence_of : Data → Option (List ℕ)
sequence_of fx = option_map_or bytes_in (get (codes "sequence") fx) (Some [])

abbrev pub plain_fx_of : List EffectSchema → Data → PlainFx
plain_fx_of schemas fx = record {
  kind = unwrap_or (fx_kind_of schemas fx) no_kind;
  params = map keys_in (items_of (codes "params") fx);
  layers = map index_in (items_of (codes "layers") fx);
  sequence = sequence_of fx;
}

abbrev pub plain_layer_of : List EffectSchema → Data → PlainLayer
plain_layer_of schemas layer = record {
  source = unwrap_or (option_map source_in (get (codes "source") layer)) no_solid;
  start = time_of (codes "start") layer;
  in_point = time_of (codes "in") layer;
  out_point = option_and_then time_in (get (codes "out") layer);
  mode = mode_of layer;
  matte = matte_of layer;
  opacity = keys_of full_opacity (codes "opacity") layer;
  x = keys_of (pos 0) (codes "x") layer;
  y = keys_of (pos 0) (codes "y") layer;
  effects = map (plain_fx_of schemas) (items_of (codes "effects") layer);
}

abbrev pub plain_comp_of : List EffectSchema → Data → PlainComp
plain_comp_of schemas comp = record {
  width = count_of 0 (codes "width") comp;
  height = count_of 0 (codes "height") comp;
  frame = time_of (codes "frame") comp;
  frames = count_of 0 (codes "frames") comp;
  layers = map (plain_layer_of schemas) (items_of (codes "layers") comp);
}

abbrev pub plain_of_data : List EffectSchema → Data → PlainProject
plain_of_data schemas top = record {
  depth = count_of 0 (codes "depth") top;
  root = count_of no_index (codes "root") top;
  clips = map plain_clip_of (items_of (codes "clips") top);
  comps = map (plain_comp_of schemas) (items_of (codes "comps") top);
}
