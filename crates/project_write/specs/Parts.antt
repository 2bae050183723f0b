-- What the value of each part of a project says: it has the form of that part, and is read as it. Every number in it is whole, and
-- it nests no deeper than so much.
use Rattle.std.specs.Prelude.{◌≡◌, ◌≤◌, ℕ, List, [], ◌∷◌, length, codes, true, false, Option, Some, None}
use Rattle.std.specs.List.{AllZip, list_all, list_any}
use Rattle.serde_json.specs.Data.{Data, array, object, Members, no_members, member, put, number, unsigned, depth}
use Rattle.serde_json.specs.View as view
use Rattle.rational_time.specs.declared.time.Time.{Time}
use Rattle.param_stream.specs.declared.key.Keyframe.{Keyframe}
use Rattle.transfer_mode.specs.declared.mode.Mode.{Mode}
use Rattle.track_matte.specs.declared.matte.Matte.{Matte}
use Rattle.project_model.specs.Plain.{plain_fx, plain_layer, plain_comp, plain_of}
use Rattle.project_model.specs.declared.clip.ClipUse.{ClipUse}
use Rattle.project_model.specs.declared.comp.Comp.{Comp}
use Rattle.project_model.specs.declared.effect.EffectSchema.{EffectSchema}
use Rattle.project_model.specs.declared.effect.FxUse.{FxUse}
use Rattle.project_model.specs.declared.item.Item.{Item}
use Rattle.project_model.specs.declared.layer.Layer.{Layer}
use Rattle.project_model.specs.declared.project.Project.{Project}
use Rattle.project_json.specs.Parts.{items_in, is_object, has_exactly, anywhere, count_in, byte_in}
use Rattle.project_json.specs.Reads.{time_in, key_in, keys_in, mode_in, matte_in, source_in, bytes_in}
use Rattle.project_json.specs.PlainData.{items_of, plain_clip_of, plain_fx_of, plain_layer_of, plain_comp_of, plain_of_data}
use Rattle.project_json.specs.Shapes.{is_keyframe, key_has_time, is_stream, is_source, has_frame}
use Rattle.project_json.specs.EffectForm.{is_effect}
use Rattle.project_json.specs.FormRules.{is_not_whole, clip_names, breaks_effect, breaks_layer, breaks_comp, form_rules, form_breach}

-- an object of these members, in the order of their names
abbrev pub members_of : List (List ℕ × Data) → Members
members_of [] = no_members
members_of (named ∷ rest) = member named.0 named.1 (members_of rest)

abbrev pub object_of : List (List ℕ × Data) → Data
object_of named = object (members_of named)

-- every number in the value is whole, and it nests no deeper than this
pub record IsWhole (most : ℕ) (d : Data) : Type 0 where
  pub whole : anywhere is_not_whole d ≡ false
  pub nests : depth d ≤ most

-- an array of a value for each of these parts
pub record IsArrayOf {X : Type 0} (R : X → Data → Type 0) (xs : List X) (d : Data) : Type 0 where
  pub values : List Data
  pub is : d ≡ array (view.items_of values)
  pub each : AllZip R xs values

-- a number that fits in 32 bits
pub record IsCount (n : ℕ) (d : Data) : Type 0 where
  pub is : d ≡ number (unsigned n)
  pub read : count_in d ≡ Some n
  pub whole : IsWhole 0 d

-- a number that fits in 8 bits
pub record IsByte (n : ℕ) (d : Data) : Type 0 where
  pub read : byte_in d ≡ Some n
  pub whole : IsWhole 0 d

pub record IsTime (time : Time) (d : Data) : Type 0 where
  pub read : time_in d ≡ Some time
  pub whole : IsWhole 1 d

pub record IsKey (key : Keyframe) (d : Data) : Type 0 where
  pub form : is_keyframe d ≡ true
  pub timed : key_has_time d ≡ true
  pub read : key_in d ≡ key
  pub whole : IsWhole 2 d

pub record IsStream (keys : List Keyframe) (d : Data) : Type 0 where
  pub form : is_stream d ≡ true
  pub timed : list_all key_has_time (items_in d) ≡ true
  pub read : keys_in d ≡ keys
  pub whole : IsWhole 3 d

pub record IsMode (mode : Mode) (d : Data) : Type 0 where
  pub read : mode_in d ≡ Some mode
  pub whole : IsWhole 0 d

pub record IsMatte (matte : Matte) (d : Data) : Type 0 where
  pub read : matte_in d ≡ Some matte
  pub whole : IsWhole 0 d

pub record IsItem (item : Item) (d : Data) : Type 0 where
  pub form : is_source d ≡ true
  pub read : source_in d ≡ item
  pub whole : IsWhole 2 d

-- hex text of these bytes
pub record IsHex (bytes : List ℕ) (d : Data) : Type 0 where
  pub read : bytes_in d ≡ Some bytes
  pub whole : IsWhole 0 d

pub record IsClip (clip : ClipUse) (d : Data) : Type 0 where
  pub form : has_exactly clip_names d ≡ true
  pub timed : has_frame d ≡ true
  pub read : plain_clip_of d ≡ clip
  pub whole : IsWhole 2 d

-- the value of a use of an effect of a set with these schemas
pub record IsFx (schemas : List EffectSchema) (fx : FxUse) (d : Data) : Type 0 where
  pub effect : is_effect d ≡ true
  pub form : list_any (λ rule. breaks_effect schemas rule d) form_rules ≡ false
  pub read : plain_fx_of schemas d ≡ plain_fx fx
  pub whole : IsWhole 5 d

pub record IsLayer (schemas : List EffectSchema) (layer : Layer) (d : Data) : Type 0 where
  pub is : is_object d ≡ true
  pub form : list_any (λ rule. breaks_layer schemas rule d) form_rules ≡ false
  pub read : plain_layer_of schemas d ≡ plain_layer layer
  pub whole : IsWhole 7 d

-- the end of a layer is added, where it has one
abbrev pub WithEnd : Option Time → Members → Members → Type 0
WithEnd None old new = new ≡ old
WithEnd (Some time) old new = (end : Data) × IsTime time end × (new ≡ put (codes "out") end old)

pub record IsComp (schemas : List EffectSchema) (comp : Comp) (d : Data) : Type 0 where
  pub is : is_object d ≡ true
  pub form : list_any (λ rule. breaks_comp rule d) form_rules ≡ false
  pub layers : list_any (λ rule. list_any (breaks_layer schemas rule) (items_of (codes "layers") d)) form_rules ≡ false
  pub count : length (items_of (codes "layers") d) ≡ length comp.layers
  pub read : plain_comp_of schemas d ≡ plain_comp comp
  pub whole : IsWhole 9 d

pub record IsProject (schemas : List EffectSchema) (project : Project) (d : Data) : Type 0 where
  pub form : form_breach schemas d ≡ None
  pub read : plain_of_data schemas d ≡ plain_of project
  pub whole : IsWhole 11 d
