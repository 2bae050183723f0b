-- What holds of a project that keeps the rules, and of its streams.
use Rattle.std.specs.Prelude.{◌≡◌, ℕ, ◌*◌, ◌<◌, ◌≤◌, length, ℤ, pos, ◌≤ℤ◌, All, Option, Some, None}
use Rattle.std.specs.Int.{◌∣◌}
use Rattle.rational_time.specs.Times.{IsNear, common_base}
use Rattle.rational_time.specs.declared.time.Time.{Time}
use Rattle.param_stream.specs.Curve.{Curve, IsBetween}
use Rattle.project_model.specs.Bounds.{most_of, greatest_side, greatest_area, most_frames, greatest_base, full_opacity, least_position, greatest_position}
use Rattle.project_model.specs.Clip.{IsReadable}
use Rattle.project_model.specs.Nesting.{IsAcyclic}
use Rattle.project_model.specs.Plain.{plain_of}
use Rattle.project_model.specs.Times.{times_of}
use Rattle.project_model.specs.declared.clip.ClipUse.{ClipUse}
use Rattle.project_model.specs.declared.effect.FxUse.{FxUse}
use Rattle.project_model.specs.declared.item.Item.{Item}
use Rattle.project_model.specs.declared.item.Item.TheVariants.{Solid as SolidItem, Clip as ClipItem, Comp as CompItem}
use Rattle.project_model.specs.declared.layer.Layer.{Layer}
use Rattle.project_model.specs.declared.comp.Comp.{Comp}
use Rattle.project_model.specs.declared.project.Project.{Project}

-- the sides that a picture may have
pub record IsPictureSize (width height : ℕ) : Type 0 where
  pub some_width : 1 ≤ width
  pub some_height : 1 ≤ height
  pub width_bound : width ≤ greatest_side
  pub height_bound : height ≤ greatest_side
  pub area_bound : width * height ≤ greatest_area

-- a premultiplied colour
pub record IsColour (most a r g b : ℕ) : Type 0 where
  pub alpha : a ≤ most
  pub red : r ≤ a
  pub green : g ≤ a
  pub blue : b ≤ a

-- what a layer may show in a project of so many clips and compositions
abbrev pub IsSoundItem : ℕ → ℕ → ℕ → Item → Type 0
IsSoundItem most clips comps (SolidItem width height a r g b) = IsPictureSize width height × IsColour most a r g b
IsSoundItem most clips comps (ClipItem index) = index < clips
IsSoundItem most clips comps (CompItem index) = index < comps

-- a whole number of ticks of the base
pub record IsWritten (base : ℕ) (time : Time) : Type 0 where
  pub scaled : 1 ≤ time.scale
  pub divides : time.scale ∣ base
  pub near : IsNear time

-- a clip that may be declared, whose frames are a whole number of ticks long
pub record IsSoundClip (base : ℕ) (clip : ClipUse) : Type 0 where
  pub readable : IsReadable clip
  pub frame : IsWritten base clip.frame

-- where there is a time, it is one
abbrev pub MayBeWritten : ℕ → Option Time → Type 0
MayBeWritten base None = Unit {0}
MayBeWritten base (Some time) = IsWritten base time

-- the stream was made with this base, and its values are within these bounds
pub record IsMadeWith (base : ℕ) (least most : ℤ) (curve : Curve) : Type 0 where
  pub base_is : curve.base ≡ base
  pub some : 1 ≤ length curve.keys
  pub within : All (λ key. IsBetween least most key.value) curve.keys

-- the streams of an effect were made with this base; the range of its values is its kind's
pub record IsMadeFx (base : ℕ) (fx : FxUse) : Type 0 where
  pub base_is : All (λ curve. curve.base ≡ base) fx.params
  pub some : All (λ curve. 1 ≤ length curve.keys) fx.params

-- its streams were made so
pub record IsMadeLayer (base : ℕ) (layer : Layer) : Type 0 where
  pub opacity : IsMadeWith base (pos 0) full_opacity layer.opacity
  pub x : IsMadeWith base least_position greatest_position layer.x
  pub y : IsMadeWith base least_position greatest_position layer.y
  pub effects : All (IsMadeFx base) layer.effects

pub record IsSoundLayer (depth base clips comps : ℕ) (layer : Layer) : Type 0 where
  pub source : IsSoundItem (most_of depth) clips comps layer.source
  pub start : IsWritten base layer.start
  pub in_point : IsWritten base layer.in_point
  pub out_point : MayBeWritten base layer.out_point
  pub streams : IsMadeLayer base layer

pub record IsSoundComp (depth base clips comps : ℕ) (comp : Comp) : Type 0 where
  pub size : IsPictureSize comp.width comp.height
  pub some_frame : 1 ≤ comp.frames
  pub few_frames : comp.frames ≤ most_frames
  pub frame : IsWritten base comp.frame
  pub some_time : pos 1 ≤ℤ comp.frame.value
  pub layers : All (IsSoundLayer depth base clips comps) comp.layers

pub record IsSound (project : Project) : Type 0 where
  pub base : project.base.ticks ≡ common_base (times_of (plain_of project))
  pub some_base : 1 ≤ project.base.ticks
  pub base_bound : project.base.ticks ≤ greatest_base
  pub root : project.root < length project.comps
  pub clips : All (IsSoundClip project.base.ticks) project.clips
  pub comps : All (IsSoundComp project.depth project.base.ticks (length project.clips) (length project.comps)) project.comps
  pub nesting : IsAcyclic (plain_of project)
