-- Worked examples: files of one or two pixels a frame, each byte worked by hand.
use Rattle.std.specs.Prelude.{◌≡◌, ℕ, ◌++◌, ℤ, pos, negsuc, List, [], ◌∷◌, Option, Some, None}
use Rattle.rational_time.specs.declared.time.Time.{Time}
use Rattle.param_stream.specs.declared.key.Ease.TheVariants.{Linear}
use Rattle.param_stream.specs.declared.key.Keyframe.{Keyframe}
use Rattle.transfer_mode.specs.declared.mode.Mode.{Mode}
use Rattle.transfer_mode.specs.declared.mode.Mode.TheVariants.{Normal, Multiply}
use Rattle.track_matte.specs.declared.matte.Matte.{Matte}
use Rattle.track_matte.specs.declared.matte.Matte.TheVariants as matte
use Rattle.project_model.specs.declared.item.Item.{Item}
use Rattle.project_model.specs.declared.item.Item.TheVariants.{Solid, Clip, Comp}
use Rattle.project_model.specs.declared.clip.ClipUse.{ClipUse}
use Rattle.project_model.specs.declared.plain.PlainComp.{PlainComp}
use Rattle.project_model.specs.declared.plain.PlainLayer.{PlainLayer}
use Rattle.project_model.specs.declared.plain.PlainProject.{PlainProject}
use Rattle.project_model.specs.Constant.{zero_time, constant}
use Rattle.project_model.specs.Worked.{two_pixel_project}
use Rattle.geom_rect.specs.Rect.{origin}
use Rattle.argb_pixel.specs.Pixel.{Argb, clear}
use Rattle.effect_api.specs.Sets.{EffectSet, Drawing}
use Rattle.frame_file.specs.Clip.{pictures_of}
use Rattle.scene_meaning.specs.Shown.{PlainScene}
use Rattle.scene_meaning.specs.Output.{file}

-- no effects
abbrev pub no_effects : EffectSet
no_effects = record {
  schemas = [];
  class_names = [];
  wants = λ fx at. [];
  asks = λ fx at. [];
  bounds = λ fx at extents. origin;
  need = λ fx at extents i rect. rect;
}

abbrev pub no_drawing : Drawing
no_drawing = record { draws = λ fx at planes sums x y. clear; sums_of = λ class ask plane. [] }

-- a project that uses no clip and no effect
abbrev pub alone : PlainProject → PlainScene
alone project = record { project = project; clips = []; set = no_effects; drawing = no_drawing }

-- the header of so many frames from 0 on: two pixels by one, 8 bit, 24 frames a second
abbrev pub two_pixel_header : ℕ → List ℕ
two_pixel_header frames =
    65 ∷ 70 ∷ 82 ∷ 49 ∷ 0 ∷ 0 ∷ 0 ∷ 2 ∷ 0 ∷ 0 ∷ 0 ∷ 1 ∷ 8 ∷ 0 ∷ 0 ∷ 0 ∷ 1 ∷ 0 ∷ 0 ∷ 0 ∷ 24 ∷ 0 ∷ 0 ∷ 0 ∷ 0 ∷ 0 ∷ 0 ∷ 0 ∷ frames ∷ []

-- an opaque pixel, and none
abbrev pub colour_bytes : List ℕ
colour_bytes = 255 ∷ 10 ∷ 20 ∷ 30 ∷ []

abbrev pub no_bytes : List ℕ
no_bytes = 0 ∷ 0 ∷ 0 ∷ 0 ∷ []

abbrev pub two_pixel_file : List ℕ
two_pixel_file = two_pixel_header 1 ++ colour_bytes ++ colour_bytes

abbrev pub TwoPixelsAreDrawn : Type 0
TwoPixelsAreDrawn = file (alone two_pixel_project) 0 0 ≡ two_pixel_file

-- one solid in so many frames, which ends at this time and is at x under this opacity
abbrev pub one_solid : ℕ → Option Time → List Keyframe → ℤ → PlainProject
one_solid frames out x opacity = record {
  depth = 8;
  root = 0;
  clips = [];
  comps = record {
    width = 2;
    height = 1;
    frame = record { value = pos 1; scale = 24 };
    frames = frames;
    layers = record {
      source = Solid 2 1 255 10 20 30;
      start = zero_time;
      in_point = zero_time;
      out_point = out;
      mode = Some Normal;
      matte = Some matte.None;
      opacity = constant opacity;
      x = x;
      y = constant (pos 0);
      effects = [];
    } ∷ [];
  } ∷ [];
}

-- a solid that ends at time 0 is never seen
abbrev pub EndedIsNotDrawn : Type 0
EndedIsNotDrawn =
    file (alone (one_solid 1 (Some zero_time) (constant (pos 0)) (pos 10000))) 0 0 ≡ two_pixel_header 1 ++ no_bytes ++ no_bytes

-- from 0 to 2 in two frames, evenly
abbrev pub to_the_right : List Keyframe
to_the_right =
    record { time = zero_time; value = pos 0; kind = Linear }
    ∷ record { time = record { value = pos 2; scale = 24 }; value = pos 2; kind = Linear }
    ∷ []

-- a solid that moves to the right is at 0, then at 1, then out of the frame
abbrev pub MovingIsDrawn : Type 0
MovingIsDrawn =
    file (alone (one_solid 3 None to_the_right (pos 10000))) 0 2
    ≡ two_pixel_header 3 ++ colour_bytes ++ colour_bytes ++ no_bytes ++ colour_bytes ++ no_bytes ++ no_bytes

-- one column to the left, at half its opacity: each channel is halved, a half up, and the right pixel shows nothing
abbrev pub HalfIsDrawn : Type 0
HalfIsDrawn =
    file (alone (one_solid 1 None (constant (negsuc 0)) (pos 5000))) 0 0 ≡ two_pixel_header 1 ++ (128 ∷ 5 ∷ 10 ∷ 15 ∷ []) ++ no_bytes

-- a layer at the origin, of one colour over one pixel
abbrev pub one_pixel : Mode → Matte → ℤ → Item → PlainLayer
one_pixel mode kind opacity item = record {
  source = item;
  start = zero_time;
  in_point = zero_time;
  out_point = None;
  mode = Some mode;
  matte = Some kind;
  opacity = constant opacity;
  x = constant (pos 0);
  y = constant (pos 0);
  effects = [];
}

-- one pixel by one, in one frame
abbrev pub pixel_project : ℕ → List PlainLayer → PlainProject
pixel_project depth layers = record {
  depth = depth;
  root = 0;
  clips = [];
  comps = record {
    width = 1;
    height = 1;
    frame = record { value = pos 1; scale = 24 };
    frames = 1;
    layers = layers;
  } ∷ [];
}

abbrev pub pixel_header : ℕ → ℕ → List ℕ
pixel_header depth frames =
    65 ∷ 70 ∷ 82 ∷ 49 ∷ 0 ∷ 0 ∷ 0 ∷ 1 ∷ 0 ∷ 0 ∷ 0 ∷ 1 ∷ depth ∷ 0 ∷ 0 ∷ 0 ∷ 1 ∷ 0 ∷ 0 ∷ 0 ∷ 24 ∷ 0 ∷ 0 ∷ 0 ∷ 0 ∷ 0 ∷ 0 ∷ 0 ∷ frames ∷ []

-- a channel of 16 bits is two bytes, the higher first
abbrev pub SixteenBitsAreDrawn : Type 0
SixteenBitsAreDrawn =
    file (alone (pixel_project 16 (one_pixel Normal matte.None (pos 10000) (Solid 1 1 32768 16384 0 1) ∷ []))) 0 0
    ≡ pixel_header 16 1 ++ 128 ∷ 0 ∷ 64 ∷ 0 ∷ 0 ∷ 0 ∷ 0 ∷ 1 ∷ []

-- half opaque white as the alpha matte of red: red is halved, and the white is not seen
abbrev pub MatteIsDrawn : Type 0
MatteIsDrawn =
    file (alone (pixel_project 8 (one_pixel Normal matte.None (pos 5000) (Solid 1 1 255 255 255 255)
    ∷ one_pixel Normal matte.Alpha (pos 10000) (Solid 1 1 255 255 0 0) ∷ []))) 0 0
    ≡ pixel_header 8 1 ++ 128 ∷ 128 ∷ 0 ∷ 0 ∷ []

-- opaque grey times opaque grey
abbrev pub ModeIsDrawn : Type 0
ModeIsDrawn =
    file (alone (pixel_project 8 (one_pixel Multiply matte.None (pos 10000) (Solid 1 1 255 128 128 128)
    ∷ one_pixel Normal matte.None (pos 10000) (Solid 1 1 255 128 128 128) ∷ []))) 0 0
    ≡ pixel_header 8 1 ++ 255 ∷ 64 ∷ 64 ∷ 64 ∷ []

-- ---- nested compositions and clips

-- so many 24ths of a second
abbrev pub frames_of_24 : ℤ → Time
frames_of_24 value = record { value = value; scale = 24 }

-- one pixel by one, in so many frames
abbrev pub pixel_comp : ℕ → List PlainLayer → PlainComp
pixel_comp frames layers = record {
  width = 1;
  height = 1;
  frame = frames_of_24 (pos 1);
  frames = frames;
  layers = layers;
}

-- a layer of this source, whose own time begins so many frames later
abbrev pub begun_at : ℤ → Item → PlainLayer
begun_at value item = record {
  source = item;
  start = frames_of_24 value;
  in_point = zero_time;
  out_point = None;
  mode = Some Normal;
  matte = Some matte.None;
  opacity = constant (pos 10000);
  x = constant (pos 0);
  y = constant (pos 0);
  effects = [];
}

-- composition 1 nests composition 0 from its frame 2 on
abbrev pub nested_project : PlainProject
nested_project = record {
  depth = 8;
  root = 1;
  clips = [];
  comps =
      pixel_comp 4 (one_pixel Normal matte.None (pos 10000) (Solid 1 1 100 100 0 0) ∷ [])
      ∷ pixel_comp 4 (begun_at (pos 2) (Comp 0) ∷ [])
      ∷ [];
}

-- before that frame it is before its own time
abbrev pub NestedIsDrawn : Type 0
NestedIsDrawn =
    file (alone nested_project) 0 3
    ≡ pixel_header 8 4 ++ no_bytes ++ no_bytes ++ (100 ∷ 100 ∷ 0 ∷ 0 ∷ []) ++ 100 ∷ 100 ∷ 0 ∷ 0 ∷ []

-- a clip of pictures of one pixel, each a 24th of a second long
abbrev pub pixel_clip : ℕ → ℕ → ClipUse
pixel_clip depth frames = record {
  name = 97 ∷ [];
  width = 1;
  height = 1;
  depth = depth;
  frame = frames_of_24 (pos 1);
  frames = frames;
}

-- a project of this depth that shows the clip from its frame 1 on, in so many frames
abbrev pub clip_scene : ℕ → ℕ → ClipUse → List Argb → PlainScene
clip_scene depth frames declared pixels = record {
  project = record {
    depth = depth;
    root = 0;
    clips = declared ∷ [];
    comps = pixel_comp frames (begun_at (pos 1) (Clip 0) ∷ []) ∷ [];
  };
  clips = pictures_of declared pixels ∷ [];
  set = no_effects;
  drawing = no_drawing;
}

-- there is no picture before the first and after the last
abbrev pub ClipIsDrawn : Type 0
ClipIsDrawn =
    file (clip_scene 8 4 (pixel_clip 8 2) (record { a = 255; r = 10; g = 20; b = 30 } ∷ record { a = 128; r = 0; g = 64; b = 128 } ∷ [])) 0 3
    ≡ pixel_header 8 4 ++ no_bytes ++ colour_bytes ++ (128 ∷ 0 ∷ 64 ∷ 128 ∷ []) ++ no_bytes

-- the header of the one frame with number 1
abbrev pub last_of_two : ℕ → List ℕ
last_of_two depth =
    65 ∷ 70 ∷ 82 ∷ 49 ∷ 0 ∷ 0 ∷ 0 ∷ 1 ∷ 0 ∷ 0 ∷ 0 ∷ 1 ∷ depth ∷ 0 ∷ 0 ∷ 0 ∷ 1 ∷ 0 ∷ 0 ∷ 0 ∷ 24 ∷ 0 ∷ 0 ∷ 0 ∷ 1 ∷ 0 ∷ 0 ∷ 0 ∷ 1 ∷ []

-- 8 bits in a project of 16: 128 becomes 16448
abbrev pub ClipIsWidened : Type 0
ClipIsWidened =
    file (clip_scene 16 2 (pixel_clip 8 1) (record { a = 255; r = 128; g = 0; b = 255 } ∷ [])) 1 1
    ≡ last_of_two 16 ++ 128 ∷ 0 ∷ 64 ∷ 64 ∷ 0 ∷ 0 ∷ 128 ∷ 0 ∷ []

-- 16 bits in a project of 8: 16448 becomes 128
abbrev pub ClipIsNarrowed : Type 0
ClipIsNarrowed =
    file (clip_scene 8 2 (pixel_clip 16 1) (record { a = 32768; r = 16448; g = 0; b = 32768 } ∷ [])) 1 1
    ≡ last_of_two 8 ++ 255 ∷ 128 ∷ 0 ∷ 255 ∷ []
