-- Worked examples: the text of one composition of two pixels with one solid, that of a clip in a composition that is nested, and
-- that of a layer with effects.
use Rattle.std.specs.Prelude.{◌≡◌, ℕ, List, [], ◌∷◌, true, pos, negsuc, codes, Some, None, Ok}
use Rattle.rational_time.specs.declared.time.Time.{Time}
use Rattle.param_stream.specs.declared.key.Ease.TheVariants.{Linear, Smooth}
use Rattle.transfer_mode.specs.declared.mode.Mode.TheVariants.{Normal}
use Rattle.track_matte.specs.declared.matte.Matte.TheVariants as matte
use Rattle.project_model.specs.Constant.{zero_time, constant}
use Rattle.project_model.specs.Worked.{two_pixel_project}
use Rattle.project_model.specs.declared.effect.EffectSchema.{EffectSchema}
use Rattle.project_model.specs.declared.item.Item.{Item}
use Rattle.project_model.specs.declared.item.Item.TheVariants.{Solid, Clip, Comp}
use Rattle.project_model.specs.declared.plain.PlainLayer.{PlainLayer}
use Rattle.project_model.specs.declared.plain.PlainComp.{PlainComp}
use Rattle.project_model.specs.declared.plain.PlainProject.{PlainProject}
use Rattle.project_json.specs.Reading.{project_of}

abbrev pub two_pixel_text : List ℕ
two_pixel_text = codes "{\"version\":1,\"depth\":8,\"root\":0,\"comps\":[{\"width\":2,\"height\":1,\"frame\":[1,24],\"frames\":1,\"layers\":[{\"source\":{\"solid\":[2,1,255,10,20,30]}}]}]}"

-- reading it gives that project, whatever the effects of the set are
abbrev pub TwoPixelsAreRead : Type 0
TwoPixelsAreRead = (schemas : List EffectSchema) → project_of schemas two_pixel_text ≡ Ok two_pixel_project

abbrev pub nested_clip_text : List ℕ
nested_clip_text = codes "{\"version\":1,\"depth\":16,\"root\":1,\"clips\":[{\"name\":\"a.afr\",\"width\":2,\"height\":1,\"depth\":8,\"frame\":[1,25],\"frames\":3}],\"comps\":[{\"width\":2,\"height\":1,\"frame\":[1,24],\"frames\":4,\"layers\":[{\"source\":{\"clip\":0}}]},{\"width\":2,\"height\":1,\"frame\":[1,24],\"frames\":4,\"layers\":[{\"source\":{\"comp\":0},\"start\":[2,24]}]}]}"

-- a layer with a source and a start, and nothing else
abbrev pub plain_source : Item → Time → PlainLayer
plain_source source start = record {
  source = source;
  start = start;
  in_point = zero_time;
  out_point = None;
  mode = Some Normal;
  matte = Some matte.None;
  opacity = constant (pos 10000);
  x = constant (pos 0);
  y = constant (pos 0);
  effects = [];
}

-- four frames of two pixels and one layer
abbrev pub two_pixels_of : PlainLayer → PlainComp
two_pixels_of layer = record { width = 2; height = 1; frame = record { value = pos 1; scale = 24 }; frames = 4; layers = layer ∷ [] }

abbrev pub nested_clip_project : PlainProject
nested_clip_project = record {
  depth = 16;
  root = 1;
  clips = record {
    name = codes "a.afr";
    width = 2;
    height = 1;
    depth = 8;
    frame = record { value = pos 1; scale = 25 };
    frames = 3;
  } ∷ [];
  comps = two_pixels_of (plain_source (Clip 0) zero_time) ∷ two_pixels_of (plain_source (Comp 0) record { value = pos 2; scale = 24 }) ∷ [];
}

-- reading it gives that project, whatever the effects of the set are
abbrev pub NestedClipIsRead : Type 0
NestedClipIsRead = (schemas : List EffectSchema) → project_of schemas nested_clip_text ≡ Ok nested_clip_project

-- an effect of two parameters, one of a layer, and one with sequence data
abbrev pub fade_schema : EffectSchema
fade_schema = record {
  name = codes "Fade";
  threaded = true;
  params = record { name = codes "amount"; least = pos 0; most = pos 10000 }
      ∷ record { name = codes "level"; least = negsuc 99; most = pos 100 }
      ∷ [];
  layers = 0;
  sequence = record { unit = 0; least = 0; most = 0 };
}

abbrev pub mask_schema : EffectSchema
mask_schema = record { name = codes "Mask"; threaded = true; params = []; layers = 1; sequence = record { unit = 0; least = 0; most = 0 } }

abbrev pub palette_schema : EffectSchema
palette_schema = record { name = codes "Palette"; threaded = true; params = []; layers = 0; sequence = record { unit = 3; least = 1; most = 256 } }

abbrev pub worked_schemas : List EffectSchema
worked_schemas = fade_schema ∷ mask_schema ∷ palette_schema ∷ []

abbrev pub effects_text : List ℕ
effects_text = codes "{\"version\":1,\"depth\":8,\"root\":0,\"comps\":[{\"width\":2,\"height\":1,\"frame\":[1,24],\"frames\":4,\"layers\":[{\"source\":{\"solid\":[2,1,255,10,20,30]},\"effects\":[{\"effect\":\"Palette\",\"sequence\":\"000000FFffff\"},{\"effect\":\"Fade\",\"params\":[[[0,[0,1],\"linear\"],[10000,[3,24],\"ease\"]],-100]},{\"effect\":\"Mask\",\"layers\":[0]}]}]}]}"

abbrev pub effects_project : PlainProject
effects_project = record {
  depth = 8;
  root = 0;
  clips = [];
  comps = two_pixels_of record {
    source = Solid 2 1 255 10 20 30;
    start = zero_time;
    in_point = zero_time;
    out_point = None;
    mode = Some Normal;
    matte = Some matte.None;
    opacity = constant (pos 10000);
    x = constant (pos 0);
    y = constant (pos 0);
    effects = record { kind = 2; params = []; layers = []; sequence = Some (0 ∷ 0 ∷ 0 ∷ 255 ∷ 255 ∷ 255 ∷ []) }
        ∷ record {
          kind = 0;
          params = (
              record { time = zero_time; value = pos 0; kind = Linear }
              ∷ record { time = record { value = pos 3; scale = 24 }; value = pos 10000; kind = Smooth }
              ∷ []
              )
              ∷ constant (negsuc 99)
              ∷ [];
          layers = [];
          sequence = Some [];
        }
        ∷ record { kind = 1; params = []; layers = 0 ∷ []; sequence = Some [] }
        ∷ [];
  } ∷ [];
}

-- reading it gives that project, where these are the effects of the set
abbrev pub EffectsAreRead : Type 0
EffectsAreRead = project_of worked_schemas effects_text ≡ Ok effects_project
