-- A worked example: one composition of two pixels with one solid.
use Rattle.std.specs.Prelude.{[], ◌∷◌, pos, Some, None}
use Rattle.transfer_mode.specs.declared.mode.Mode.TheVariants.{Normal}
use Rattle.track_matte.specs.declared.matte.Matte.TheVariants as matte
use Rattle.project_model.specs.Constant.{zero_time, constant}
use Rattle.project_model.specs.declared.item.Item.TheVariants.{Solid}
use Rattle.project_model.specs.declared.plain.PlainProject.{PlainProject}

abbrev pub two_pixel_project : PlainProject
two_pixel_project = record {
  depth = 8;
  root = 0;
  clips = [];
  comps = record {
    width = 2;
    height = 1;
    frame = record { value = pos 1; scale = 24 };
    frames = 1;
    layers = record {
      source = Solid 2 1 255 10 20 30;
      start = zero_time;
      in_point = zero_time;
      out_point = None;
      mode = Some Normal;
      matte = Some matte.None;
      opacity = constant (pos 10000);
      x = constant (pos 0);
      y = constant (pos 0);
      effects = [];
    } ∷ [];
  } ∷ [];
}
