-- All times that a project writes, in order.
use Rattle.std.specs.Prelude.{List, ◌∷◌, ◌++◌, map, flat_map, option_to_list}
use Rattle.rational_time.specs.declared.time.Time.{Time}
use Rattle.param_stream.specs.declared.key.Keyframe.{Keyframe}
use Rattle.project_model.specs.declared.plain.PlainFx.{PlainFx}
use Rattle.project_model.specs.declared.plain.PlainLayer.{PlainLayer}
use Rattle.project_model.specs.declared.plain.PlainComp.{PlainComp}
use Rattle.project_model.specs.declared.plain.PlainProject.{PlainProject}

abbrev pub key_times : List Keyframe → List Time
key_times keys = map (λ key. key.time) keys

-- those of an effect's parameters
abbrev pub fx_times : PlainFx → List Time
fx_times fx = flat_map key_times fx.params

abbrev pub layer_times : PlainLayer → List Time
layer_times layer =
    layer.start ∷ layer.in_point ∷ option_to_list layer.out_point
    ++ key_times layer.opacity ++ key_times layer.x ++ key_times layer.y ++ flat_map fx_times layer.effects

abbrev pub comp_times : PlainComp → List Time
comp_times comp = comp.frame ∷ flat_map layer_times comp.layers

abbrev pub times_of : PlainProject → List Time
times_of project = map (λ clip. clip.frame) project.clips ++ flat_map comp_times project.comps
