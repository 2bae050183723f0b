-- What a project says in plain parts: its streams are their keyframes, without the bounds that they were made with.
use Rattle.std.specs.Prelude.{map, Some}
use Rattle.project_model.specs.declared.effect.FxUse.{FxUse}
use Rattle.project_model.specs.declared.layer.Layer.{Layer}
use Rattle.project_model.specs.declared.comp.Comp.{Comp}
use Rattle.project_model.specs.declared.project.Project.{Project}
use Rattle.project_model.specs.declared.plain.PlainFx.{PlainFx}
use Rattle.project_model.specs.declared.plain.PlainLayer.{PlainLayer}
use Rattle.project_model.specs.declared.plain.PlainComp.{PlainComp}
use Rattle.project_model.specs.declared.plain.PlainProject.{PlainProject}

abbrev pub plain_fx : FxUse → PlainFx
plain_fx fx = record {
  kind = fx.kind;
  params = map (λ curve. curve.keys) fx.params;
  layers = fx.layers;
  sequence = Some fx.sequence;
}

abbrev pub plain_layer : Layer → PlainLayer
plain_layer layer = record {
  source = layer.source;
  start = layer.start;
  in_point = layer.in_point;
  out_point = layer.out_point;
  mode = Some layer.mode;
  matte = Some layer.matte;
  opacity = layer.opacity.keys;
  x = layer.x.keys;
  y = layer.y.keys;
  effects = map plain_fx layer.effects;
}

abbrev pub plain_comp : Comp → PlainComp
plain_comp comp = record {
  width = comp.width;
  height = comp.height;
  frame = comp.frame;
  frames = comp.frames;
  layers = map plain_layer comp.layers;
}

abbrev pub plain_of : Project → PlainProject
plain_of project = record {
  depth = project.depth;
  root = project.root;
  clips = project.clips;
  comps = map plain_comp project.comps;
}
