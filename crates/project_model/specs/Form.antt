-- The counts that a project in plain parts may have, before any rule on its numbers.
use Rattle.std.specs.Prelude.{ℕ, ◌≤◌, ◌+◌, ◌&&◌, Bool, nat_le, List, [], ◌∷◌, length, All, IsTrue}
use Rattle.std.specs.List.{list_all}
use Rattle.rational_time.specs.declared.time.Time.{Time}
use Rattle.param_stream.specs.declared.key.Keyframe.{Keyframe}
use Rattle.project_model.specs.Bounds.{is_bit_depth, is_among, most_clips, most_comps, most_layers, most_layers_in_all, most_effects, most_keys}
use Rattle.project_model.specs.Times.{times_of}
use Rattle.project_model.specs.declared.plain.PlainFx.{PlainFx}
use Rattle.project_model.specs.declared.plain.PlainLayer.{PlainLayer}
use Rattle.project_model.specs.declared.plain.PlainComp.{PlainComp}
use Rattle.project_model.specs.declared.plain.PlainProject.{PlainProject}

pub record IsKeyCount (keys : List Keyframe) : Type 0 where
  pub some : 1 ≤ length keys
  pub few : length keys ≤ most_keys

-- so many keyframes for each parameter of an effect
pub record IsFormedFx (fx : PlainFx) : Type 0 where
  pub params : All IsKeyCount fx.params

pub record IsFormedLayer (layer : PlainLayer) : Type 0 where
  pub opacity : IsKeyCount layer.opacity
  pub x : IsKeyCount layer.x
  pub y : IsKeyCount layer.y
  pub few_effects : length layer.effects ≤ most_effects
  pub effects : All IsFormedFx layer.effects

pub record IsFormedComp (comp : PlainComp) : Type 0 where
  pub few_layers : length comp.layers ≤ most_layers
  pub layers : All IsFormedLayer comp.layers

-- how many layers there are in all
abbrev pub plain_layer_count : List PlainComp → ℕ
plain_layer_count [] = 0
plain_layer_count (comp ∷ comps) = length comp.layers + plain_layer_count comps

pub record IsFormed (project : PlainProject) : Type 0 where
  pub bits : IsTrue (is_bit_depth project.depth)
  pub few_clips : length project.clips ≤ most_clips
  pub some_comp : 1 ≤ length project.comps
  pub few_comps : length project.comps ≤ most_comps
  pub few_layers : plain_layer_count project.comps ≤ most_layers_in_all
  pub comps : All IsFormedComp project.comps
  pub scaled : All (λ time. 1 ≤ time.scale) (times_of project)

-- ---- as tests

abbrev pub is_key_count : List Keyframe → Bool
is_key_count keys = is_among 1 most_keys (length keys)

abbrev pub is_formed_fx : PlainFx → Bool
is_formed_fx fx = list_all is_key_count fx.params

abbrev pub is_formed_layer : PlainLayer → Bool
is_formed_layer layer =
    is_key_count layer.opacity && is_key_count layer.x && is_key_count layer.y
    && nat_le (length layer.effects) most_effects && list_all is_formed_fx layer.effects

abbrev pub is_formed_comp : PlainComp → Bool
is_formed_comp comp = nat_le (length comp.layers) most_layers && list_all is_formed_layer comp.layers

abbrev pub is_scaled : Time → Bool
is_scaled time = nat_le 1 time.scale

abbrev pub is_formed : PlainProject → Bool
is_formed project =
    is_bit_depth project.depth
    && nat_le (length project.clips) most_clips
    && is_among 1 most_comps (length project.comps)
    && nat_le (plain_layer_count project.comps) most_layers_in_all
    && list_all is_formed_comp project.comps
    && list_all is_scaled (times_of project)
