-- What a cache keeps of a scene.
use Rattle.std.specs.Prelude.{◌≡◌, ◌↔◌, ◌≤◌, ℕ, zero, suc, ◌+◌, ◌-◌, ◌*◌, ◌/◌, ◌%◌, ◌^◌, ◌==◌, ◌&&◌, ℤ, pos, ◌+ℤ◌, ◌-ℤ◌, List, [], ◌∷◌, length, map, flat_map, nat_le, nat_lt, unsigned_abs, option_map, option_and_then, Option, Some, None, if◌then◌else◌}
use Rattle.std.specs.List.{range_with_len}
use Rattle.geom_rect.specs.Rect.{area_of, width_of, count_between}
use Rattle.argb_pixel.specs.Packed.{pixel_size}
use Rattle.argb_world.specs.Picture.{Picture, greatest_part}
use Rattle.comp_stack.specs.Stack.{Plane}
use Rattle.rational_time.specs.declared.time.TheConstants.{MOST_SECONDS}
use Rattle.project_model.specs.Form.{IsFormed}
use Rattle.project_model.specs.Nodes.{node_behind}
use Rattle.project_model.specs.declared.node.NodeId.{NodeId}
use Rattle.project_model.specs.declared.plain.PlainComp.{PlainComp}
use Rattle.project_model.specs.declared.plain.PlainProject.{PlainProject}
use Rattle.effect_api.specs.declared.checkouts.Value.{Value}
use Rattle.effect_api.specs.declared.checkouts.Value.TheVariants as value
use Rattle.effect_api.specs.Fits.{IsHeld}
use Rattle.effect_api.specs.Sets.{EffectSet, Drawing}
use Rattle.scene_meaning.specs.Keys.{IsSpelled, key_in, node_number}
use Rattle.scene_meaning.specs.Nodes.{HasNode, IsOfLayer, effects_in}
use Rattle.scene_meaning.specs.Shown.{PlainScene, base_in, plane}

-- ---- what a key spells

abbrev pub class_in : ℕ → ℕ
class_in key = key / 2 ^ 120

abbrev pub node_in : ℕ → ℕ
node_in key = key / 2 ^ 88 % 2 ^ 32

abbrev pub ask_in : ℕ → ℕ
ask_in key = key / 2 ^ 64 % 2 ^ 24

abbrev pub tick_in : ℕ → ℤ
tick_in key = pos (key % 2 ^ 64) -ℤ pos (2 ^ 63)

-- the composition and the layer of a number, where the layers of all are counted in order
abbrev pub layer_numbered : List PlainComp → ℕ → Option (ℕ × ℕ)
layer_numbered [] number = None
layer_numbered (comp ∷ comps) number =
    if nat_lt number (length comp.layers)
    then Some (0, number)
    else option_map (λ (place : ℕ × ℕ). (place.0 + 1, place.1)) (layer_numbered comps (number - length comp.layers))

-- the node behind so many effects of a layer, where it has them
abbrev pub node_of_layer : PlainProject → ℕ → (ℕ × ℕ) → Option NodeId
node_of_layer project before place =
    if nat_le before (length (effects_in project place.0 place.1)) then Some (node_behind place.0 place.1 before) else None

-- the source or effect of a number
abbrev pub node_numbered : PlainProject → ℕ → Option NodeId
node_numbered project number = option_and_then (node_of_layer project (number % 9)) (layer_numbered project.comps (number / 9))

-- ---- values

-- a plane as a picture, all of it
abbrev pub whole_of : Plane → Picture
whole_of plane = record {
  extent = plane.extent;
  part = plane.extent;
  pixels = flat_map
      (λ y. map (λ x. plane.at (plane.extent.left +ℤ pos x) (plane.extent.top +ℤ pos y)) (range_with_len 0 (width_of plane.extent)))
      (range_with_len 0 (count_between plane.extent.top plane.extent.bottom));
}

-- What is kept of a plane under a class and an ask: under class 0 the plane itself, where a picture may have as many points, and under a
-- class of the set its sums.
abbrev pub value_of : {most : ℕ} → EffectSet → Drawing → ℕ → ℕ → Plane → Option (Value most)
value_of set drawing zero ask plane =
    if (ask == 0) && nat_le (area_of plane.extent) greatest_part then Some (value.Plane (whole_of plane)) else None
value_of set drawing (suc index) ask plane =
    if nat_lt index (length set.class_names) then Some (value.Sums (drawing.sums_of (suc index) ask plane)) else None

-- What is kept under a class and a key that spells this class, a node of the scene, an ask and a held tick: the value of that node's
-- plane at that tick. Nothing is kept under any other key.
abbrev pub kept : (most : ℕ) → PlainScene → ℕ → ℕ → Option (Value most)
kept most scene class key =
    if (class_in key == class) && nat_le (unsigned_abs (tick_in key)) (MOST_SECONDS * base_in scene.project)
    then option_and_then (λ node. value_of scene.set scene.drawing class (ask_in key) (plane scene node (tick_in key))) (node_numbered scene.project (node_in key))
    else None

-- the approximate size of a value in bytes
abbrev pub size_in : {most : ℕ} → Value most → ℕ
size_in {most = most} (value.Plane world) = 64 + pixel_size most * area_of world.part
size_in (value.Sums sums) = 64 + 8 * length sums

-- ---- laws

-- under the key of a node of the scene, of an ask and of a held tick the value of that node's plane at that tick is kept
abbrev pub NodesAreKept : Type 0
NodesAreKept =
    (most : ℕ) (scene : PlainScene) (class ask : ℕ) (node : NodeId) (t : ℤ)
    → IsFormed scene.project → HasNode scene.project node → IsOfLayer node
    → IsSpelled class (node_number scene.project node) ask t → IsHeld (base_in scene.project) t
    → kept most scene class (key_in class (node_number scene.project node) ask t)
    ≡ value_of scene.set scene.drawing class ask (plane scene node t)

-- what is right under a class and a key: the value of a node's plane, where the key spells the class, the node, an ask and a held tick
pub record IsRight {most : ℕ} (scene : PlainScene) (class key : ℕ) (v : Value most) : Type 0 where
  pub node : NodeId
  pub ask : ℕ
  pub tick : ℤ
  pub has : HasNode scene.project node
  pub of_layer : IsOfLayer node
  pub spelled : IsSpelled class (node_number scene.project node) ask tick
  pub held : IsHeld (base_in scene.project) tick
  pub key_is : key ≡ key_in class (node_number scene.project node) ask tick
  pub value_is : value_of scene.set scene.drawing class ask (plane scene node tick) ≡ Some v

-- a value is kept exactly where it is right, for sets of as many classes as a set may have
abbrev pub KeptIsRight : Type 0
KeptIsRight =
    (most : ℕ) (scene : PlainScene) (class key : ℕ) (v : Value most)
    → IsFormed scene.project → length scene.set.class_names ≤ 255
    → (kept most scene class key ≡ Some v) ↔ IsRight scene class key v
