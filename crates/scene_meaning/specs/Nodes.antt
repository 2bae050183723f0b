-- What the planes of nodes are drawn from.
use Rattle.std.specs.Prelude.{◌≡◌, ◌<◌, ℕ, ℤ, List, [], length, slice_get, Some}
use Rattle.std.specs.Option.{option_map_or}
use Rattle.project_model.specs.Nesting.{layers_in}
use Rattle.rational_time.specs.Times.{tick_of}
use Rattle.comp_stack.specs.Stack.{Plane}
use Rattle.project_model.specs.Nodes.{node_behind, fx_at, layer_at}
use Rattle.project_model.specs.declared.item.Item.TheVariants.{Comp}
use Rattle.project_model.specs.declared.node.NodeId.TheVariants.{Source, Fx, Stack}
use Rattle.project_model.specs.declared.plain.PlainFx.{PlainFx}
use Rattle.project_model.specs.declared.plain.PlainLayer.{PlainLayer}
use Rattle.project_model.specs.declared.plain.PlainComp.{PlainComp}
use Rattle.project_model.specs.declared.plain.PlainProject.{PlainProject}
use Rattle.project_model.specs.declared.node.NodeId.{NodeId}
use Rattle.effect_api.specs.declared.moment.Want.{Want}
use Rattle.scene_meaning.specs.Drawn.{use_in, moment_at, input_plane, drawn_plane}
use Rattle.scene_meaning.specs.Shown.{PlainScene, base_in, since, plane, sources_of, shown, layer_plane}

-- the effects of the layer of these indices
abbrev pub effects_in : PlainProject → ℕ → ℕ → List PlainFx
effects_in project comp layer = option_map_or (λ here. here.effects) (layer_at project comp layer) []

-- the project has the node
abbrev pub HasNode : PlainProject → NodeId → Type 0
HasNode project (Source comp layer) = layer < length (layers_in project comp)
HasNode project (Fx comp layer index) = index < length (effects_in project comp layer)
HasNode project (Stack comp) = comp < length project.comps

-- it is the source of a layer, or an effect of one
abbrev pub IsOfLayer : NodeId → Type 0
IsOfLayer (Source comp layer) = Unit {0}
IsOfLayer (Fx comp layer index) = Unit {0}
IsOfLayer (Stack comp) = ⊥

-- What the effect of this index wants, where it names these layers: its input is the layer behind the effects before it, and each
-- layer that it names is that layer's source.
abbrev pub wanted_plane : PlainScene → ℕ → ℕ → ℕ → List ℕ → Want → Plane
wanted_plane scene comp layer index layers want =
    input_plane want.input (plane scene (node_behind comp layer index)) (λ other. plane scene (Source comp other)) layers want.tick.0

-- each effect is drawn from what it wants
abbrev pub FxIsDrawn : Type 0
FxIsDrawn =
    (scene : PlainScene) (comp layer index : ℕ) (here : PlainComp) (fx : PlainFx) (t : ℤ)
    → slice_get scene.project.comps comp ≡ Some here → fx_at scene.project comp layer index ≡ Some fx
    → plane scene (Fx comp layer index) t
    ≡ drawn_plane scene.set scene.drawing (use_in fx) (moment_at (base_in scene.project) (tick_of (base_in scene.project) here.frame) t)
    (wanted_plane scene comp layer index fx.layers)

-- a nested composition shows its stack, at the tick since the layer began
abbrev pub NestedIsShown : Type 0
NestedIsShown =
    (scene : PlainScene) (comp layer nested : ℕ) (here : PlainComp) (it : PlainLayer) (t : ℤ)
    → slice_get scene.project.comps comp ≡ Some here → slice_get here.layers layer ≡ Some it → it.source ≡ Comp nested
    → plane scene (Source comp layer) t ≡ plane scene (Stack nested) (since (base_in scene.project) it.start t)

-- what a composition shows of a layer is its last node
abbrev pub LastNodeIsShown : Type 0
LastNodeIsShown =
    (scene : PlainScene) (comp layer : ℕ) (here : PlainComp) (it : PlainLayer) (t : ℤ)
    → slice_get scene.project.comps comp ≡ Some here → slice_get here.layers layer ≡ Some it
    → plane scene (node_behind comp layer (length it.effects)) t ≡ layer_plane (sources_of scene (shown scene)) here it t

pub record NodesAreDrawn : Type 0 where
  pub fx : FxIsDrawn
  pub nested : NestedIsShown
  pub last : LastNodeIsShown
