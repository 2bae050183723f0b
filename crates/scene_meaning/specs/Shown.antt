-- What a composition shows at a tick.
use Rattle.std.specs.Prelude.{◌≡◌, ℕ, zero, suc, ◌+◌, ℤ, pos, ◌*ℤ◌, ◌-ℤ◌, List, [], ◌∷◌, length, fold, take, nat_lt, slice_get, unsigned_abs, unwrap_or, int_le, int_lt, Bool, false, not, ◌&&◌, if◌then◌else◌, Option, Some, None}
use Rattle.std.specs.Option.{option_map_or}
use Rattle.geom_rect.specs.Rect.{has, frame_rect}
use Rattle.argb_pixel.specs.Pixel.{Argb, clear}
use Rattle.rational_time.specs.declared.time.Time.{Time}
use Rattle.rational_time.specs.Times.{tick_of, frame_at, held_of, common_base}
use Rattle.param_stream.specs.Curve.{value_at}
use Rattle.transfer_mode.specs.declared.mode.Mode.TheVariants.{Normal}
use Rattle.track_matte.specs.declared.matte.Matte.TheVariants as matte
use Rattle.comp_stack.specs.Stack.{Plane, solid_plane, PlacedPlane, PlacedLayer, stack_at}
use Rattle.project_model.specs.Bounds.{most_of}
use Rattle.project_model.specs.Nesting.{IsAcyclic}
use Rattle.project_model.specs.Rules.{has_matte, layer_above}
use Rattle.project_model.specs.Times.{times_of}
use Rattle.project_model.specs.declared.clip.ClipUse.{ClipUse}
use Rattle.project_model.specs.declared.item.Item.{Item}
use Rattle.project_model.specs.declared.item.Item.TheVariants.{Solid, Clip, Comp}
use Rattle.project_model.specs.declared.node.NodeId.{NodeId}
use Rattle.project_model.specs.declared.node.NodeId.TheVariants.{Source, Fx, Stack}
use Rattle.project_model.specs.declared.plain.PlainFx.{PlainFx}
use Rattle.project_model.specs.declared.plain.PlainLayer.{PlainLayer}
use Rattle.project_model.specs.declared.plain.PlainComp.{PlainComp}
use Rattle.project_model.specs.declared.plain.PlainProject.{PlainProject}
use Rattle.frame_file.specs.Clip.{Pictures, pixel_in}
use Rattle.effect_api.specs.declared.moment.Want.{Want}
use Rattle.effect_api.specs.Sets.{EffectSet, Drawing}
use Rattle.scene_meaning.specs.Drawn.{nothing, use_in, moment_at, input_plane, drawn_plane}

-- a project with the pictures of its clips, in the order in which it declares them, and the effects that it uses
pub record PlainScene : Type 0 where
  pub project : PlainProject
  pub clips : List Pictures
  -- what each effect draws from and where, and what it draws at the project's depth
  pub set : EffectSet
  pub drawing : Drawing

-- the ticks of a second: the least common multiple of all scales that the project writes
abbrev pub base_in : PlainProject → ℕ
base_in project = common_base (times_of project)

-- the greatest value of a channel
abbrev pub most_in : PlainScene → ℕ
most_in scene = most_of scene.project.depth

-- what the composition of an index shows at a tick and a point
abbrev pub Showing : Type 0
Showing = ℕ → ℤ → ℤ → ℤ → Argb

-- ---- clips

-- a pixel of a picture of a clip, transparent where there is no such picture or point
abbrev pub picture_at : ℕ → Pictures → ℤ → ℤ → ℤ → Argb
picture_at most clip picture x y =
    if int_le (pos 0) picture && int_lt picture (pos clip.frames) && has (frame_rect clip.width clip.height) x y
    then pixel_in most clip (unsigned_abs picture) (unsigned_abs x) (unsigned_abs y)
    else clear

abbrev pub picture_plane : ℕ → ℕ → Option ClipUse → Option Pictures → ℤ → Plane
picture_plane most base (Some declared) (Some clip) t = record {
  extent = frame_rect clip.width clip.height;
  at = picture_at most clip (frame_at t (tick_of base declared.frame));
}
picture_plane most base _ _ t = nothing

-- what the clip of an index shows at a tick of its own: the picture in which the tick lies, in the project's depth
abbrev pub clip_plane : PlainScene → ℕ → ℤ → Plane
clip_plane scene index t =
    picture_plane (most_in scene) (base_in scene.project) (slice_get scene.project.clips index) (slice_get scene.clips index) t

-- ---- what layers take from

-- what layers are drawn from: clips and compositions by their indices, at ticks of their own, and effects
pub record Sources : Type 0 where
  -- the ticks of a second
  pub base : ℕ
  pub clip : ℕ → ℤ → Plane
  pub comp : ℕ → ℤ → Plane
  pub set : EffectSet
  pub drawing : Drawing

-- over the frame of a composition, what it shows
abbrev pub comp_plane : Showing → ℕ → Option PlainComp → ℤ → Plane
comp_plane showing index None t = nothing
comp_plane showing index (Some comp) t = record { extent = frame_rect comp.width comp.height; at = showing index t }

-- the clips of a scene, and its compositions where they show this
abbrev pub sources_of : PlainScene → Showing → Sources
sources_of scene showing = record {
  base = base_in scene.project;
  clip = clip_plane scene;
  comp = λ index t. comp_plane showing index (slice_get scene.project.comps index) t;
  set = scene.set;
  drawing = scene.drawing;
}

-- the tick since a layer that starts at this time began, within 36,000 seconds of zero
abbrev pub since : ℕ → Time → ℤ → ℤ
since base start t = held_of base (t -ℤ tick_of base start)

-- The plane of what a layer shows at a tick, where the layer starts at this time. A solid is the same at each tick.
abbrev pub plane_of_item : Sources → Time → Item → ℤ → Plane
plane_of_item sources start (Solid width height a r g b) t = solid_plane width height record { a = a; r = r; g = g; b = b }
plane_of_item sources start (Clip index) t = sources.clip index (since sources.base start t)
plane_of_item sources start (Comp index) t = sources.comp index (since sources.base start t)

-- the plane of a layer's source at a tick
abbrev pub source_plane : Sources → PlainLayer → ℤ → Plane
source_plane sources layer t = plane_of_item sources layer.start layer.source t

-- ---- effects

-- the plane of the source of a composition's layer, by its index
abbrev pub named_plane : Sources → PlainComp → ℕ → ℤ → Plane
named_plane sources comp index t = option_map_or (λ layer. source_plane sources layer t) (slice_get comp.layers index) nothing

-- the plane of an effect of one of the composition's layers, where its input shows this
abbrev pub fx_plane : Sources → PlainComp → (ℤ → Plane) → PlainFx → ℤ → Plane
fx_plane sources comp input fx t =
    drawn_plane sources.set sources.drawing (use_in fx) (moment_at sources.base (tick_of sources.base comp.frame) t)
    (λ (want : Want). input_plane want.input input (named_plane sources comp) fx.layers want.tick.0)

-- the plane of a layer behind some of its effects, the first of which is drawn from the layer's source, and each other from the one
-- before it
abbrev pub plane_behind : Sources → PlainComp → PlainLayer → List PlainFx → ℤ → Plane
plane_behind sources comp layer effects = fold (fx_plane sources comp) (source_plane sources layer) effects

-- the plane of a layer behind all of its effects
abbrev pub layer_plane : Sources → PlainComp → PlainLayer → ℤ → Plane
layer_plane sources comp layer = plane_behind sources comp layer layer.effects

-- ---- layers

-- the tick at which a composition ends
abbrev pub end_of_comp : ℕ → PlainComp → ℤ
end_of_comp base comp = pos comp.frames *ℤ tick_of base comp.frame

-- the tick at which a layer ends: its own, or the composition's where it has none
abbrev pub end_of_layer : ℕ → PlainComp → Option Time → ℤ
end_of_layer base comp None = end_of_comp base comp
end_of_layer base comp (Some out) = tick_of base out

-- a layer is seen from its beginning on, and before its end
abbrev pub is_seen : ℕ → PlainComp → ℤ → PlainLayer → Bool
is_seen base comp t layer = int_le (tick_of base layer.in_point) t && int_lt t (end_of_layer base comp layer.out_point)

-- a layer's plane where its streams put it at a tick
abbrev pub plane_in : Sources → PlainComp → ℤ → PlainLayer → PlacedPlane
plane_in sources comp t layer = record {
  plane = layer_plane sources comp layer t;
  x = value_at sources.base layer.x t;
  y = value_at sources.base layer.y t;
  opacity = unsigned_abs (value_at sources.base layer.opacity t);
}

-- the plane of a layer that is seen
abbrev pub seen_plane : Sources → PlainComp → ℤ → Option PlainLayer → Option PlacedPlane
seen_plane sources comp t None = None
seen_plane sources comp t (Some layer) = if is_seen sources.base comp t layer then Some (plane_in sources comp t layer) else None

-- what the matte of the layer of this index is taken from: the layer above, where it is seen
abbrev pub matte_plane : Sources → PlainComp → ℤ → ℕ → PlainLayer → Option PlacedPlane
matte_plane sources comp t index layer =
    if has_matte layer then seen_plane sources comp t (layer_above comp index) else None

-- The layer of this index as the stack sees it at a tick. Where what is written names no mode or no matte, which no rule
-- accepts, it is Normal, and has none.
abbrev pub placed_of : Sources → PlainComp → ℤ → ℕ → PlainLayer → PlacedLayer
placed_of sources comp t index layer = record {
  layer = plane_in sources comp t layer;
  mode = unwrap_or layer.mode Normal;
  matte = unwrap_or layer.matte matte.None;
  over = matte_plane sources comp t index layer;
}

-- the layer of this index is the matte of the one below it
abbrev pub serves_as_matte : PlainComp → ℕ → Bool
serves_as_matte comp index = option_map_or has_matte (slice_get comp.layers (index + 1)) false

-- the layers from this index on that are shown at a tick: those that are seen, but for mattes
abbrev pub placed_layers : Sources → PlainComp → ℤ → ℕ → List PlainLayer → List PlacedLayer
placed_layers sources comp t index [] = []
placed_layers sources comp t index (layer ∷ lower) =
    if is_seen sources.base comp t layer && not (serves_as_matte comp index)
    then placed_of sources comp t index layer ∷ placed_layers sources comp t (index + 1) lower
    else placed_layers sources comp t (index + 1) lower

-- ---- compositions

-- A composition at a tick: the stack of the layers that are shown, within the frame and the composition's time, and
-- transparent elsewhere. `most` is the greatest value of a channel.
abbrev pub comp_shown : ℕ → Sources → Option PlainComp → ℤ → ℤ → ℤ → Argb
comp_shown most sources None t x y = clear
comp_shown most sources (Some comp) t x y =
    if int_le (pos 0) t && int_lt t (end_of_comp sources.base comp) && has (frame_rect comp.width comp.height) x y
    then stack_at most (placed_layers sources comp t 0 comp.layers) x y
    else clear

-- what the compositions of a scene show, where those that they nest show this
abbrev pub shown_from : PlainScene → Showing → Showing
shown_from scene showing index t x y =
    comp_shown (most_in scene) (sources_of scene showing) (slice_get scene.project.comps index) t x y

-- What the composition of an index shows, in so many turns: each nested composition takes one. Where they are as many as
-- it takes, more of them change nothing.
abbrev pub shown_in : ℕ → PlainScene → Showing
shown_in zero scene index t x y = clear
shown_in (suc turns) scene index t x y = shown_from scene (shown_in turns scene) index t x y

-- no composition takes more turns than there are compositions
abbrev pub shown : PlainScene → Showing
shown scene = shown_in (length scene.project.comps) scene

-- ---- nodes

-- the plane of the source of a layer of a composition
abbrev pub source_node : Sources → Option PlainComp → ℕ → ℤ → Plane
source_node sources None layer t = nothing
source_node sources (Some comp) layer t = named_plane sources comp layer t

-- the plane of a layer behind its effect of this index
abbrev pub effect_node : Sources → PlainComp → Option PlainLayer → ℕ → ℤ → Plane
effect_node sources comp None index t = nothing
effect_node sources comp (Some layer) index t =
    if nat_lt index (length layer.effects) then plane_behind sources comp layer (take (suc index) layer.effects) t else nothing

-- the same, of a layer of a composition
abbrev pub fx_node : Sources → Option PlainComp → ℕ → ℕ → ℤ → Plane
fx_node sources None layer index t = nothing
fx_node sources (Some comp) layer index t = effect_node sources comp (slice_get comp.layers layer) index t

-- The plane of a node at a tick: of a layer's source, of an effect, or of what a composition shows.
abbrev pub plane : PlainScene → NodeId → ℤ → Plane
plane scene (Source comp layer) t = source_node (sources_of scene (shown scene)) (slice_get scene.project.comps comp) layer t
plane scene (Fx comp layer index) t = fx_node (sources_of scene (shown scene)) (slice_get scene.project.comps comp) layer index t
plane scene (Stack comp) t = comp_plane (shown scene) comp (slice_get scene.project.comps comp) t

-- ---- laws

-- The meaning is a fixed point: a composition shows its layers, whose nested compositions show what they show.
abbrev pub ShownIsOfWhatIsShown : Type 0
ShownIsOfWhatIsShown =
    (scene : PlainScene) (index : ℕ) (t x y : ℤ)
    → IsAcyclic scene.project
    → shown scene index t x y ≡ shown_from scene (shown scene) index t x y

-- turns beyond as many as there are compositions change nothing
abbrev pub MoreTurnsChangeNothing : Type 0
MoreTurnsChangeNothing =
    (scene : PlainScene) (index more : ℕ) (t x y : ℤ)
    → IsAcyclic scene.project
    → shown_in (length scene.project.comps + more) scene index t x y ≡ shown scene index t x y
