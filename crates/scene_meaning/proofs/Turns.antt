-- What compositions show depends only on what those that they nest show, and settles.
use Rattle.std.proofs.Common.{◌≡◌, ℕ, zero, suc, ◌+◌, ◌≤◌, ℤ, pos, List, [], ◌∷◌, length, refl, ap, subst, ◌∙◌, arith}
use Rattle.std.specs.Prelude.{Option, Some, None, slice_get, Bool, not, ◌&&◌, int_le, int_lt, if◌then◌else◌, unwrap_or}
use Rattle.std.proofs.lemmas.Option.{slice_get_within}
use Rattle.std.specs.List.{fold}
use Rattle.std.specs.Option.{option_map_or}
use Rattle.geom_rect.specs.Rect.{has, frame_rect}
use Rattle.argb_pixel.specs.Pixel.{Argb, clear}
use Rattle.transfer_mode.specs.declared.mode.Mode.TheVariants.{Normal}
use Rattle.track_matte.specs.declared.matte.Matte.TheVariants as matte
use Rattle.comp_stack.specs.Stack.{Plane, PlacedPlane, PlacedLayer, stack_at}
use Rattle.project_model.specs.Nesting.{layers_in}
use Rattle.project_model.proofs.Nesting.{AgreeFor, AgreeOver, agree_at, IsStep, AreTurns, turns_fixed, more_turns}
use Rattle.project_model.specs.Rules.{has_matte, layer_above}
use Rattle.project_model.specs.declared.item.Item.{Item}
use Rattle.project_model.specs.declared.item.Item.TheVariants.{Solid, Clip, Comp}
use Rattle.project_model.specs.declared.plain.PlainFx.{PlainFx}
use Rattle.project_model.specs.declared.plain.PlainLayer.{PlainLayer}
use Rattle.project_model.specs.declared.plain.PlainComp.{PlainComp}
use Rattle.project_model.specs.declared.plain.PlainProject.{PlainProject}
use Rattle.rational_time.specs.declared.time.Time.{Time}
use Rattle.rational_time.specs.Times.{tick_of}
use Rattle.effect_api.specs.declared.moment.Want.{Want}
use Rattle.scene_meaning.specs.Drawn.{nothing, use_in, moment_at, input_plane, drawn_plane}
use Rattle.scene_meaning.specs.Shown.{PlainScene, Showing, base_in, most_in, sources_of, comp_plane, plane_of_item, since, source_plane, named_plane, fx_plane, plane_in, seen_plane, matte_plane, placed_of, placed_layers, is_seen, serves_as_matte, comp_shown, shown_from, shown_in, end_of_comp, ShownIsOfWhatIsShown, MoreTurnsChangeNothing}

-- what one composition shows
abbrev pub Shows : Type 0
Shows = ℤ → ℤ → ℤ → Argb

nested_same : (f g : Showing) (index : ℕ) (comp : Option PlainComp) (t : ℤ) → f index ≡ g index → comp_plane f index comp t ≡ comp_plane g index comp t
nested_same f g index None t e = refl
nested_same f g index (Some comp) t e =
    ap (λ (s : Shows). let p : Plane = record { extent = frame_rect comp.width comp.height; at = s t } in p) e

item_same : (scene : PlainScene) (f g : Showing) (start : Time) (item : Item) (t : ℤ) → AgreeFor f g item → plane_of_item (sources_of scene f) start item t ≡ plane_of_item (sources_of scene g) start item t
item_same scene f g start (Solid width height a r g' b) t e = refl
item_same scene f g start (Clip index) t e = refl
item_same scene f g start (Comp index) t e = nested_same f g index (slice_get scene.project.comps index) (since (base_in scene.project) start t) e

-- so does each layer's source, at each tick
source_same : (scene : PlainScene) (f g : Showing) (layer : PlainLayer) → AgreeFor f g layer.source → source_plane (sources_of scene f) layer ≡ source_plane (sources_of scene g) layer
source_same scene f g layer e = λ i t. item_same scene f g layer.start layer.source t e i

-- the sources of the layers that effects name
named_same : (scene : PlainScene) (f g : Showing) (comp : PlainComp) (index : ℕ) (t : ℤ) → AgreeOver f g comp.layers → named_plane (sources_of scene f) comp index t ≡ named_plane (sources_of scene g) comp index t
named_same scene f g comp index t all = by (slice_get comp.layers index) refl
  where
    by : (o : Option PlainLayer) → slice_get comp.layers index ≡ o
        → option_map_or (λ layer. source_plane (sources_of scene f) layer t) o nothing ≡ option_map_or (λ layer. source_plane (sources_of scene g) layer t) o nothing
    by None e = refl
    by (Some layer) e = ap (λ (p : ℤ → Plane). p t) (source_same scene f g layer (agree_at f g comp.layers index layer all e))

-- what an effect wants
wanted_same : (scene : PlainScene) (f g : Showing) (comp : PlainComp) (input other : ℤ → Plane) (layers : List ℕ) (index : ℕ) (t : ℤ) → AgreeOver f g comp.layers → input ≡ other
    → input_plane index input (named_plane (sources_of scene f) comp) layers t ≡ input_plane index other (named_plane (sources_of scene g) comp) layers t
wanted_same scene f g comp input other layers zero t all e = ap (λ (p : ℤ → Plane). p t) e
wanted_same scene f g comp input other layers (suc index) t all e = by (slice_get layers index)
  where
    by : (o : Option ℕ) → option_map_or (λ layer. named_plane (sources_of scene f) comp layer t) o nothing ≡ option_map_or (λ layer. named_plane (sources_of scene g) comp layer t) o nothing
    by None = refl
    by (Some layer) = named_same scene f g comp layer t all

-- and what it draws
fx_same : (scene : PlainScene) (f g : Showing) (comp : PlainComp) (input other : ℤ → Plane) (fx : PlainFx) (t : ℤ) → AgreeOver f g comp.layers → input ≡ other
    → fx_plane (sources_of scene f) comp input fx t ≡ fx_plane (sources_of scene g) comp other fx t
fx_same scene f g comp input other fx t all e =
    ap (λ (wanted : Want → Plane). drawn_plane scene.set scene.drawing (use_in fx) (moment_at (base_in scene.project) (tick_of (base_in scene.project) comp.frame) t) wanted)
    (λ i want. wanted_same scene f g comp input other fx.layers want.input want.tick.0 all e i)

behind_same : (scene : PlainScene) (f g : Showing) (comp : PlainComp) (input other : ℤ → Plane) (effects : List PlainFx) → AgreeOver f g comp.layers → input ≡ other
    → fold (fx_plane (sources_of scene f) comp) input effects ≡ fold (fx_plane (sources_of scene g) comp) other effects
behind_same scene f g comp input other [] all e = e
behind_same scene f g comp input other (fx ∷ effects) all e =
    behind_same scene f g comp (fx_plane (sources_of scene f) comp input fx) (fx_plane (sources_of scene g) comp other fx) effects all
    (λ i t. fx_same scene f g comp input other fx t all e i)

layer_same : (scene : PlainScene) (f g : Showing) (comp : PlainComp) (layer : PlainLayer) (t : ℤ) → AgreeOver f g comp.layers → AgreeFor f g layer.source → plane_in (sources_of scene f) comp t layer ≡ plane_in (sources_of scene g) comp t layer
layer_same scene f g comp layer t all e =
    let p : PlacedPlane = plane_in (sources_of scene f) comp t layer in
    ap (λ (behind : ℤ → Plane). let q : PlacedPlane = record { plane = behind t; x = p.x; y = p.y; opacity = p.opacity } in q)
    (behind_same scene f g comp (source_plane (sources_of scene f) layer) (source_plane (sources_of scene g) layer) layer.effects all (source_same scene f g layer e))

seen_same : (scene : PlainScene) (f g : Showing) (comp : PlainComp) (t : ℤ) (layer : Option PlainLayer) → AgreeOver f g comp.layers → ((l : PlainLayer) → layer ≡ Some l → AgreeFor f g l.source)
    → seen_plane (sources_of scene f) comp t layer ≡ seen_plane (sources_of scene g) comp t layer
seen_same scene f g comp t None all e = refl
seen_same scene f g comp t (Some layer) all e =
    ap (λ (p : PlacedPlane). if is_seen (base_in scene.project) comp t layer then Some p else None) (layer_same scene f g comp layer t all (e layer refl))

above_agrees : (f g : Showing) (comp : PlainComp) (index : ℕ) → AgreeOver f g comp.layers → (l : PlainLayer) → layer_above comp index ≡ Some l → AgreeFor f g l.source
above_agrees f g comp zero all l e = let wrong : ⊥ = cc in absurd wrong
above_agrees f g comp (suc above) all l e = agree_at f g comp.layers above l all e

placed_same : (scene : PlainScene) (f g : Showing) (comp : PlainComp) (t : ℤ) (index : ℕ) (layer : PlainLayer) → AgreeOver f g comp.layers → AgreeFor f g layer.source
    → placed_of (sources_of scene f) comp t index layer ≡ placed_of (sources_of scene g) comp t index layer
placed_same scene f g comp t index layer all e =
    ap (λ (p : PlacedPlane). let q : PlacedLayer = record { layer = p; mode = unwrap_or layer.mode Normal; matte = unwrap_or layer.matte matte.None; over = matte_plane (sources_of scene f) comp t index layer } in q)
    (layer_same scene f g comp layer t all e)
    ∙ ap (λ (o : Option PlacedPlane). let q : PlacedLayer = record { layer = plane_in (sources_of scene g) comp t layer; mode = unwrap_or layer.mode Normal; matte = unwrap_or layer.matte matte.None; over = if has_matte layer then o else None } in q)
    (seen_same scene f g comp t (layer_above comp index) all (above_agrees f g comp index all))

layers_same : (scene : PlainScene) (f g : Showing) (comp : PlainComp) (t : ℤ) (index : ℕ) (layers : List PlainLayer) → AgreeOver f g comp.layers → AgreeOver f g layers
    → placed_layers (sources_of scene f) comp t index layers ≡ placed_layers (sources_of scene g) comp t index layers
layers_same scene f g comp t index [] all e = refl
layers_same scene f g comp t index (layer ∷ lower) all e =
    let shown : Bool = is_seen (base_in scene.project) comp t layer && not (serves_as_matte comp index) in
    let rest : List PlacedLayer = placed_layers (sources_of scene f) comp t (index + 1) lower in
    ap (λ (p : PlacedLayer). if shown then p ∷ rest else rest) (placed_same scene f g comp t index layer all e.0)
    ∙ ap (λ (ps : List PlacedLayer). if shown then placed_of (sources_of scene g) comp t index layer ∷ ps else ps) (layers_same scene f g comp t (index + 1) lower all e.1)

comp_same : (scene : PlainScene) (f g : Showing) (comp : Option PlainComp) (t x y : ℤ) → ((c : PlainComp) → comp ≡ Some c → AgreeOver f g c.layers)
    → comp_shown (most_in scene) (sources_of scene f) comp t x y ≡ comp_shown (most_in scene) (sources_of scene g) comp t x y
comp_same scene f g None t x y e = refl
comp_same scene f g (Some comp) t x y e =
    ap (λ (ps : List PlacedLayer). if int_le (pos 0) t && int_lt t (end_of_comp (base_in scene.project) comp) && has (frame_rect comp.width comp.height) x y then stack_at (most_in scene) ps x y else clear)
    (layers_same scene f g comp t 0 comp.layers (e comp refl) (e comp refl))

abbrev layers_of : Option PlainComp → List PlainLayer
layers_of o = option_map_or (λ (comp : PlainComp). comp.layers) o []

agree_in : (f g : Showing) (project : PlainProject) (index : ℕ) (c : PlainComp) → AgreeOver f g (layers_in project index) → slice_get project.comps index ≡ Some c → AgreeOver f g c.layers
agree_in f g project index c all found = by (slice_get project.comps index) found all
  where
    by : (o : Option PlainComp) → o ≡ Some c → AgreeOver f g (layers_of o) → AgreeOver f g c.layers
    by None e h = let wrong : ⊥ = cc in absurd wrong
    by (Some d) e h = let same : d ≡ c = cc in subst (λ (d : PlainComp). AgreeOver f g d.layers) same h

none_there : (scene : PlainScene) (f : Showing) (index : ℕ) (o : Option PlainComp) (t x y : ℤ) → slice_get scene.project.comps index ≡ o → length scene.project.comps ≤ index
    → comp_shown (most_in scene) (sources_of scene f) o t x y ≡ clear
none_there scene f index None t x y e out = refl
none_there scene f index (Some comp) t x y e out = let within = slice_get_within scene.project.comps index comp e in absurd (omega (arith, within, out))

-- what a composition shows is of what those in its layers show
pub step_is : (scene : PlainScene) → IsStep {A = Shows} scene.project (λ t x y. clear) (λ f index t x y. shown_from scene f index t x y)
step_is scene = record {
  local = λ f g index all i t x y.
      comp_same scene f g (slice_get scene.project.comps index) t x y (λ c found. agree_in f g scene.project index c all found) i;
  absent = λ f index out i t x y. none_there scene f index (slice_get scene.project.comps index) t x y refl out i;
}

pub turns_are : (scene : PlainScene) → AreTurns {A = Shows} (λ t x y. clear) (λ f index t x y. shown_from scene f index t x y) (λ n. shown_in n scene)
turns_are scene = record { first = λ index. refl; next = λ n index. refl }

pub shown_fixed : ShownIsOfWhatIsShown
shown_fixed scene index t x y acyclic =
    ap (λ (f : Shows). f t x y)
    (turns_fixed {A = Shows} scene.project (λ t x y. clear) (λ f index t x y. shown_from scene f index t x y) (λ n. shown_in n scene) (step_is scene) (turns_are scene) acyclic index)

pub more_nothing : MoreTurnsChangeNothing
more_nothing scene index more t x y acyclic =
    ap (λ (f : Shows). f t x y)
    (more_turns {A = Shows} scene.project (λ t x y. clear) (λ f index t x y. shown_from scene f index t x y) (λ n. shown_in n scene) (step_is scene) (turns_are scene) acyclic more index)
