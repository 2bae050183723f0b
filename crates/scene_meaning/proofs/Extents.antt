-- How far planes reach.
use Rattle.std.proofs.Common.{◌≡◌, ℕ, zero, suc, ◌+◌, ◌<◌, ℤ, List, [], ◌∷◌, ◌++◌, length, map, refl, sym, ap, subst, ◌∙◌, arith}
use Rattle.std.specs.Prelude.{slice_get, slice_index_or, option_map, take, Option, Some, Result, Ok, Err, IfOk}
use Rattle.std.specs.List.{All, AllZip}
use Rattle.std.specs.Option.{option_map_or}
use Rattle.std.proofs.lemmas.List.{length-map}
use Rattle.std.proofs.lemmas.List.Elements.{All-nil, All-cons}
use Rattle.std.proofs.lemmas.Option.{slice_get-map, get_or_from_slice_get}
use Rattle.geom_rect.specs.declared.rect.Rect.{Rect}
use Rattle.comp_stack.specs.Stack.{Plane}
use Rattle.project_model.specs.Plain.{plain_comp, plain_fx, plain_layer, plain_of}
use Rattle.project_model.specs.Effects.{use_of}
use Rattle.project_model.specs.declared.comp.Comp.{Comp}
use Rattle.project_model.specs.declared.effect.FxUse.{FxUse}
use Rattle.project_model.specs.declared.layer.Layer.{Layer}
use Rattle.project_model.specs.declared.node.NodeId.TheVariants.{Source, Fx}
use Rattle.project_model.specs.declared.plain.PlainComp.{PlainComp}
use Rattle.project_model.specs.declared.plain.PlainLayer.{PlainLayer}
use Rattle.project_model.specs.declared.project.Project.{Project}
use Rattle.effect_api.specs.declared.moment.Moment.{Moment}
use Rattle.effect_api.specs.declared.moment.Want.{Want}
use Rattle.effect_api.specs.Fits.{IsGiven}
use Rattle.effect_api.specs.Planes.{extents_of}
use Rattle.effect_api.specs.Render.{AreExtents}
use Rattle.effect_api.specs.Sets.{EffectSet, Drawing, IsLawfulSet}
use Rattle.scene_meaning.specs.Boxes.{IsBoxed}
use Rattle.scene_meaning.specs.Extents.{IsExtent, IsExtentBehind, IsSourceExtent, IsWantedExtent}
use Rattle.scene_meaning.specs.Nodes.{effects_in}
use Rattle.scene_meaning.specs.Parts.{drawn_from, wanted_by}
use Rattle.scene_meaning.specs.Scene.{SceneParts, plain_scene}
use Rattle.rational_time.specs.Times.{tick_of}
use Rattle.scene_meaning.specs.Drawn.{input_plane, moment_at}
use Rattle.scene_meaning.specs.Shown.{PlainScene, base_in, named_plane, plane_behind}
use Rattle.scene_meaning.proofs.Uses.{named_wanted}
use Rattle.scene_meaning.proofs.Boxes.{boxed_more, bounds_boxed}
use Rattle.scene_meaning.proofs.Inside.{comp_here}
use Rattle.scene_meaning.proofs.Nodes.{named_is, layer_named, behind_is, behind_more}

-- ---- nodes

-- a layer in plain parts
pub layer_here : (comp : Comp) (index : ℕ) (layer : Layer) → slice_get comp.layers index ≡ Some layer → slice_get (plain_comp comp).layers index ≡ Some (plain_layer layer)
layer_here comp index layer here = slice_get-map plain_layer comp.layers index ∙ ap (option_map plain_layer) here

-- the source of a layer
pub source_is : (set : EffectSet) (scene : SceneParts) (of index : ℕ) (comp : Comp) (layer : Layer) (t : ℤ) (rect : Rect) → slice_get scene.project.comps of ≡ Some comp → slice_get comp.layers index ≡ Some layer
    → IsSourceExtent set scene (plain_layer layer) t rect → IsExtent set scene (Source of index) t rect
source_is set scene of index comp layer t rect here there is = λ drawing.
    let s : PlainScene = plain_scene scene set drawing in
    is drawing
    ∙ ap (λ (p : Plane). p.extent)
    (sym (named_is s of index (plain_comp comp) t (comp_here scene.project of comp here) ∙ layer_named s index (plain_comp comp) (plain_layer layer) t (layer_here comp index layer there)))

-- an effect of a layer
pub fx_within : (project : Project) (of index number : ℕ) (comp : Comp) (layer : Layer) → slice_get project.comps of ≡ Some comp → slice_get comp.layers index ≡ Some layer
    → number < length (effects_in (plain_of project) of index) → number < length layer.effects
fx_within project of index number comp layer here there within =
    let one : effects_in (plain_of project) of index ≡ map plain_fx layer.effects =
    ap (λ (o : Option PlainComp). option_map_or (λ (l : PlainLayer). l.effects) (slice_get (option_map_or (λ (c : PlainComp). c.layers) o []) index) []) (comp_here project of comp here)
    ∙ ap (λ (o : Option PlainLayer). option_map_or (λ (l : PlainLayer). l.effects) o []) (layer_here comp index layer there) in
    omega (arith, within, ap length one, length-map layer.effects plain_fx)

pub fx_is : {E : Type 0} (set : EffectSet) (scene : SceneParts) (of index number : ℕ) (comp : Comp) (layer : Layer) (t : ℤ) (made : Result Rect E) → slice_get scene.project.comps of ≡ Some comp → slice_get comp.layers index ≡ Some layer
    → number < length layer.effects → IfOk made (IsExtentBehind set scene (plain_comp comp) (plain_layer layer) (number + 1) t) → IfOk made (IsExtent set scene (Fx of index number) t)
fx_is set scene of index number comp layer t (Ok rect) here there within is = λ drawing.
    let s : PlainScene = plain_scene scene set drawing in
    let one : number + 1 ≡ suc number = omega arith in
    is.extent drawing
    ∙ ap (λ (n : ℕ). (plane_behind (drawn_from s) (plain_comp comp) (plain_layer layer) (take n (plain_layer layer).effects) t).extent) one
    ∙ ap (λ (p : Plane). p.extent)
    (sym (behind_is s of index (suc number) (plain_comp comp) (plain_layer layer) t (comp_here scene.project of comp here) (layer_here comp index layer there) (omega (arith, within, length-map layer.effects plain_fx))))
fx_is set scene of index number comp layer t (Err e) here there within is = tt

-- ---- lists of extents

module _ {A B : Type 0} (P : A → B → Type 0) where
  pub zip_push : (xs : List A) (ys : List B) (k : ℕ) (y : B) → AllZip P (take k xs) ys → k < length xs → ((x : A) → slice_get xs k ≡ Some x → P x y) → AllZip P (take (suc k) xs) (ys ++ y ∷ [])
  zip_push [] ys k y zip within is = absurd (omega (arith, within))
  zip_push (x ∷ xs) [] zero y zip within is = (is x refl, tt)
  zip_push (x ∷ xs) (z ∷ ys) zero y zip within is = absurd zip
  zip_push (x ∷ xs) [] (suc k) y zip within is = absurd zip
  zip_push (x ∷ xs) (z ∷ ys) (suc k) y zip within is = (zip.0, zip_push xs ys k y zip.1 (omega (arith, within)) is)

-- what holds of the item of this place
pub at_place : {A B : Type 0} (P : A → B → Type 0) (xs : List A) (i : ℕ) (d : A) (y : B) → P (slice_index_or xs i d) y → (x : A) → slice_get xs i ≡ Some x → P x y
at_place P xs i d y is x found = subst (λ a. P a y) (get_or_from_slice_get xs i x d found) is

-- the extents of what is wanted
module _ (set : EffectSet) (scene : SceneParts) (comp : PlainComp) (layer : PlainLayer) (number : ℕ) (layers : List ℕ) where
  abbrev Wanted : Want → Rect → Type 0
  Wanted = IsWantedExtent set scene comp layer number layers

  pub wanted_count : (wants : List Want) (extents : List Rect) → AllZip Wanted wants extents → length extents ≡ length wants
  wanted_count [] [] zip = refl
  wanted_count [] (r ∷ rs) zip = absurd zip
  wanted_count (w ∷ ws) [] zip = absurd zip
  wanted_count (w ∷ ws) (r ∷ rs) zip = ap suc (wanted_count ws rs zip.1)

  pub wanted_boxed : (wants : List Want) (extents : List Rect) → AllZip Wanted wants extents → All (IsBoxed number) extents
  wanted_boxed [] [] zip = All-nil (IsBoxed number)
  wanted_boxed [] (r ∷ rs) zip = absurd zip
  wanted_boxed (w ∷ ws) [] zip = absurd zip
  wanted_boxed (w ∷ ws) (r ∷ rs) zip = All-cons (IsBoxed number) r rs zip.0.boxed (wanted_boxed ws rs zip.1)

  pub wanted_same : (wants : List Want) (extents : List Rect) (drawing : Drawing) → AllZip Wanted wants extents → extents ≡ extents_of (map (wanted_by (drawn_from (plain_scene scene set drawing)) comp layer number layers) wants)
  wanted_same [] [] drawing zip = refl
  wanted_same [] (r ∷ rs) drawing zip = absurd zip
  wanted_same (w ∷ ws) [] drawing zip = absurd zip
  wanted_same (w ∷ ws) (r ∷ rs) drawing zip =
      ap (λ (x : Rect). x ∷ rs) (zip.0.extent drawing) ∙ ap (λ xs. (wanted_by (drawn_from (plain_scene scene set drawing)) comp layer number layers w).extent ∷ xs) (wanted_same ws rs drawing zip.1)

  -- as an effect may be given them
  pub are_extents : (wants listed : List Want) (extents : List Rect) → wants ≡ listed → AllZip Wanted wants extents → AreExtents listed extents
  are_extents wants listed extents same zip = record {
    one_each = wanted_count wants extents zip ∙ ap length same;
    near = λ i r within. (wanted_boxed wants extents zip i r within).near;
  }

-- ---- effects

-- the bounds of an effect are how far its plane reaches
pub effect_is : {E : Type 0} (set : EffectSet) (scene : SceneParts) (comp : Comp) (layer : Layer) (number : ℕ) (fx : FxUse) (t : ℤ) (at : Moment) (wants : List Want) (extents : List Rect) (made : Result Rect E)
    → IsLawfulSet set → IsGiven set.schemas (use_of fx) at → number < 8 → slice_get layer.effects number ≡ Some fx
    → at ≡ moment_at (base_in (plain_of scene.project)) (tick_of (base_in (plain_of scene.project)) comp.frame) t
    → wants ≡ set.wants (use_of fx) at → AllZip (IsWantedExtent set scene (plain_comp comp) (plain_layer layer) number fx.layers) wants extents
    → IfOk made (λ rect. rect ≡ set.bounds (use_of fx) at extents) → IfOk made (IsExtentBehind set scene (plain_comp comp) (plain_layer layer) (number + 1) t)
effect_is set scene comp layer number fx t at wants extents (Err e) lawful given few found moment listed zip is = tt
effect_is set scene comp layer number fx t at wants extents (Ok rect) lawful given few found moment listed zip is = record {
  extent = λ drawing.
      let s : PlainScene = plain_scene scene set drawing in
      let one : suc number ≡ number + 1 = omega arith in
      let wanted : Want → Plane = wanted_by (drawn_from s) (plain_comp comp) (plain_layer layer) number fx.layers in
      is
      ∙ ap (set.bounds (use_of fx) at) (wanted_same set scene (plain_comp comp) (plain_layer layer) number fx.layers wants extents drawing zip ∙ ap (λ ws. extents_of (map wanted ws)) listed)
      ∙ ap (λ (m : Moment). set.bounds (use_of fx) m (extents_of (map wanted (set.wants (use_of fx) m)))) moment
      ∙ ap (λ (p : ℤ → Plane). (p t).extent)
      (sym (behind_more (drawn_from s) (plain_comp comp) (plain_layer layer) (plain_layer layer).effects number (plain_fx fx) (slice_get-map plain_fx layer.effects number ∙ ap (option_map plain_fx) found)))
      ∙ ap (λ (n : ℕ). (plane_behind (drawn_from s) (plain_comp comp) (plain_layer layer) (take n (plain_layer layer).effects) t).extent) one;
  boxed = subst (IsBoxed (number + 1)) (sym is)
      (bounds_boxed number extents (set.bounds (use_of fx) at extents) (omega (arith, few)) (wanted_boxed set scene (plain_comp comp) (plain_layer layer) number fx.layers wants extents zip)
      (lawful.bounds_are (use_of fx) at extents given (wanted_count set scene (plain_comp comp) (plain_layer layer) number fx.layers wants extents zip ∙ ap length listed)));
}

-- behind no effect
pub source_behind : (set : EffectSet) (scene : SceneParts) (comp : PlainComp) (layer : PlainLayer) (count : ℕ) (t : ℤ) (rect : Rect) → count ≡ 0 → IsSourceExtent set scene layer t rect → IsBoxed 0 rect → IsExtentBehind set scene comp layer count t rect
source_behind set scene comp layer count t rect none extent boxed = subst (λ (n : ℕ). IsExtentBehind set scene comp layer n t rect) (sym none) (record { extent = extent; boxed = boxed })

-- what an effect wants of its input
pub input_is : {E : Type 0} (set : EffectSet) (scene : SceneParts) (comp : PlainComp) (layer : PlainLayer) (number : ℕ) (layers : List ℕ) (want : Want) (made : Result Rect E) → want.input ≡ 0
    → IfOk made (IsExtentBehind set scene comp layer number want.tick.0) → IfOk made (IsWantedExtent set scene comp layer number layers want)
input_is set scene comp layer number layers want (Err e) none is = tt
input_is set scene comp layer number layers want (Ok rect) none is = record {
  extent = λ drawing.
      let s : PlainScene = plain_scene scene set drawing in
      is.extent drawing
      ∙ ap (λ (n : ℕ). (input_plane n (plane_behind (drawn_from s) comp layer (take number layer.effects)) (named_plane (drawn_from s) comp) layers want.tick.0).extent) (sym none);
  boxed = is.boxed;
}

-- and of a layer that it names
pub named_extent : (set : EffectSet) (scene : SceneParts) (comp : PlainComp) (layer other : PlainLayer) (number i index : ℕ) (layers : List ℕ) (want : Want) (rect : Rect) → want.input ≡ suc i → slice_get layers i ≡ Some index → slice_get comp.layers index ≡ Some other
    → IsSourceExtent set scene other want.tick.0 rect → IsBoxed 0 rect → IsWantedExtent set scene comp layer number layers want rect
named_extent set scene comp layer other number i index layers want rect is found there extent boxed = record {
  extent = λ drawing.
      let s : PlainScene = plain_scene scene set drawing in
      extent drawing
      ∙ ap (λ (p : Plane). p.extent)
      (named_wanted (drawn_from s) comp (plane_behind (drawn_from s) comp layer (take number layer.effects)) layers want.input i index other want.tick.0 is found there);
  boxed = boxed_more 0 number rect (omega arith) boxed;
}
