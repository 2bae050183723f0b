-- What layers show is premultiplied, transparent outside its extent, and not far away.
use Rattle.std.proofs.Common.{◌≡◌, ℕ, zero, suc, ◌+◌, ◌*◌, ◌<◌, ◌≤◌, ℤ, pos, negsuc, ◌<ℤ◌, Bool, true, false, List, [], ◌∷◌, length, map, get_or, inl, inr, refl, sym, ap, subst, ◌∙◌, arith}
use Rattle.std.specs.Prelude.{Option, Some, None, IfSome, slice_get, take, not, ◌&&◌, int_le, int_lt, unsigned_abs, if◌then◌else◌}
use Rattle.std.specs.List.{All, AllByRecursion, AllZip}
use Rattle.std.proofs.lemmas.List.Elements.{All-nil, All-cons, All-head, All-tail}
use Rattle.std.specs.Option.{option_map_or, option_map}
use Rattle.std.specs.Prelude.{nat_eq}
use Rattle.std.proofs.lemmas.Bool.{cases_lt, eqb-true}
use Rattle.std.proofs.lemmas.List.{get_or_past}
use Rattle.std.proofs.lemmas.Int.{ints}
use Rattle.std.proofs.lemmas.List.{length-map}
use Rattle.std.proofs.lemmas.Option.{slice_get-map}
use Rattle.std.proofs.Math.Nat.{mul-le-mul_left}
use Rattle.geom_rect.specs.Rect.{Has, has, frame_rect}
use Rattle.geom_rect.proofs.Points.{Has-from_true}
use Rattle.argb_pixel.specs.Depth.{IsDepth}
use Rattle.argb_pixel.specs.Pixel.{Argb, IsPremultiplied, clear, rounded, depth_of}
use Rattle.argb_pixel.proofs.Channels.{clear_premultiplied}
use Rattle.argb_pixel.proofs.Rounded.{rounded_mono, rounded_whole}
use Rattle.comp_stack.specs.Stack.{Plane, PlacedLayer, solid_plane, stack_at}
use Rattle.comp_stack.specs.Laws.{IsPremultipliedPlane, IsPremultipliedLayer}
use Rattle.comp_stack.proofs.Premultiplied.{stack_fits}
use Rattle.rational_time.specs.Times.{tick_of, frame_at}
use Rattle.param_stream.specs.Curve.{IsBetween, value_at}
use Rattle.param_stream.proofs.Values.{value_within}
use Rattle.rational_time.proofs.Numbers.{scaled_up}
use Rattle.project_model.specs.Bounds.{most_of, full_opacity}
use Rattle.project_model.specs.Rules.{has_matte, layer_above}
use Rattle.project_model.specs.Sound.{IsWritten, IsSoundClip, IsSoundItem, IsSoundLayer, IsSoundComp}
use Rattle.project_model.specs.declared.clip.ClipUse.{ClipUse}
use Rattle.project_model.specs.declared.comp.Comp.{Comp}
use Rattle.project_model.specs.declared.layer.Layer.{Layer}
use Rattle.project_model.specs.declared.project.Project.{Project}
use Rattle.project_model.specs.declared.item.Item.{Item}
use Rattle.project_model.specs.declared.item.Item.TheVariants as item
use Rattle.project_model.specs.declared.plain.PlainComp.{PlainComp}
use Rattle.project_model.specs.declared.plain.PlainFx.{PlainFx}
use Rattle.project_model.specs.declared.plain.PlainLayer.{PlainLayer}
use Rattle.project_model.specs.Effects.{Use, schema_of, use_of}
use Rattle.project_model.specs.Plain.{plain_comp, plain_fx, plain_layer}
use Rattle.project_model.specs.declared.effect.FxUse.{FxUse}
use Rattle.rational_time.specs.declared.time.Time.{Time}
use Rattle.frame_file.specs.Clip.{Pictures, in_depth, pixel_in}
use Rattle.effect_api.specs.declared.moment.Moment.{Moment}
use Rattle.effect_api.specs.declared.moment.Want.{Want}
use Rattle.effect_api.specs.declared.moment.Ask.{Ask}
use Rattle.effect_api.specs.Checked.{AreSums}
use Rattle.effect_api.specs.Effects.{IsInput}
use Rattle.effect_api.specs.Fits.{IsHeld, IsGiven}
use Rattle.effect_api.specs.Wants.{IsWant, IsAsk}
use Rattle.effect_api.specs.Planes.{IsPlane, extents_of}
use Rattle.scene_meaning.specs.Boxes.{IsBoxed}
use Rattle.scene_meaning.specs.Drawn.{nothing, moment_at, input_plane}
use Rattle.scene_meaning.specs.Planes.{IsLawfulScene, IsBoxedPlane, PlanesAreBoxed}
use Rattle.scene_meaning.specs.Scene.{SceneParts, IsClipOf, IsPremultipliedClip, EndsInTime, plain_scene}
use Rattle.effect_api.specs.Sets.{EffectSet, Drawing}
use Rattle.scene_meaning.specs.Shown.{PlainScene, Showing, shown, shown_in, shown_from, comp_shown, end_of_comp, plane_in, seen_plane, matte_plane, placed_of, placed_layers, is_seen, serves_as_matte, base_in, picture_at, picture_plane, clip_plane, comp_plane, sources_of, source_plane, named_plane, fx_plane, plane_behind, plane_of_item, since}
use Rattle.scene_meaning.proofs.Inside.{found_holds}
use Rattle.scene_meaning.proofs.Given.{use_at, given_at, frame_low, frame_high, held_inside}
use Rattle.scene_meaning.proofs.Nodes.{behind_more}
use Rattle.scene_meaning.proofs.Boxes.{frame_boxed, boxed_more, bounds_boxed, boxed_area}

differ : ¬ (true ≡ false)
differ e = cc

-- ---- pixels

-- a pixel in another depth
depth_premultiplied : (from to : ℕ) (p : Argb) → 0 < from → IsPremultiplied from p → IsPremultiplied to (depth_of from to p)
depth_premultiplied from to p some fits = record {
  alpha =
      let most : rounded (p.a * to) from ≤ rounded (to * from) from = rounded_mono (p.a * to) (to * from) from some (omega (arith, mul-le-mul_left to fits.alpha)) in
      omega (arith, most, rounded_whole to from some);
  red = rounded_mono _ _ from some (omega (arith, mul-le-mul_left to fits.red));
  green = rounded_mono _ _ from some (omega (arith, mul-le-mul_left to fits.green));
  blue = rounded_mono _ _ from some (omega (arith, mul-le-mul_left to fits.blue));
}

in_depth_premultiplied : (from to : ℕ) (p : Argb) → 0 < from → IsPremultiplied from p → IsPremultiplied to (in_depth from to p)
in_depth_premultiplied from to p some fits = by (nat_eq from to) refl
  where
    by : (b : Bool) → nat_eq from to ≡ b → IsPremultiplied to (if b then p else depth_of from to p)
    by true e = subst (λ m. IsPremultiplied m p) (eqb-true from to e) fits
    by false e = depth_premultiplied from to p some fits

one_of : (most : ℕ) (pixels : List Argb) (i : ℕ) → All (IsPremultiplied most) pixels → IsPremultiplied most (get_or pixels i clear)
one_of most pixels i all =
    elim (cases_lt i (length pixels)) [
      | inl within ↦ all i clear within
      | inr past ↦ subst (IsPremultiplied most) (sym (get_or_past pixels i clear past)) (clear_premultiplied most)
    ]

-- what is tested shows a pixel or none
tested : (most : ℕ) (b : Bool) (p : Argb) → IsPremultiplied most p → IsPremultiplied most (if b then p else clear)
tested most true p is = is
tested most false p is = clear_premultiplied most

-- ---- sources

framed : (most width height : ℕ) (at : ℤ → ℤ → Argb) → ((x y : ℤ) → IsPremultiplied most (at x y)) → ((x y : ℤ) → has (frame_rect width height) x y ≡ false → at x y ≡ clear) → width ≤ 4096 → height ≤ 4096
    → IsBoxedPlane most 0 (record { extent = frame_rect width height; at = at })
framed most width height at pixels outside wide high = record {
  is = record {
    pixels = pixels;
    outside = λ x y none. by x y none (has (frame_rect width height) x y) refl;
  };
  boxed = frame_boxed width height wide high;
}
  where
    by : (x y : ℤ) → ¬ Has (frame_rect width height) x y → (b : Bool) → has (frame_rect width height) x y ≡ b → at x y ≡ clear
    by x y none true e = absurd (none (Has-from_true (frame_rect width height) x y e))
    by x y none false e = outside x y e

nothing_boxed : (most : ℕ) → IsBoxedPlane most 0 nothing
nothing_boxed most = framed most 0 0 (λ x y. clear) (λ x y. clear_premultiplied most) (λ x y e. refl) (omega arith) (omega arith)

solid_boxed : (most width height : ℕ) (colour : Argb) → IsPremultiplied most colour → width ≤ 4096 → height ≤ 4096 → IsBoxedPlane most 0 (solid_plane width height colour)
solid_boxed most width height colour is wide high =
    framed most width height (solid_plane width height colour).at (λ x y. tested most (has (frame_rect width height) x y) colour is)
    (λ x y e. ap (λ (b : Bool). if b then colour else clear) e) wide high

last_false : (a b c : Bool) → c ≡ false → (a && b && c) ≡ false
last_false true true c e = e
last_false true false c e = refl
last_false false b c e = refl

picture_boxed : (most : ℕ) (clip : Pictures) (picture : ℤ) → 0 < most_of clip.depth → IsPremultipliedClip clip → clip.width ≤ 4096 → clip.height ≤ 4096
    → IsBoxedPlane most 0 (record { extent = frame_rect clip.width clip.height; at = picture_at most clip picture })
picture_boxed most clip picture some pixels wide high =
    framed most clip.width clip.height (picture_at most clip picture)
    (λ x y. tested most _ (pixel_in most clip (unsigned_abs picture) (unsigned_abs x) (unsigned_abs y)) (in_depth_premultiplied (most_of clip.depth) most _ some (one_of (most_of clip.depth) clip.pixels _ pixels)))
    (λ x y e. ap (λ (b : Bool). if b then pixel_in most clip (unsigned_abs picture) (unsigned_abs x) (unsigned_abs y) else clear)
    (last_false (int_le (pos 0) picture) (int_lt picture (pos clip.frames)) (has (frame_rect clip.width clip.height) x y) e))
    wide high

some_depth : (depth : ℕ) → 0 < most_of depth
some_depth depth = by (nat_eq depth 8)
  where
    by : (b : Bool) → 0 < (if b then 255 else 32768)
    by true = omega arith
    by false = omega arith

depth_is : (depth : ℕ) → IsDepth (most_of depth)
depth_is depth = by (nat_eq depth 8)
  where
    by : (b : Bool) → IsDepth (if b then 255 else 32768)
    by true = inl refl
    by false = inr refl

-- what two lists of equal length say of each two of their items
zipped : {A B : Type 0} (R : A → B → Type 0) (xs : List A) (ys : List B) (i : ℕ) (x : A) (y : B) → AllZip R xs ys → slice_get xs i ≡ Some x → slice_get ys i ≡ Some y → R x y
zipped R [] ys i x y all here there = absurd (cc)
zipped R (a ∷ xs) [] i x y all here there = absurd all
zipped R (a ∷ xs) (b ∷ ys) zero x y all here there =
    let first : a ≡ x = cc in
    let second : b ≡ y = cc in
    subst (λ c. R c y) first (subst (R a) second all.0)
zipped R (a ∷ xs) (b ∷ ys) (suc i) x y all here there = zipped R xs ys i x y all.1 here there

-- there is one at each place within
there_is : {A : Type 0} (xs : List A) (i : ℕ) → i < length xs → (x : A) × (slice_get xs i ≡ Some x)
there_is [] i h = absurd (omega (arith, h))
there_is (x ∷ xs) zero h = (x, refl)
there_is (x ∷ xs) (suc i) h = there_is xs i (omega (arith, h))

-- all of a list
take_map : {A B : Type 0} (f : A → B) (xs : List A) → take (length xs) (map f xs) ≡ map f xs
take_map f [] = refl
take_map f (x ∷ xs) = ap (λ l. f x ∷ l) (take_map f xs)

opacity_within : (z : ℤ) → IsBetween (pos 0) full_opacity z → unsigned_abs z ≤ 10000
opacity_within (pos n) h = omega (arith, ints, h.1)
opacity_within (negsuc n) h = absurd (omega (arith, ints, h.0))

-- what a test of order says
before : (a b : ℤ) → int_lt a b ≡ true → a <ℤ b
before a b e = omega (arith, ints, e)

mapped : {A B : Type 0} (P : A → Type 0) (Q : B → Type 0) (f : A → B) (xs : List A) → All P xs → ((x : A) → P x → Q (f x)) → All Q (map f xs)
mapped P Q f [] all each = All-nil Q
mapped P Q f (x ∷ xs) all each = All-cons Q (f x) (map f xs) (each x (All-head P x xs all)) (mapped P Q f xs (All-tail P x xs all) each)

more_room : (most few more : ℕ) (plane : Plane) → few ≤ more → IsBoxedPlane most few plane → IsBoxedPlane most more plane
more_room most few more plane le is = record { is = is.is; boxed = boxed_more few more plane.extent le is.boxed }

module _ (parts : SceneParts) (set : EffectSet) (drawing : Drawing) (lawful : IsLawfulScene parts set drawing) where
  abbrev scene : PlainScene
  scene = plain_scene parts set drawing

  abbrev project : Project
  project = parts.project

  abbrev most : ℕ
  most = most_of project.depth

  abbrev base : ℕ
  base = base_in scene.project

  -- what holds of each composition
  abbrev IsCompHere : Comp → Type 0
  IsCompHere comp = IsSoundComp project.depth project.base.ticks (length project.clips) (length project.comps) comp

  comp_sound : (of : ℕ) (comp : Comp) → slice_get project.comps of ≡ Some comp → IsCompHere comp
  comp_sound of comp here = found_holds IsCompHere project.comps of comp lawful.scene.sound.comps here

  -- compositions show planes over their frames
  abbrev ShowPlanes : Showing → Type 0
  ShowPlanes f =
      (index : ℕ) (comp : Comp) (t : ℤ) → slice_get project.comps index ≡ Some comp → IsPlane most (record { extent = frame_rect comp.width comp.height; at = f index t })

  comp_boxed : (f : Showing) → ShowPlanes f → (index : ℕ) (t : ℤ) → IsBoxedPlane most 0 (comp_plane f index (slice_get scene.project.comps index) t)
  comp_boxed f shows index t =
      subst (λ o. IsBoxedPlane most 0 (comp_plane f index o t)) (sym (slice_get-map plain_comp project.comps index)) (by (slice_get project.comps index) refl)
    where
      by : (o : Option Comp) → slice_get project.comps index ≡ o → IsBoxedPlane most 0 (comp_plane f index (option_map plain_comp o) t)
      by None e = nothing_boxed most
      by (Some comp) e =
          let size = (comp_sound index comp e).size in
          record { is = shows index comp t e; boxed = frame_boxed comp.width comp.height size.width_bound size.height_bound }

  clip_boxed : (index : ℕ) (t : ℤ) → IsBoxedPlane most 0 (clip_plane scene index t)
  clip_boxed index t = by (slice_get project.clips index) refl (slice_get parts.clips index) refl
    where
      by : (o : Option ClipUse) → slice_get project.clips index ≡ o → (p : Option Pictures) → slice_get parts.clips index ≡ p → IsBoxedPlane most 0 (picture_plane most base o p t)
      by None e None g = nothing_boxed most
      by None e (Some clip) g = nothing_boxed most
      by (Some declared) e None g = nothing_boxed most
      by (Some declared) e (Some clip) g =
          let is : IsClipOf declared clip = zipped IsClipOf project.clips parts.clips index declared clip lawful.scene.clips e g in
          let readable = (found_holds (IsSoundClip project.base.ticks) project.clips index declared lawful.scene.sound.clips e).readable in
          let width : clip.width ≡ declared.width = ap (λ (c : Pictures). c.width) is in
          let height : clip.height ≡ declared.height = ap (λ (c : Pictures). c.height) is in
          picture_boxed most clip (frame_at t (tick_of base declared.frame)) (some_depth clip.depth) (found_holds IsPremultipliedClip parts.clips index clip lawful.scene.pixels g)
          (omega (arith, width, readable.width.1)) (omega (arith, height, readable.height.1))

  item_boxed : (f : Showing) → ShowPlanes f → (start : Time) (it : Item) (t : ℤ) → IsSoundItem most (length project.clips) (length project.comps) it → IsBoxedPlane most 0 (plane_of_item (sources_of scene f) start it t)
  item_boxed f shows start (item.Solid width height a r g b) t sound =
      solid_boxed most width height (record { a = a; r = r; g = g; b = b }) (record { alpha = sound.1.alpha; red = sound.1.red; green = sound.1.green; blue = sound.1.blue }) sound.0.width_bound sound.0.height_bound
  item_boxed f shows start (item.Clip index) t sound = clip_boxed index (since base start t)
  item_boxed f shows start (item.Comp index) t sound = comp_boxed f shows index (since base start t)

  -- the source of each layer
  source_boxed : (f : Showing) → ShowPlanes f → (of index : ℕ) (comp : Comp) (layer : Layer) (t : ℤ) → slice_get project.comps of ≡ Some comp → slice_get comp.layers index ≡ Some layer
      → IsBoxedPlane most 0 (source_plane (sources_of scene f) (plain_layer layer) t)
  source_boxed f shows of index comp layer t here there =
      item_boxed f shows layer.start layer.source t
      (found_holds (IsSoundLayer project.depth project.base.ticks (length project.clips) (length project.comps)) comp.layers index layer (comp_sound of comp here).layers there).source

  named_boxed : (f : Showing) → ShowPlanes f → (of index : ℕ) (comp : Comp) (t : ℤ) → slice_get project.comps of ≡ Some comp → IsBoxedPlane most 0 (named_plane (sources_of scene f) (plain_comp comp) index t)
  named_boxed f shows of index comp t here =
      subst (λ o. IsBoxedPlane most 0 (option_map_or (λ layer. source_plane (sources_of scene f) layer t) o nothing)) (sym (slice_get-map plain_layer comp.layers index)) (by (slice_get comp.layers index) refl)
    where
      by : (o : Option Layer) → slice_get comp.layers index ≡ o → IsBoxedPlane most 0 (option_map_or (λ layer. source_plane (sources_of scene f) layer t) (option_map plain_layer o) nothing)
      by None e = nothing_boxed most
      by (Some layer) e = source_boxed f shows of index comp layer t here e

  -- ---- effects

  -- a layer behind so many effects, at held ticks
  abbrev IsBehind : ℕ → (ℤ → Plane) → Type 0
  IsBehind count input = (t : ℤ) → IsHeld base t → IsBoxedPlane most count (input t)

  wanted_boxed : (f : Showing) → ShowPlanes f → (of count : ℕ) (comp : Comp) → slice_get project.comps of ≡ Some comp → (input : ℤ → Plane) → IsBehind count input → (layers : List ℕ) (number : ℕ) (t : ℤ) → IsHeld base t
      → IsBoxedPlane most count (input_plane number input (named_plane (sources_of scene f) (plain_comp comp)) layers t)
  wanted_boxed f shows of count comp here input behind layers zero t held = behind t held
  wanted_boxed f shows of count comp here input behind layers (suc i) t held = by (slice_get layers i)
    where
      by : (o : Option ℕ) → IsBoxedPlane most count (option_map_or (λ layer. named_plane (sources_of scene f) (plain_comp comp) layer t) o nothing)
      by None = more_room most 0 count nothing (omega arith) (nothing_boxed most)
      by (Some layer) = more_room most 0 count _ (omega arith) (named_boxed f shows of layer comp t here)

  asked : (count : ℕ) (wanted : Want → Plane) → count ≤ 8 → (classes layers : ℕ) (asks : List Ask) → ((want : Want) → IsWant layers base want → IsBoxedPlane most count (wanted want)) → All (IsAsk classes layers base) asks
      → AreSums most drawing.sums_of asks (map (λ (ask : Ask). drawing.sums_of ask.class ask.ask (wanted ask.want)) asks)
  asked count wanted few classes layers [] each all = tt
  asked count wanted few classes layers (ask ∷ asks) each all =
      let plane = each ask.want (All-head (IsAsk classes layers base) ask asks all).over in (
        (wanted ask.want, plane.is, boxed_area count (wanted ask.want).extent few plane.boxed, refl),
        asked count wanted few classes layers asks each (All-tail (IsAsk classes layers base) ask asks all),
      )

  fx_boxed : (f : Showing) → ShowPlanes f → (of index count : ℕ) (comp : Comp) (layer : Layer) (fx : FxUse) → slice_get project.comps of ≡ Some comp → slice_get comp.layers index ≡ Some layer → slice_get layer.effects count ≡ Some fx
      → count ≤ 8 → (input : ℤ → Plane) → IsBehind count input → IsBehind (count + 1) (fx_plane (sources_of scene f) (plain_comp comp) input (plain_fx fx))
  fx_boxed f shows of index count comp layer fx here there found few input behind t held =
      let frame : ℤ = tick_of base comp.frame in
      let at : Moment = moment_at base frame t in
      let it : Use = use_of fx in
      let sound = comp_sound of comp here in
      let some : 1 ≤ base = subst (λ n. 1 ≤ n) lawful.scene.sound.base lawful.scene.sound.some_base in
      let written : IsWritten base comp.frame = subst (λ n. IsWritten n comp.frame) lawful.scene.sound.base sound.frame in
      let given : IsGiven set.schemas it at =
      given_at set.schemas it base frame t (use_at set.schemas project of index count comp layer fx lawful.uses here there found).fits held (frame_low base comp.frame written sound.some_time some) (frame_high base comp.frame written) in
      let wanted : Want → Plane = λ want. input_plane want.input input (named_plane (sources_of scene f) (plain_comp comp)) fx.layers want.tick.0 in
      let wants = lawful.set_is.wants_are it at given in
      let asks = lawful.set_is.asks_are it at given in
      let each : (want : Want) → IsWant (schema_of set.schemas it.kind).layers base want → IsBoxedPlane most count (wanted want) =
      λ want is. wanted_boxed f shows of count comp here input behind fx.layers want.input want.tick.0 is.held in
      let planes : List Plane = map wanted (set.wants it at) in
      let all : All (IsBoxedPlane most count) planes = mapped (IsWant (schema_of set.schemas it.kind).layers base) (IsBoxedPlane most count) wanted (set.wants it at) wants.each each in
      let sums : List (List ℕ) = map (λ (ask : Ask). drawing.sums_of ask.class ask.ask (wanted ask.want)) (set.asks it at) in
      let input_is : IsInput most drawing.sums_of (set.wants it at) (set.asks it at) planes sums = record {
        depth = depth_is project.depth;
        planes_are = λ k d within. (all k d within).is;
        one_each = length-map (set.wants it at) wanted;
        sums_are = asked count wanted few _ _ (set.asks it at) each asks.each;
      } in
      let drawn = lawful.drawing_is.draws_are it at planes sums given input_is in
      record {
        is = record { pixels = drawn.pixels; outside = drawn.outside };
        boxed =
            bounds_boxed count (extents_of planes) (set.bounds it at (extents_of planes)) few (mapped (IsBoxedPlane most count) (IsBoxed count) (λ plane. plane.extent) planes all (λ plane is. is.boxed))
            (lawful.set_is.bounds_are it at (extents_of planes) given (length-map planes (λ plane. plane.extent) ∙ length-map (set.wants it at) wanted));
      }

  behind_boxed : (f : Showing) → ShowPlanes f → (of index : ℕ) (comp : Comp) (layer : Layer) → slice_get project.comps of ≡ Some comp → slice_get comp.layers index ≡ Some layer → (count : ℕ) → count ≤ length layer.effects → count ≤ 8
      → IsBehind count (plane_behind (sources_of scene f) (plain_comp comp) (plain_layer layer) (take count (plain_layer layer).effects))
  behind_boxed f shows of index comp layer here there zero few small = λ t held. source_boxed f shows of index comp layer t here there
  behind_boxed f shows of index comp layer here there (suc k) few small =
      let found = there_is layer.effects k (omega (arith, few)) in
      let fx : FxUse = found.0 in
      let plain : slice_get (plain_layer layer).effects k ≡ Some (plain_fx fx) = slice_get-map plain_fx layer.effects k ∙ ap (option_map plain_fx) found.1 in
      let next : k + 1 ≡ suc k = omega arith in
      subst (λ n. IsBehind n (plane_behind (sources_of scene f) (plain_comp comp) (plain_layer layer) (take (suc k) (plain_layer layer).effects))) next
      (subst (IsBehind (k + 1)) (sym (behind_more (sources_of scene f) (plain_comp comp) (plain_layer layer) (plain_layer layer).effects k (plain_fx fx) plain))
      (fx_boxed f shows of index k comp layer fx here there found.1 (omega (arith, small)) _ (behind_boxed f shows of index comp layer here there k (omega (arith, few)) (omega (arith, small)))))

  -- ---- compositions

  -- a layer where its streams put it, at a held tick
  placed_fits : (f : Showing) → ShowPlanes f → (of index : ℕ) (comp : Comp) (layer : Layer) → slice_get project.comps of ≡ Some comp → slice_get comp.layers index ≡ Some layer → (t : ℤ) → IsHeld base t
      → IsPremultipliedPlane most (plane_in (sources_of scene f) (plain_comp comp) t (plain_layer layer))
  placed_fits f shows of index comp layer here there t held =
      let made = (found_holds (IsSoundLayer project.depth project.base.ticks (length project.clips) (length project.comps)) comp.layers index layer (comp_sound of comp here).layers there).streams.opacity in
      let few : length layer.effects ≤ 8 = layer.few_effects in
      let plane = behind_boxed f shows of index comp layer here there (length layer.effects) (omega arith) few t held in
      let whole = take_map plain_fx layer.effects in
      record {
        pixels =
            subst (λ (effects : List PlainFx). (x y : ℤ) → IsPremultiplied most ((plane_behind (sources_of scene f) (plain_comp comp) (plain_layer layer) effects t).at x y)) whole plane.is.pixels;
        opacity = opacity_within (value_at base layer.opacity.keys t) (value_within base layer.opacity.keys t (pos 0) full_opacity (omega (arith, made.some)) made.within);
      }

  -- the layers of a composition, by their indices in plain parts
  abbrev ArePlaced : Showing → PlainComp → ℤ → List PlainLayer → Type 0
  ArePlaced f comp t layers = (i : ℕ) (layer : PlainLayer) → slice_get layers i ≡ Some layer → IsPremultipliedPlane most (plane_in (sources_of scene f) comp t layer)

  seen_fits : (f : Showing) (comp : PlainComp) (t : ℤ) (o : Option PlainLayer) → ((layer : PlainLayer) → o ≡ Some layer → IsPremultipliedPlane most (plane_in (sources_of scene f) comp t layer))
      → IfSome (seen_plane (sources_of scene f) comp t o) (IsPremultipliedPlane most)
  seen_fits f comp t None each = tt
  seen_fits f comp t (Some layer) each = by (is_seen base comp t layer)
    where
      by : (b : Bool) → IfSome (if b then Some (plane_in (sources_of scene f) comp t layer) else None) (IsPremultipliedPlane most)
      by true = each layer refl
      by false = tt

  above_fits : (f : Showing) (comp : PlainComp) (t : ℤ) → ArePlaced f comp t comp.layers → (index : ℕ) (layer : PlainLayer) → layer_above comp index ≡ Some layer → IsPremultipliedPlane most (plane_in (sources_of scene f) comp t layer)
  above_fits f comp t all zero layer e = absurd (cc)
  above_fits f comp t all (suc i) layer e = all i layer e

  matte_fits : (f : Showing) (comp : PlainComp) (t : ℤ) → ArePlaced f comp t comp.layers → (index : ℕ) (layer : PlainLayer) → IfSome (matte_plane (sources_of scene f) comp t index layer) (IsPremultipliedPlane most)
  matte_fits f comp t all index layer = by (has_matte layer)
    where
      by : (b : Bool) → IfSome (if b then seen_plane (sources_of scene f) comp t (layer_above comp index) else None) (IsPremultipliedPlane most)
      by true = seen_fits f comp t (layer_above comp index) (above_fits f comp t all index)
      by false = tt

  layers_fit : (f : Showing) (comp : PlainComp) (t : ℤ) → ArePlaced f comp t comp.layers → (index : ℕ) (layers : List PlainLayer) → ArePlaced f comp t layers → AllByRecursion (IsPremultipliedLayer most) (placed_layers (sources_of scene f) comp t index layers)
  layers_fit f comp t all index [] each = tt
  layers_fit f comp t all index (layer ∷ lower) each =
      by (is_seen base comp t layer && not (serves_as_matte comp index)) (layers_fit f comp t all (index + 1) lower (λ i l e. each (suc i) l e))
    where
      by : (b : Bool) → AllByRecursion (IsPremultipliedLayer most) (placed_layers (sources_of scene f) comp t (index + 1) lower)
          → AllByRecursion (IsPremultipliedLayer most) (if b then placed_of (sources_of scene f) comp t index layer ∷ placed_layers (sources_of scene f) comp t (index + 1) lower else placed_layers (sources_of scene f) comp t (index + 1) lower)
      by true rest = (record { layer = each zero layer refl; over = matte_fits f comp t all index layer }, rest)
      by false rest = rest

  all_placed : (f : Showing) → ShowPlanes f → (of : ℕ) (comp : Comp) → slice_get project.comps of ≡ Some comp → (t : ℤ) → IsHeld base t → ArePlaced f (plain_comp comp) t (plain_comp comp).layers
  all_placed f shows of comp here t held i layer e = by (slice_get comp.layers i) refl (sym (slice_get-map plain_layer comp.layers i) ∙ e)
    where
      by : (o : Option Layer) → slice_get comp.layers i ≡ o → option_map plain_layer o ≡ Some layer → IsPremultipliedPlane most (plane_in (sources_of scene f) (plain_comp comp) t layer)
      by None g h = absurd (cc)
      by (Some found) g h =
          let same : plain_layer found ≡ layer = cc in
          subst (λ l. IsPremultipliedPlane most (plane_in (sources_of scene f) (plain_comp comp) t l)) same (placed_fits f shows of i comp found here g t held)

  -- within its time a composition's tick is held
  inside_held : (of : ℕ) (comp : Comp) (t : ℤ) → slice_get project.comps of ≡ Some comp → (int_le (pos 0) t && int_lt t (end_of_comp base (plain_comp comp))) ≡ true → IsHeld base t
  inside_held of comp t here e = by (int_le (pos 0) t) refl (int_lt t (end_of_comp base (plain_comp comp))) refl e
    where
      by : (b : Bool) → int_le (pos 0) t ≡ b → (c : Bool) → int_lt t (end_of_comp base (plain_comp comp)) ≡ c → (b && c) ≡ true → IsHeld base t
      by true low true high both =
          let sound = comp_sound of comp here in
          let some : 1 ≤ base = subst (λ n. 1 ≤ n) lawful.scene.sound.base lawful.scene.sound.some_base in
          let written : IsWritten base comp.frame = subst (λ n. IsWritten n comp.frame) lawful.scene.sound.base sound.frame in
          held_inside comp.frames comp.frame.scale base t (tick_of base comp.frame) comp.frame.value (scaled_up comp.frame.value base comp.frame.scale written.divides) sound.some_time some
          (omega (arith, ints, low)) (before t (end_of_comp base (plain_comp comp)) high) (found_holds EndsInTime project.comps of comp lawful.scene.lengths here) written.scaled
      by true low false high both = absurd (differ (sym both))
      by false low c high both = absurd (differ (sym both))

  shows_from : (f : Showing) → ShowPlanes f → ShowPlanes (shown_from scene f)
  shows_from f shows index comp t here =
      let found : slice_get scene.project.comps index ≡ Some (plain_comp comp) = slice_get-map plain_comp project.comps index ∙ ap (option_map plain_comp) here in
      let same : (x y : ℤ) → shown_from scene f index t x y ≡ comp_shown most (sources_of scene f) (Some (plain_comp comp)) t x y = λ x y. ap (λ o. comp_shown most (sources_of scene f) o t x y) found in
      record {
        pixels = λ x y. subst (IsPremultiplied most) (sym (same x y)) (by x y (int_le (pos 0) t && int_lt t (end_of_comp base (plain_comp comp))) refl (has (frame_rect comp.width comp.height) x y));
        outside = λ x y none. same x y ∙ out x y none (has (frame_rect comp.width comp.height) x y) refl (int_le (pos 0) t && int_lt t (end_of_comp base (plain_comp comp)));
      }
    where
      layers : List PlacedLayer
      layers = placed_layers (sources_of scene f) (plain_comp comp) t 0 (plain_comp comp).layers

      by : (x y : ℤ) (b : Bool) → (int_le (pos 0) t && int_lt t (end_of_comp base (plain_comp comp))) ≡ b → (c : Bool) → IsPremultiplied most (if b && c then stack_at most layers x y else clear)
      by x y true e true =
          let placed = all_placed f shows index comp here t (inside_held index comp t here e) in
          stack_fits most layers x y clear (depth_is project.depth) (layers_fit f (plain_comp comp) t placed 0 (plain_comp comp).layers placed) (clear_premultiplied most)
      by x y true e false = clear_premultiplied most
      by x y false e c = clear_premultiplied most

      out : (x y : ℤ) → ¬ Has (frame_rect comp.width comp.height) x y → (c : Bool) → has (frame_rect comp.width comp.height) x y ≡ c → (b : Bool) → (if b && c then stack_at most layers x y else clear) ≡ clear
      out x y none true e b = absurd (none (Has-from_true (frame_rect comp.width comp.height) x y e))
      out x y none false e true = refl
      out x y none false e false = refl

  shows_in : (turns : ℕ) → ShowPlanes (shown_in turns scene)
  shows_in zero = λ index comp t here. record { pixels = λ x y. clear_premultiplied most; outside = λ x y none. refl }
  shows_in (suc turns) = shows_from (shown_in turns scene) (shows_in turns)

  pub planes_boxed : PlanesAreBoxed parts set drawing
  planes_boxed = record {
    source = λ of index comp layer t here there. source_boxed (shown scene) (shows_in (length scene.project.comps)) of index comp layer t here there;
    behind = λ of index count comp layer t here there few held.
        behind_boxed (shown scene) (shows_in (length scene.project.comps)) of index comp layer here there count few (omega (arith, few, layer.few_effects)) t held;
  }
