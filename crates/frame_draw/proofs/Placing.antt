-- What is put on the stack for a layer.
use Rattle.std.proofs.Common.{◌≡◌, ℕ, zero, suc, ◌+◌, ◌-◌, ◌<◌, ◌≤◌, ℤ, pos, negsuc, ◌≤ℤ◌, ◌-ℤ◌, Fits, w32, Bool, true, false, List, [], ◌∷◌, length, map, drop, get_or, refl, sym, ap, subst, ◌∙◌, arith}
use Rattle.std.specs.Prelude.{Result, Ok, Err, IfOk, Option, Some, None, option_map, not, ◌&&◌, slice_get, unsigned_abs, if◌then◌else◌, All, int_le, int_lt, take}
use Rattle.std.specs.Int.RustNames.{FitsSigned}
use lib.Dec.{T}
use lib.Signed.{non_neg}
use lib.IntN.{nat_abs}
use Rattle.std.proofs.lemmas.Int.{ints}
use Rattle.std.proofs.lemmas.List.{drop_more, length-map}
use Rattle.std.proofs.lemmas.List.Elements.{All-nil, All-push}
use Rattle.std.proofs.lemmas.Option.{slice_get-map, slice_get_within, get_or_from_slice_get}
use Rattle.geom_rect.specs.declared.rect.Rect.{Rect}
use Rattle.geom_rect.specs.Rect.{Has, has, frame_rect}
use Rattle.geom_rect.proofs.Points.{Has-from_true, has-true}
use Rattle.argb_pixel.specs.Pixel.{Argb, clear, scale_of}
use Rattle.transfer_mode.specs.Transfer.{blend_of}
use Rattle.track_matte.specs.Mattes.{matted}
use Rattle.effect_api.specs.Planes.{AgreeOn}
use Rattle.argb_world.specs.Picture.{Picture, at, place_of}
use Rattle.comp_stack.specs.Stack.{Plane, PlacedPlane, PlacedLayer, matte_at, pixel_at, solid_plane, source_at, step, stack_at, stack_over}
use Rattle.comp_stack.specs.declared.layer.Shown.{Shown}
use Rattle.comp_stack.specs.declared.layer.Placed.{Placed}
use Rattle.project_model.specs.Rules.{has_matte, layer_above}
use Rattle.comp_stack.specs.Layers.{IsShown, IsPlaced, IsPosition, layer_of, plane_of, placed_of as plane_placed}
use Rattle.transfer_mode.specs.declared.mode.Mode.{Mode}
use Rattle.project_model.specs.Nesting.{IsAcyclic}
use Rattle.project_model.specs.declared.comp.Comp.{Comp}
use Rattle.scene_meaning.proofs.Turns.{shown_fixed}
use Rattle.param_stream.specs.Curve.{Curve, IsBetween, value_at}
use Rattle.param_stream.proofs.Values.{value_within}
use Rattle.project_model.specs.Bounds.{full_opacity, least_position, greatest_position}
use Rattle.project_model.specs.Sound.{IsMadeWith}
use Rattle.project_model.specs.Plain.{plain_fx, plain_layer, plain_comp}
use Rattle.project_model.specs.declared.plain.PlainFx.{PlainFx}
use Rattle.project_model.specs.declared.plain.PlainLayer.{PlainLayer}
use Rattle.project_model.specs.declared.plain.PlainComp.{PlainComp}
use Rattle.project_model.specs.declared.layer.Layer.{Layer}
use Rattle.scene_meaning.specs.Shown.{PlainScene, Sources, base_in, most_in, is_seen, matte_plane, plane_in, seen_plane, plane_behind, placed_of, serves_as_matte, placed_layers, end_of_comp, comp_shown, comp_plane, shown}
use Rattle.scene_meaning.proofs.Inside.{there_is}
use Rattle.scene_meaning.specs.Parts.{drawn_from}
use Rattle.frame_draw.specs.Areas.{StandsFor, area_in}
use Rattle.frame_draw.proofs.Areas.{area_inside, stands_in, whole_area, whole_is}
use Rattle.frame_draw.specs.Layers.{IsShownOn, IsOfMatte, IsOfLayer, brought}

-- a picture that has one colour over its whole frame is that solid
pub solid_is : (world : Picture) (w h : ℕ) (colour : Argb) (frame : Rect) → frame ≡ frame_rect w h → world.extent ≡ frame → world.part ≡ frame
    → ((x y : ℤ) → Has frame x y → at world x y ≡ colour) → plane_of world ≡ solid_plane w h colour
solid_is world w h colour frame here extent part each =
    ap (λ (e : Rect). let p : Plane = record { extent = e; at = at world } in p) (extent ∙ here)
    ∙ ap (λ (f : ℤ → ℤ → Argb). let p : Plane = record { extent = frame_rect w h; at = f } in p) (λ i x y. points x y i)
    ∙ ap (λ (e : Rect). let p : Plane = record { extent = frame_rect w h; at = λ x y. if has e x y then colour else clear } in p) here
  where
    points : (x y : ℤ) → at world x y ≡ (if has frame x y then colour else clear)
    points x y = by (has frame x y) refl
      where
        by : (b : Bool) → has frame x y ≡ b → at world x y ≡ (if has frame x y then colour else clear)
        by true e = each x y (Has-from_true frame x y e) ∙ sym (ap (λ t. if t then colour else clear) e)
        by false e =
            ap (λ (r : Rect). if has r x y then get_or world.pixels (place_of world.part x y) clear else clear) part
            ∙ ap (λ t. if t then get_or world.pixels (place_of world.part x y) clear else clear) e
            ∙ sym (ap (λ t. if t then colour else clear) e)

pub solid_ok : {E : Type 0} (made : Result Picture E) (w h : ℕ) (colour : Argb) (frame : Rect) → frame ≡ frame_rect w h → IfOk made (λ p. p.extent ≡ frame)
    → IfOk made (λ p. p.part ≡ frame) → IfOk made (λ p. (x y : ℤ) → Has frame x y → at p x y ≡ colour) → IfOk made (λ p. plane_of p ≡ solid_plane w h colour)
solid_ok (Ok p) w h colour frame here extent part each = solid_is p w h colour frame here extent part each
solid_ok (Err e) w h colour frame here extent part each = tt

-- a number within the bounds of a position fits 32 bits
pub position_fits : (z : ℤ) → IsPosition z → FitsSigned w32 z
position_fits (pos n) h = record { sfits = omega (arith, ints, h.1) }
position_fits (negsuc n) h = record { sfits = omega (arith, ints, h.0) }

pub opacity_fits : (z : ℤ) → pos 0 ≤ℤ z → z ≤ℤ pos 10000 → unsigned_abs z ≤ 10000
opacity_fits (pos n) low high = omega (arith, ints, high)
opacity_fits (negsuc n) low high = absurd (omega (arith, ints, low))

-- ---- a layer's picture

-- the value of a stream that was made with this base and these bounds
pub value_is : (curve : Curve) (base : ℕ) (t z : ℤ) → curve.base ≡ base → z ≡ value_at curve.base curve.keys t → z ≡ value_at base curve.keys t
value_is curve base t z made is = is ∙ ap (λ b. value_at b curve.keys t) made

bounded : (curve : Curve) (base : ℕ) (least most t z : ℤ) → IsMadeWith base least most curve → z ≡ value_at curve.base curve.keys t → IsBetween least most z
bounded curve base least most t z made is =
    subst (IsBetween least most) (sym is) (value_within curve.base curve.keys t least most (omega (arith, made.some)) made.within)

pub position_of : (curve : Curve) (base : ℕ) (t z : ℤ) → IsMadeWith base least_position greatest_position curve → z ≡ value_at curve.base curve.keys t → IsPosition z
position_of curve base t z made is =
    let h : IsBetween least_position greatest_position z = bounded curve base least_position greatest_position t z made is in
    (omega (arith, ints, h.0), omega (arith, ints, h.1))

pub position_cast : (curve : Curve) (base : ℕ) (t z : ℤ) → IsMadeWith base least_position greatest_position curve → z ≡ value_at curve.base curve.keys t → FitsSigned w32 z
position_cast curve base t z made is = position_fits z (position_of curve base t z made is)

opacity_bounds : (curve : Curve) (base : ℕ) (t z : ℤ) → IsMadeWith base (pos 0) full_opacity curve → z ≡ value_at curve.base curve.keys t → IsBetween (pos 0) full_opacity z
opacity_bounds curve base t z made is = bounded curve base (pos 0) full_opacity t z made is

pub opacity_of : (curve : Curve) (base : ℕ) (t z : ℤ) → IsMadeWith base (pos 0) full_opacity curve → z ≡ value_at curve.base curve.keys t → unsigned_abs z ≤ 10000
opacity_of curve base t z made is =
    let h = opacity_bounds curve base t z made is in
    opacity_fits z h.0 h.1

pub opacity_cast : (curve : Curve) (base : ℕ) (t z : ℤ) → IsMadeWith base (pos 0) full_opacity curve → z ≡ value_at curve.base curve.keys t → T (non_neg z) × Fits w32 (nat_abs z)
opacity_cast curve base t z made is =
    let h = opacity_bounds curve base t z made is in
    by z h.0 h.1
  where
    by : (z : ℤ) → pos 0 ≤ℤ z → z ≤ℤ pos 10000 → T (non_neg z) × Fits w32 (nat_abs z)
    by (pos n) low high = (tt, record { fits = omega (arith, ints, high) })
    by (negsuc n) low high = absurd (omega (arith, ints, low))

-- ---- copies

-- ---- layers from the last one on

-- a list from a place on
pub from_here : {A : Type 0} (xs : List A) (i : ℕ) (x : A) → slice_get xs i ≡ Some x → drop i xs ≡ x ∷ drop (i + 1) xs
from_here xs i x found = drop_more xs i x (slice_get_within xs i x found) ∙ ap (λ y. y ∷ drop (i + 1) xs) (get_or_from_slice_get xs i x x found)

over_one : (most : ℕ) (b : Bool) (p : PlacedLayer) (rest : List PlacedLayer) (x y : ℤ) (below : Argb)
    → stack_over most (if b then p ∷ rest else rest) x y below ≡ stack_over most (if b then p ∷ [] else []) x y (stack_over most rest x y below)
over_one most true p rest x y below = refl
over_one most false p rest x y below = refl

-- one layer more
pub one_more : (most : ℕ) (sources : Sources) (comp : PlainComp) (t : ℤ) (i : ℕ) (layer : PlainLayer) (x y : ℤ) → slice_get comp.layers i ≡ Some layer
    → stack_over most (placed_layers sources comp t i (drop i comp.layers)) x y clear
    ≡ stack_over most (brought sources comp t i layer) x y (stack_over most (placed_layers sources comp t (i + 1) (drop (i + 1) comp.layers)) x y clear)
one_more most sources comp t i layer x y found =
    ap (λ (ls : List PlainLayer). stack_over most (placed_layers sources comp t i ls) x y clear) (from_here comp.layers i layer found)
    ∙ over_one most (is_seen sources.base comp t layer && not (serves_as_matte comp i)) (placed_of sources comp t i layer) (placed_layers sources comp t (i + 1) (drop (i + 1) comp.layers)) x y clear

over_none : (most : ℕ) (b : Bool) (p : PlacedLayer) (x y : ℤ) (below : Argb) → b ≡ false → below ≡ stack_over most (if b then p ∷ [] else []) x y below
over_none most true p x y below e = let wrong : ⊥ = cc in absurd wrong
over_none most false p x y below e = refl

over_itself : (most : ℕ) (b : Bool) (p : PlacedLayer) (x y : ℤ) (below : Argb) → b ≡ true → step most p x y below ≡ stack_over most (if b then p ∷ [] else []) x y below
over_itself most true p x y below e = refl
over_itself most false p x y below e = let wrong : ⊥ = cc in absurd wrong

both_true : (a b : Bool) → a ≡ true → b ≡ false → (a && not b) ≡ true
both_true true false e f = refl
both_true true true e f = let wrong : ⊥ = cc in absurd wrong
both_true false b e f = let wrong : ⊥ = cc in absurd wrong

left_false : (a b : Bool) → a ≡ false → (a && not b) ≡ false
left_false true b e = let wrong : ⊥ = cc in absurd wrong
left_false false b e = refl

right_true : (a b : Bool) → b ≡ true → (a && not b) ≡ false
right_true true true e = refl
right_true false true e = refl
right_true a false e = let wrong : ⊥ = cc in absurd wrong

seen_in : (sources : Sources) (base : ℕ) (comp : PlainComp) (t : ℤ) (layer : PlainLayer) (seen b : Bool) → base ≡ sources.base → seen ≡ is_seen base comp t layer → seen ≡ b → is_seen sources.base comp t layer ≡ b
seen_in sources base comp t layer seen b same is e = sym (is ∙ ap (λ (n : ℕ). is_seen n comp t layer) same) ∙ e

-- a layer that is not seen, and one that is a matte, bring nothing
pub unseen_brings : (most : ℕ) (sources : Sources) (base : ℕ) (comp : PlainComp) (t : ℤ) (i : ℕ) (layer : PlainLayer) (seen : Bool) (x y : ℤ) (below : Argb) → base ≡ sources.base → seen ≡ is_seen base comp t layer → seen ≡ false
    → below ≡ stack_over most (brought sources comp t i layer) x y below
unseen_brings most sources base comp t i layer seen x y below same is e =
    over_none most _ (placed_of sources comp t i layer) x y below (left_false (is_seen sources.base comp t layer) (serves_as_matte comp i) (seen_in sources base comp t layer seen false same is e))

pub matte_brings : (most : ℕ) (sources : Sources) (comp : PlainComp) (t : ℤ) (i : ℕ) (layer : PlainLayer) (serves : Bool) (x y : ℤ) (below : Argb) → serves ≡ serves_as_matte comp i → serves ≡ true
    → below ≡ stack_over most (brought sources comp t i layer) x y below
matte_brings most sources comp t i layer serves x y below is e =
    over_none most _ (placed_of sources comp t i layer) x y below (right_true (is_seen sources.base comp t layer) (serves_as_matte comp i) (sym is ∙ e))

-- one that is seen and is none brings itself
pub seen_brings : (most : ℕ) (sources : Sources) (base : ℕ) (comp : PlainComp) (t : ℤ) (i : ℕ) (layer : PlainLayer) (seen serves : Bool) (x y : ℤ) (below : Argb) → base ≡ sources.base → seen ≡ is_seen base comp t layer → seen ≡ true
    → serves ≡ serves_as_matte comp i → serves ≡ false → step most (placed_of sources comp t i layer) x y below ≡ stack_over most (brought sources comp t i layer) x y below
seen_brings most sources base comp t i layer seen serves x y below same is e is' e' =
    over_itself most _ (placed_of sources comp t i layer) x y below (both_true (is_seen sources.base comp t layer) (serves_as_matte comp i) (seen_in sources base comp t layer seen true same is e) (sym is' ∙ e'))

-- all of a list
take_map : {A B : Type 0} (f : A → B) (xs : List A) → take (length xs) (map f xs) ≡ map f xs
take_map f [] = refl
take_map f (x ∷ xs) = ap (λ l. f x ∷ l) (take_map f xs)

-- a layer's picture where its streams put it, drawn where the area looks at it
pub placed_in : {most : ℕ} (sources : Sources) (base : ℕ) (comp : PlainComp) (t : ℤ) (layer : Layer) (shown : Shown most) (area request : Rect) → IsShown shown → base ≡ sources.base
    → shown.x ≡ value_at base layer.x.keys t → shown.y ≡ value_at base layer.y.keys t → shown.opacity ≡ unsigned_abs (value_at base layer.opacity.keys t)
    → ((x y : ℤ) → Has area x y → Has request (x -ℤ shown.x) (y -ℤ shown.y))
    → AgreeOn request (plane_of shown.world) (plane_behind sources comp (plain_layer layer) (take (length layer.effects) (plain_layer layer).effects) t)
    → IsShownOn area (plane_in sources comp t (plain_layer layer)) shown
placed_in {most} sources base comp t layer shown area request fits same x_is y_is opacity moved drawn =
    let across : shown.x ≡ value_at sources.base layer.x.keys t = x_is ∙ ap (λ (n : ℕ). value_at n layer.x.keys t) same in
    let down : shown.y ≡ value_at sources.base layer.y.keys t = y_is ∙ ap (λ (n : ℕ). value_at n layer.y.keys t) same in
    let whole = take_map plain_fx layer.effects in
    record {
      fits = fits;
      opacity = opacity ∙ ap (λ (n : ℕ). unsigned_abs (value_at n layer.opacity.keys t)) same;
      points = λ x y has.
          drawn (x -ℤ shown.x) (y -ℤ shown.y) (moved x y has)
          ∙ ap (λ (effects : List PlainFx). (plane_behind sources comp (plain_layer layer) effects t).at (x -ℤ shown.x) (y -ℤ shown.y)) whole
          ∙ ap (λ (z : ℤ). (plane_behind sources comp (plain_layer layer) (plain_layer layer).effects t).at (x -ℤ z) (y -ℤ shown.y)) across
          ∙ ap (λ (z : ℤ). (plane_behind sources comp (plain_layer layer) (plain_layer layer).effects t).at (x -ℤ value_at sources.base layer.x.keys t) (y -ℤ z)) down;
    }

pub layer_is : {most : ℕ} (area : Rect) (sources : Sources) (t : ℤ) (comp : PlainComp) (i : ℕ) (layer : Layer) (shown : Shown most) (over : Option (Shown most)) → IsShownOn area (plane_in sources comp t (plain_layer layer)) shown
    → IsOfMatte area sources t comp i (plain_layer layer) over → IsOfLayer {most = most} area sources t comp i (plain_layer layer) (record { layer = shown; mode = layer.mode; matte = layer.matte; over = over })
layer_is {most} area sources t comp i layer shown over is matte = record {
  fits = record { layer = is.fits; over = matte.fits };
  mode = refl;
  points = λ x y has.
      ap (λ (p : Argb). scale_of (matted most layer.matte p (pixel_at (plane_placed shown) x y)) shown.opacity) (matte.points x y has)
      ∙ ap (λ (p : Argb). scale_of (matted most layer.matte (matte_at (matte_plane sources comp t i (plain_layer layer)) x y) p) shown.opacity) (is.points x y has)
      ∙ ap (λ (n : ℕ). scale_of (matted most layer.matte (matte_at (matte_plane sources comp t i (plain_layer layer)) x y) (pixel_at (plane_in sources comp t (plain_layer layer)) x y)) n) is.opacity;
}

-- it makes the same step
pub step_on : {most : ℕ} (area : Rect) (sources : Sources) (t : ℤ) (comp : PlainComp) (i : ℕ) (layer : PlainLayer) (placed : Placed most) (x y : ℤ) (below : Argb) → IsOfLayer {most = most} area sources t comp i layer placed → Has area x y
    → step most (layer_of placed) x y below ≡ step most (placed_of sources comp t i layer) x y below
step_on {most} area sources t comp i layer placed x y below is has =
    ap (λ (p : Argb). blend_of most placed.mode p below) (is.points x y has)
    ∙ ap (λ (m : Mode). blend_of most m (source_at most (placed_of sources comp t i layer) x y) below) is.mode

pub one_placed : {most : ℕ} (placed : Placed most) → IsPlaced placed → All (IsPlaced {most = most}) (placed ∷ [])
one_placed {most} placed fits = All-push (IsPlaced {most = most}) [] placed (All-nil (IsPlaced {most = most})) fits

-- ---- mattes

above_here : (comp : Comp) (i : ℕ) (above : Layer) → 1 ≤ i → slice_get comp.layers (i - 1) ≡ Some above → layer_above (plain_comp comp) i ≡ Some (plain_layer above)
above_here comp zero above some found = absurd (omega (arith, some))
above_here comp (suc i) above some found =
    let one : suc i - 1 ≡ i = omega arith in
    slice_get-map plain_layer comp.layers i ∙ ap (option_map plain_layer) (ap (slice_get comp.layers) (sym one) ∙ found)

-- what its matte is taken from is not there
none_is : {most : ℕ} (area : Rect) (sources : Sources) (t : ℤ) (comp : PlainComp) (i : ℕ) (layer : PlainLayer) → matte_plane sources comp t i layer ≡ None → IsOfMatte {most = most} area sources t comp i layer None
none_is area sources t comp i layer none = record { fits = tt; points = λ x y inside. sym (ap (λ (o : Option PlacedPlane). matte_at o x y) none) }

-- the layer has none, or nothing stands above it
pub no_matte : {most : ℕ} (area : Rect) (sources : Sources) (t : ℤ) (comp : PlainComp) (i : ℕ) (layer : PlainLayer) (has : Bool) → has ≡ has_matte layer → has ≡ false → IsOfMatte {most = most} area sources t comp i layer None
no_matte area sources t comp i layer has is e = none_is area sources t comp i layer (ap (λ (b : Bool). if b then seen_plane sources comp t (layer_above comp i) else None) (sym is ∙ e))

pub no_layer_above : {most : ℕ} (area : Rect) (sources : Sources) (t : ℤ) (comp : PlainComp) (i : ℕ) (layer : PlainLayer) → i ≡ 0 → IsOfMatte {most = most} area sources t comp i layer None
no_layer_above area sources t comp i layer e = none_is area sources t comp i layer (ap (λ (k : ℕ). if has_matte layer then seen_plane sources comp t (layer_above comp k) else None) e ∙ by (has_matte layer))
  where
    by : (b : Bool) → (if b then seen_plane sources comp t (layer_above comp 0) else None) ≡ None
    by true = refl
    by false = refl

-- the layer above is not seen, or it is
pub unseen_matte : {most : ℕ} (area : Rect) (sources : Sources) (base : ℕ) (t : ℤ) (comp : Comp) (i : ℕ) (layer : PlainLayer) (above : Layer) (seen : Bool) → 1 ≤ i → slice_get comp.layers (i - 1) ≡ Some above → base ≡ sources.base
    → seen ≡ is_seen base (plain_comp comp) t (plain_layer above) → seen ≡ false → IsOfMatte {most = most} area sources t (plain_comp comp) i layer None
unseen_matte area sources base t comp i layer above seen some found same is e =
    none_is area sources t (plain_comp comp) i layer
    (ap (λ (o : Option PlainLayer). if has_matte layer then seen_plane sources (plain_comp comp) t o else None) (above_here comp i above some found)
    ∙ ap (λ (b : Bool). if has_matte layer then (if b then Some (plane_in sources (plain_comp comp) t (plain_layer above)) else None) else None) (seen_in sources base (plain_comp comp) t (plain_layer above) seen false same is e)
    ∙ by (has_matte layer))
  where
    by : (b : Bool) → (if b then (if false then Some (plane_in sources (plain_comp comp) t (plain_layer above)) else None) else None) ≡ None
    by true = refl
    by false = refl

pub seen_matte : {most : ℕ} (area : Rect) (sources : Sources) (base : ℕ) (t : ℤ) (comp : Comp) (i : ℕ) (layer : PlainLayer) (above : Layer) (seen has : Bool) (shown : Shown most) → 1 ≤ i → slice_get comp.layers (i - 1) ≡ Some above → base ≡ sources.base
    → seen ≡ is_seen base (plain_comp comp) t (plain_layer above) → seen ≡ true → has ≡ has_matte layer → has ≡ true → IsShownOn area (plane_in sources (plain_comp comp) t (plain_layer above)) shown
    → IsOfMatte {most = most} area sources t (plain_comp comp) i layer (Some shown)
seen_matte {most} area sources base t comp i layer above seen has shown some found same is e is' e' drawn =
    let there : matte_plane sources (plain_comp comp) t i layer ≡ Some (plane_in sources (plain_comp comp) t (plain_layer above)) =
    ap (λ (o : Option PlainLayer). if has_matte layer then seen_plane sources (plain_comp comp) t o else None) (above_here comp i above some found)
    ∙ ap (λ (b : Bool). if has_matte layer then (if b then Some (plane_in sources (plain_comp comp) t (plain_layer above)) else None) else None) (seen_in sources base (plain_comp comp) t (plain_layer above) seen true same is e)
    ∙ ap (λ (b : Bool). if b then Some (plane_in sources (plain_comp comp) t (plain_layer above)) else None) (sym is' ∙ e') in
    record {
      fits = drawn.fits;
      points = λ x y inside.
          ap (λ (p : Argb). scale_of p shown.opacity) (drawn.points x y inside)
          ∙ ap (λ (n : ℕ). scale_of (pixel_at (plane_in sources (plain_comp comp) t (plain_layer above)) x y) n) drawn.opacity
          ∙ sym (ap (λ (o : Option PlacedPlane). matte_at o x y) there);
    }

drop_all : {A : Type 0} (xs : List A) (k : ℕ) → length xs ≤ k → drop k xs ≡ []
drop_all [] zero few = refl
drop_all [] (suc k) few = refl
drop_all (x ∷ xs) zero few = absurd (omega (arith, few))
drop_all (x ∷ xs) (suc k) few = drop_all xs k (omega (arith, few))

-- no layer is drawn yet
pub none_drawn : (most : ℕ) (sources : Sources) (comp : Comp) (t : ℤ) (n : ℕ) (x y : ℤ) → n ≡ length comp.layers → stack_over most (placed_layers sources (plain_comp comp) t (n - 0) (drop (n - 0) (plain_comp comp).layers)) x y clear ≡ clear
none_drawn most sources comp t n x y long =
    ap (λ (ls : List PlainLayer). stack_over most (placed_layers sources (plain_comp comp) t (n - 0) ls) x y clear) (drop_all (map plain_layer comp.layers) (n - 0) (omega (arith, long, length-map comp.layers plain_layer)))

-- one layer more is drawn
pub draw_step : (most : ℕ) (sources : Sources) (comp : Comp) (t : ℤ) (count done i : ℕ) (old new : Picture) (frame : Rect) → i ≡ count - 1 - done → done < count → count ≡ length comp.layers → old.part ≡ frame
    → ((x y : ℤ) → Has frame x y → at old x y ≡ stack_over most (placed_layers sources (plain_comp comp) t (count - done) (drop (count - done) (map plain_layer comp.layers))) x y clear)
    → ((layer : Layer) → slice_get comp.layers i ≡ Some layer → (x y : ℤ) → Has old.part x y → at new x y ≡ stack_over most (brought sources (plain_comp comp) t i (plain_layer layer)) x y (at old x y))
    → (x y : ℤ) → Has frame x y → at new x y ≡ stack_over most (placed_layers sources (plain_comp comp) t (count - (done + 1)) (drop (count - (done + 1)) (map plain_layer comp.layers))) x y clear
draw_step most sources comp t count done i old new frame is within long part before drawn x y h =
    let layers : List PlainLayer = map plain_layer comp.layers in
    let here : i < length comp.layers = omega (arith, is, within, long) in
    let found = there_is comp.layers i here in
    let layer : Layer = found.0 in
    let plain : slice_get layers i ≡ Some (plain_layer layer) = slice_get-map plain_layer comp.layers i ∙ ap (option_map plain_layer) found.1 in
    let one : count - done ≡ i + 1 = omega (arith, is, within) in
    let two : count - (done + 1) ≡ i = omega (arith, is, within) in
    drawn layer found.1 x y (subst (λ (r : Rect). Has r x y) (sym part) h)
    ∙ ap (stack_over most (brought sources (plain_comp comp) t i (plain_layer layer)) x y)
    (before x y h ∙ ap (λ (k : ℕ). stack_over most (placed_layers sources (plain_comp comp) t k (drop k layers)) x y clear) one)
    ∙ sym (one_more most sources (plain_comp comp) t i (plain_layer layer) x y plain)
    ∙ ap (λ (k : ℕ). stack_over most (placed_layers sources (plain_comp comp) t k (drop k layers)) x y clear) (sym two)

-- ---- what a composition shows

comp_is : (scene : PlainScene) (index : ℕ) (comp : PlainComp) (t x y : ℤ) → IsAcyclic scene.project → slice_get scene.project.comps index ≡ Some comp
    → shown scene index t x y
    ≡ (if int_le (pos 0) t && int_lt t (end_of_comp (base_in scene.project) comp) && has (frame_rect comp.width comp.height) x y
    then stack_at (most_in scene) (placed_layers (drawn_from scene) comp t 0 comp.layers) x y else clear)
comp_is scene index comp t x y acyclic found =
    shown_fixed scene index t x y acyclic
    ∙ ap (λ (o : Option PlainComp). comp_shown (most_in scene) (drawn_from scene) o t x y) found

plane_by : (scene : PlainScene) (index : ℕ) (comp : PlainComp) (t : ℤ) (world : Picture) → slice_get scene.project.comps index ≡ Some comp → world.extent ≡ frame_rect comp.width comp.height → ((x y : ℤ) → at world x y ≡ shown scene index t x y)
    → plane_of world ≡ comp_plane (shown scene) index (slice_get scene.project.comps index) t
plane_by scene index comp t world found extent points =
    ap (λ (e : Rect). let r : Plane = record { extent = e; at = at world } in r) extent
    ∙ ap (λ (f : ℤ → ℤ → Argb). let r : Plane = record { extent = frame_rect comp.width comp.height; at = f } in r) (λ i x y. points x y i)
    ∙ sym (ap (λ (o : Option PlainComp). comp_plane (shown scene) index o t) found)

end_in : (scene : PlainScene) (base : ℕ) (comp : PlainComp) (t : ℤ) (test b : Bool) → base ≡ base_in scene.project → test ≡ (int_le (pos 0) t && int_lt t (end_of_comp base comp)) → test ≡ b
    → (int_le (pos 0) t && int_lt t (end_of_comp (base_in scene.project) comp)) ≡ b
end_in scene base comp t test b same is e = sym (is ∙ ap (λ (n : ℕ). int_le (pos 0) t && int_lt t (end_of_comp n comp)) same) ∙ e

-- before and after its time it is transparent
pub out_of_time : (scene : PlainScene) (index base : ℕ) (comp : PlainComp) (t : ℤ) (test : Bool) (world : Picture) → IsAcyclic scene.project → slice_get scene.project.comps index ≡ Some comp → base ≡ base_in scene.project
    → test ≡ (int_le (pos 0) t && int_lt t (end_of_comp base comp)) → test ≡ false → world.extent ≡ frame_rect comp.width comp.height → ((x y : ℤ) → at world x y ≡ clear)
    → plane_of world ≡ comp_plane (shown scene) index (slice_get scene.project.comps index) t
out_of_time scene index base comp t test world acyclic found same is e extent blank =
    plane_by scene index comp t world found extent
    (λ x y.
    blank x y
    ∙ sym (comp_is scene index comp t x y acyclic found
    ∙ ap (λ (b : Bool). if b && has (frame_rect comp.width comp.height) x y then stack_at (most_in scene) (placed_layers (drawn_from scene) comp t 0 comp.layers) x y else clear) (end_in scene base comp t test false same is e)))

-- it shows nothing outside its frame
pub comp_beyond : (scene : PlainScene) (index : ℕ) (comp : PlainComp) (t x y : ℤ) → IsAcyclic scene.project → slice_get scene.project.comps index ≡ Some comp → ¬ Has (frame_rect comp.width comp.height) x y → shown scene index t x y ≡ clear
comp_beyond scene index comp t x y acyclic found none =
    comp_is scene index comp t x y acyclic found ∙ by (int_le (pos 0) t && int_lt t (end_of_comp (base_in scene.project) comp)) (has (frame_rect comp.width comp.height) x y) refl
  where
    by : (b c : Bool) → has (frame_rect comp.width comp.height) x y ≡ c → (if b && c then stack_at (most_in scene) (placed_layers (drawn_from scene) comp t 0 comp.layers) x y else clear) ≡ clear
    by b true e = absurd (none (Has-from_true (frame_rect comp.width comp.height) x y e))
    by true false e = refl
    by false false e = refl

-- within its time it shows its layers
pub in_time : (scene : PlainScene) (index base most : ℕ) (comp : PlainComp) (t : ℤ) (test : Bool) (world : Picture) (request : Rect) → IsAcyclic scene.project → slice_get scene.project.comps index ≡ Some comp → base ≡ base_in scene.project → most ≡ most_in scene
    → test ≡ (int_le (pos 0) t && int_lt t (end_of_comp base comp)) → test ≡ true → world.extent ≡ frame_rect comp.width comp.height → world.part ≡ area_in (frame_rect comp.width comp.height) request
    → ((x y : ℤ) → Has (area_in (frame_rect comp.width comp.height) request) x y → at world x y ≡ stack_over most (placed_layers (drawn_from scene) comp t 0 comp.layers) x y clear)
    → StandsFor request (comp_plane (shown scene) index (slice_get scene.project.comps index) t) world
in_time scene index base most comp t test world request acyclic found same depth is e extent part points =
    subst (λ (o : Option PlainComp). StandsFor request (comp_plane (shown scene) index o t) world) (sym found)
    (stands_in request frame (comp_plane (shown scene) index (Some comp) t) world extent part refl (λ x y none. comp_beyond scene index comp t x y acyclic found none)
    (λ x y inside.
    points x y inside
    ∙ ap (λ (m : ℕ). stack_over m (placed_layers (drawn_from scene) comp t 0 comp.layers) x y clear) depth
    ∙ sym (comp_is scene index comp t x y acyclic found
    ∙ ap (λ (b : Bool). if b && has frame x y then stack_at (most_in scene) (placed_layers (drawn_from scene) comp t 0 comp.layers) x y else clear) (end_in scene base comp t test true same is e)
    ∙ ap (λ (b : Bool). if b then stack_at (most_in scene) (placed_layers (drawn_from scene) comp t 0 comp.layers) x y else clear) (has-true frame x y (area_inside frame request x y inside)))))
  where
    frame : Rect
    frame = frame_rect comp.width comp.height

-- over its whole frame it is its plane
pub comp_whole : {E : Type 0} (scene : PlainScene) (index : ℕ) (comp : PlainComp) (t : ℤ) (request : Rect) (made : Result Picture E) → IsAcyclic scene.project → slice_get scene.project.comps index ≡ Some comp → request ≡ frame_rect comp.width comp.height
    → IfOk made (λ w. w.part ≡ area_in w.extent request) → IfOk made (StandsFor request (comp_plane (shown scene) index (slice_get scene.project.comps index) t))
    → IfOk made (λ w. plane_of w ≡ comp_plane (shown scene) index (slice_get scene.project.comps index) t)
comp_whole scene index comp t request (Err e) acyclic found all part is = tt
comp_whole scene index comp t request (Ok world) acyclic found all part is =
    subst (λ (o : Option PlainComp). plane_of world ≡ comp_plane (shown scene) index o t) (sym found)
    (whole_is request (frame_rect comp.width comp.height) (comp_plane (shown scene) index (Some comp) t) world all part refl (λ x y none. comp_beyond scene index comp t x y acyclic found none)
    (subst (λ (o : Option PlainComp). StandsFor request (comp_plane (shown scene) index o t) world) found is))

pub whole_part : {E : Type 0} (scene : PlainScene) (index : ℕ) (comp : PlainComp) (t : ℤ) (request : Rect) (made : Result Picture E) → slice_get scene.project.comps index ≡ Some comp → request ≡ frame_rect comp.width comp.height
    → 1 ≤ comp.width → 1 ≤ comp.height → IfOk made (λ w. w.part ≡ area_in w.extent request) → IfOk made (StandsFor request (comp_plane (shown scene) index (slice_get scene.project.comps index) t)) → IfOk made (λ w. w.part ≡ w.extent)
whole_part scene index comp t request (Err e) found all wide high part is = tt
whole_part scene index comp t request (Ok world) found all wide high part is =
    let extent : world.extent ≡ frame_rect comp.width comp.height = is.extent ∙ ap (λ (o : Option PlainComp). (comp_plane (shown scene) index o t).extent) found in
    part ∙ ap (λ (r : Rect). area_in r request) extent ∙ ap (area_in (frame_rect comp.width comp.height)) all ∙ whole_area comp.width comp.height wide high ∙ sym extent
