-- Whole pictures, and the planes that they show.
use Rattle.std.proofs.Common.{◌≡◌, ℕ, zero, suc, ◌+◌, ◌-◌, ◌*◌, ◌<◌, ◌≤◌, ℤ, pos, ◌+ℤ◌, ◌-ℤ◌, ◌≤ℤ◌, Bool, true, false, List, length, map, get_or, refl, sym, ap, ap₂, subst, ◌∙◌, arith}
use Rattle.std.specs.Prelude.{Option, Some, None, Result, Ok, Err, IfOk, flat_map, if◌then◌else◌, nat_le, nat_lt, nat_eq, ◌&&◌}
use Rattle.std.specs.List.{range_with_len}
use Rattle.std.proofs.lemmas.Bool.{le-leb}
use Rattle.std.proofs.lemmas.Int.{ints}
use Rattle.std.proofs.lemmas.List.{get_or_append_left, get_or-append_right, length-append}
use Rattle.std.proofs.lemmas.List.FromFn.{length-map-range_with_len, get_or-map-range_with_len}
use Rattle.geom_rect.specs.declared.rect.Rect.{Rect}
use Rattle.geom_rect.specs.Rect.{Has, has, area_of, count_between, positive_part, width_of}
use Rattle.geom_rect.proofs.Points.{Has-from_true, has-true}
use Rattle.argb_pixel.specs.Pixel.{Argb, clear}
use Rattle.argb_world.specs.Picture.{Picture, IsPicture, at, greatest_part}
use Rattle.argb_world.proofs.Places.{below, positive_part_is}
use Rattle.argb_world.proofs.Points.{points_tell}
use Rattle.argb_world.proofs.Rows.{at_beyond, at_inside, at_outside}
use Rattle.comp_stack.specs.Stack.{Plane}
use Rattle.comp_stack.specs.Layers.{plane_of}
use Rattle.effect_api.specs.Checked.{value_world, value_sums, IsPlaneValue, IsSumsValue}
use Rattle.effect_api.specs.Sets.{EffectSet, Drawing}
use Rattle.effect_api.specs.declared.checkouts.Value.{Value}
use Rattle.effect_api.specs.declared.checkouts.Value.TheVariants as value
use Rattle.scene_meaning.specs.Right.{value_of, whole_of}
use Rattle.scene_meaning.specs.Sizes.{chosen}
use Rattle.scene_cache.specs.Wholes.{KeptPlanesShow, KeptSumsAre}

-- ---- a grid of rows

module _ {A : Type 0} (f : ℕ → ℕ → A) (w : ℕ) where
  -- so many rows from one on, of w items each
  abbrev grid : ℕ → ℕ → List A
  grid a h = flat_map (λ y. map (λ x. f x y) (range_with_len 0 w)) (range_with_len a h)

  row_long : (y : ℕ) → length (map (λ x. f x y) (range_with_len 0 w)) ≡ w
  row_long y = length-map-range_with_len (λ x. f x y) 0 w

  grid_long : (a h : ℕ) → length (grid a h) ≡ w * h
  grid_long a zero = omega arith
  grid_long a (suc h) = omega (arith, length-append (map (λ x. f x a) (range_with_len 0 w)) (grid (a + 1) h), row_long a, grid_long (a + 1) h)

  -- what stands in a row and a column
  grid_at : (a h row column : ℕ) (d : A) → row < h → column < w → get_or (grid a h) (row * w + column) d ≡ f column (a + row)
  grid_at a zero row column d low left = absurd (omega (arith, low))
  grid_at a (suc h) zero column d low left =
      let place : 0 * w + column ≡ column = omega arith in
      let here : a + 0 ≡ a = omega arith in
      let within : column < length (map (λ x. f x a) (range_with_len 0 w)) = omega (arith, row_long a, left) in
      ap (λ i. get_or (grid a (suc h)) i d) place
      ∙ get_or_append_left (map (λ x. f x a) (range_with_len 0 w)) (grid (a + 1) h) d column within
      ∙ get_or-map-range_with_len (λ x. f x a) 0 w column column d left (omega arith)
      ∙ ap (f column) (sym here)
  grid_at a (suc h) (suc row) column d low left =
      let place : suc row * w + column - w ≡ row * w + column = omega arith in
      let under : row < h = omega (arith, low) in
      let next : a + 1 + row ≡ a + suc row = omega arith in
      get_or-append_right (map (λ x. f x a) (range_with_len 0 w)) (grid (a + 1) h) w (suc row * w + column) d (row_long a) (omega arith)
      ∙ ap (λ i. get_or (grid (a + 1) h) i d) place
      ∙ grid_at (a + 1) h row column d under left
      ∙ ap (f column) next

-- ---- whole pictures

abbrev points_of : Plane → ℕ → ℕ → Argb
points_of plane x y = plane.at (plane.extent.left +ℤ pos x) (plane.extent.top +ℤ pos y)

-- the number that is so far from one
back : (low x : ℤ) → pos 0 ≤ℤ (x -ℤ low) → (low +ℤ pos (positive_part (x -ℤ low))) ≡ x
back low x above = omega (arith, ints, positive_part_is (x -ℤ low) above)

-- inside its extent a whole picture shows the plane
whole_inside : (plane : Plane) (x y : ℤ) → Has plane.extent x y → at (whole_of plane) x y ≡ plane.at x y
whole_inside plane x y h =
    let rect : Rect = plane.extent in
    let column : ℕ = positive_part (x -ℤ rect.left) in
    let row : ℕ = positive_part (y -ℤ rect.top) in
    at_inside rect rect (whole_of plane).pixels x y h
    ∙ grid_at (points_of plane) (width_of rect) 0 (count_between rect.top rect.bottom) row column clear (below rect.top rect.bottom y h.2 h.3) (below rect.left rect.right x h.0 h.1)
    ∙ ap (λ (n : ℕ). plane.at (rect.left +ℤ pos column) (rect.top +ℤ pos n)) (let e : 0 + row ≡ row = omega arith in e)
    ∙ ap₂ (λ (u v : ℤ). plane.at u v) (back rect.left x (omega (arith, ints, h.0))) (back rect.top y (omega (arith, ints, h.2)))

whole_long : (plane : Plane) → length (whole_of plane).pixels ≡ area_of plane.extent
whole_long plane = grid_long (points_of plane) (width_of plane.extent) 0 (count_between plane.extent.top plane.extent.bottom)

-- a plane that is clear outside its extent is what its whole picture shows
whole_shows : (plane : Plane) → ((x y : ℤ) → ¬ Has plane.extent x y → plane.at x y ≡ clear) → (x y : ℤ) → at (whole_of plane) x y ≡ plane.at x y
whole_shows plane outside x y = by (has plane.extent x y) refl
  where
    by : (b : Bool) → has plane.extent x y ≡ b → at (whole_of plane) x y ≡ plane.at x y
    by true is = whole_inside plane x y (Has-from_true plane.extent x y is)
    by false is =
        at_outside plane.extent plane.extent (whole_of plane).pixels x y is
        ∙ sym (outside x y (λ h. let yes : has plane.extent x y ≡ true = has-true plane.extent x y h in cc))

-- a plane is its extent and what is at each point
abbrev shown : Rect → (ℤ → ℤ → Argb) → Plane
shown extent f = record { extent = extent; at = f }

whole_plane : (plane : Plane) → ((x y : ℤ) → ¬ Has plane.extent x y → plane.at x y ≡ clear) → plane_of (whole_of plane) ≡ plane
whole_plane plane outside =
    ap (λ (f : ℤ → ℤ → Argb). shown plane.extent f) (λ i x y. whole_shows plane outside x y i)

-- a picture all of which is there is that of its plane
world_outside : (world : Picture) → world.part ≡ world.extent → (x y : ℤ) → ¬ Has world.extent x y → at world x y ≡ clear
world_outside world whole x y none = at_beyond world.extent world.part world.pixels x y (λ h. none (subst (λ (r : Rect). Has r x y) whole h))

world_is : (world : Picture) → IsPicture world → world.part ≡ world.extent → whole_of (plane_of world) ≡ world
world_is world is whole =
    points_tell world (whole_of (plane_of world)) is
    record {
      inside = λ x y h. h;
      bound = subst (λ (r : Rect). area_of r ≤ greatest_part) whole is.bound;
      filled = whole_long (plane_of world);
    }
    (refl, sym whole)
    (whole_shows (plane_of world) (world_outside world whole))

-- ---- values

-- a value where a test holds
abbrev plane_if : (most : ℕ) → Bool → Picture → Option (Value most)
plane_if most b world = if b then Some (value.Plane world) else None

plane_value : {most : ℕ} (set : EffectSet) (drawing : Drawing) (world : Picture) (v : Value most) → IsPicture world → world.part ≡ world.extent → v ≡ value.Plane world
    → value_of set drawing 0 0 (plane_of world) ≡ Some v
plane_value {most} set drawing world v is whole made =
    let few : area_of world.extent ≤ greatest_part = subst (λ (r : Rect). area_of r ≤ greatest_part) whole is.bound in
    ap (λ (b : Bool). plane_if most b (whole_of (plane_of world))) (le-leb (area_of world.extent) greatest_part few)
    ∙ ap (plane_if most true) (world_is world is whole)
    ∙ ap (λ (u : Value most). Some u) (sym made)

-- what was made of it, if anything
pub plane_made : {most : ℕ} {E : Type 0} (set : EffectSet) (drawing : Drawing) (world : Picture) (result : Result (Value most) E) → IsPicture world → world.part ≡ world.extent
    → IfOk result (λ v. v ≡ value.Plane world) → IfOk result (λ v. value_of set drawing 0 0 (plane_of world) ≡ Some v)
plane_made set drawing world (Ok v) is whole made = plane_value set drawing world v is whole made
plane_made set drawing world (Err e) is whole made = tt

pub planes_show : KeptPlanesShow
planes_show most set drawing plane v is kept =
    let found = chosen (nat_eq 0 0 && nat_le (area_of plane.extent) greatest_part) (value.Plane (whole_of plane)) v kept in
    subst (λ (u : Value most). IsPlaneValue u × (plane_of (value_world u) ≡ plane) × ((value_world u).part ≡ (value_world u).extent)) found.1
    (tt, whole_plane plane is.outside, refl)

pub sums_are : KeptSumsAre
sums_are most set drawing zero ask plane v some kept = absurd (omega (arith, some))
sums_are most set drawing (suc index) ask plane v some kept =
    let found = chosen (nat_lt index (length set.class_names)) (value.Sums (drawing.sums_of (suc index) ask plane)) v kept in
    subst (λ (u : Value most). IsSumsValue u × (value_sums u ≡ drawing.sums_of (suc index) ask plane)) found.1 (tt, refl)
