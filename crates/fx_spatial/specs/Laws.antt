-- The laws of the spatial effects. Their kind is given apart from the use, for sets that number them anew.
use Rattle.std.specs.Prelude.{unsigned_abs}
use Rattle.std.proofs.Common.{◌≡◌, ℕ, ◌*◌, ◌<◌, ◌≤◌, ℤ, pos, negsuc, neg_ℤ, ◌+ℤ◌, ◌-ℤ◌, ◌≤ℤ◌, Bool, true, false, List, [], ◌∷◌, length, if◌then◌else◌, refl, ap, ap₂, sym, subst, ◌∙◌, arith}
use Rattle.std.proofs.lemmas.Int.{ints}
use Rattle.std.proofs.lemmas.List.Elements.{All-nil, All-cons}
use Rattle.std.proofs.Math.Nat.{le-max_left, le-max_right}
use Rattle.geom_rect.specs.declared.rect.Rect.{Rect}
use Rattle.geom_rect.specs.Rect.{Has, HasNear, has, positive_part, count_between, width_of, origin, IsWithin, shift_of, grow_of}
use Rattle.geom_rect.proofs.Points.{Has-from_true, Has-grow_of}
use Rattle.argb_pixel.specs.Depth.{IsDepth}
use Rattle.argb_pixel.specs.Pixel.{Argb, IsPremultiplied, clear, rounded}
use Rattle.argb_pixel.proofs.Rounded.{rounded_part_le}
use Rattle.argb_pixel.proofs.Channels.{clear_premultiplied, same_argb, depth_pos}
use Rattle.comp_stack.specs.Stack.{Plane}
use Rattle.transfer_mode.specs.declared.mode.Mode.TheVariants.{Normal}
use Rattle.transfer_mode.specs.Transfer.{blend_of}
use Rattle.transfer_mode.proofs.Rules.{blend_premultiplied, transparent_leaves}
use Rattle.project_model.specs.Effects.{Use, AreSchemas}
use Rattle.effect_api.specs.declared.moment.Moment.{Moment}
use Rattle.effect_api.specs.Fits.{IsHeld, FitsSchema}
use Rattle.effect_api.specs.Planes.{IsPlane, HasSides, AgreeOn, plane_at, extent_at, extents_of, cover_all}
use Rattle.effect_api.specs.Wants.{IsWant, AreWants, IsBounds}
use Rattle.effect_api.specs.Effects.{IsInput, IsDrawing, IsLocal}
use Rattle.effect_api.specs.Laws.{schemas_from_test, part_within, own_wants_are, extent_of_plane}
use Rattle.fx_color.specs.Color.{amount_of, number_of}
use Rattle.fx_color.specs.Laws.{number_within}
use Rattle.fx_blur.specs.Laws.{blur_drawing, blur_local, mosaic_drawing, mosaic_local}
use Rattle.fx_spatial.specs.declared.kind.SpatialKind.{SpatialKind}
use Rattle.fx_spatial.specs.declared.kind.SpatialKind.TheVariants.{Offset, BoxBlur, Mosaic, DropShadow, Displace}
use Rattle.fx_spatial.specs.Offset.{wrapped, offset_at}
use Rattle.fx_spatial.specs.Shadow.{shadow_of, shadowed_at, shadow_bounds, shadow_need}
use Rattle.fx_spatial.specs.Displace.{moved, displaced_at, reach_of, displace_need}
use Rattle.fx_spatial.specs.Spatial.{spatial_schema, spatial_schemas, spatial_wants, want_now, bounds_over, spatial_bounds, need_over, spatial_need, cast_by, spatial_draws, offset_schema, blur_schema, mosaic_schema, shadow_schema, displace_schema}
use Rattle.fx_spatial.specs.Near.{IsFar, IsShare, cover_first, cover_second, cover_none, grow_none, near_itself, near_grown, near_moved}
use Rattle.fx_spatial.specs.Moved.{within_abs, moved_within, wrapped_within}

pub spatial_schemas_are : AreSchemas spatial_schemas
spatial_schemas_are = schemas_from_test spatial_schemas refl

pub spatial_wants_are : (kind : SpatialKind) (at : Moment) → IsHeld at.base.ticks at.tick.0 → AreWants (spatial_schema kind).layers at.base.ticks (spatial_wants kind at)
spatial_wants_are Offset at held = own_wants_are 0 at held
spatial_wants_are BoxBlur at held = own_wants_are 0 at held
spatial_wants_are Mosaic at held = own_wants_are 0 at held
spatial_wants_are DropShadow at held = own_wants_are 0 at held
spatial_wants_are Displace at held = record {
  few = omega arith;
  each = All-cons (IsWant 1 at.base.ticks) (want_now 0 at) (want_now 1 at ∷ []) record { input_is = omega arith; held = held }
      (All-cons (IsWant 1 at.base.ticks) (want_now 1 at) [] record { input_is = omega arith; held = held } (All-nil _));
}

-- ---- parameters in their ranges

part_some : (z : ℤ) → pos 1 ≤ℤ z → 0 < positive_part z
part_some (pos n) h = omega (arith, ints, h)
part_some (negsuc n) h = absurd (omega (arith, ints, h))

pub radius_within : (fx : Use) (at : Moment) → FitsSchema blur_schema fx → amount_of fx 0 at ≤ 128
radius_within fx at fits = part_within (number_of fx 0 at) 128 (number_within blur_schema fx at 0 fits).1

pub size_some : (fx : Use) (at : Moment) → FitsSchema mosaic_schema fx → 0 < amount_of fx 0 at
size_some fx at fits = part_some (number_of fx 0 at) (number_within mosaic_schema fx at 0 fits).0

pub size_within : (fx : Use) (at : Moment) → FitsSchema mosaic_schema fx → amount_of fx 0 at ≤ 1024
size_within fx at fits = part_within (number_of fx 0 at) 1024 (number_within mosaic_schema fx at 0 fits).1

-- the same as ranges of numbers
pub radius_range : (fx : Use) (at : Moment) → FitsSchema blur_schema fx → (pos 0 ≤ℤ number_of fx 0 at) × (number_of fx 0 at ≤ℤ pos 128)
radius_range fx at fits = let h = number_within blur_schema fx at 0 fits in (omega (arith, ints, h.0), omega (arith, ints, h.1))

pub size_range : (fx : Use) (at : Moment) → FitsSchema mosaic_schema fx → (pos 1 ≤ℤ number_of fx 0 at) × (number_of fx 0 at ≤ℤ pos 1024)
size_range fx at fits = let h = number_within mosaic_schema fx at 0 fits in (omega (arith, ints, h.0), omega (arith, ints, h.1))

pub offset_right : (fx : Use) (at : Moment) → FitsSchema offset_schema fx → IsFar 32768 (number_of fx 0 at)
offset_right fx at fits = let h = number_within offset_schema fx at 0 fits in (omega (arith, ints, h.0), omega (arith, ints, h.1))

pub offset_down : (fx : Use) (at : Moment) → FitsSchema offset_schema fx → IsFar 32768 (number_of fx 1 at)
offset_down fx at fits = let h = number_within offset_schema fx at 1 fits in (omega (arith, ints, h.0), omega (arith, ints, h.1))

pub displace_right : (fx : Use) (at : Moment) → FitsSchema displace_schema fx → IsFar 1024 (number_of fx 0 at)
displace_right fx at fits = let h = number_within displace_schema fx at 0 fits in (omega (arith, ints, h.0), omega (arith, ints, h.1))

pub displace_down : (fx : Use) (at : Moment) → FitsSchema displace_schema fx → IsFar 1024 (number_of fx 1 at)
displace_down fx at fits = let h = number_within displace_schema fx at 1 fits in (omega (arith, ints, h.0), omega (arith, ints, h.1))

pub opacity_range : (fx : Use) (at : Moment) → FitsSchema shadow_schema fx → IsShare (number_of fx 2 at)
opacity_range fx at fits = let h = number_within shadow_schema fx at 2 fits in (omega (arith, ints, h.0), omega (arith, ints, h.1))

pub red_range : (fx : Use) (at : Moment) → FitsSchema shadow_schema fx → IsShare (number_of fx 3 at)
red_range fx at fits = let h = number_within shadow_schema fx at 3 fits in (omega (arith, ints, h.0), omega (arith, ints, h.1))

pub green_range : (fx : Use) (at : Moment) → FitsSchema shadow_schema fx → IsShare (number_of fx 4 at)
green_range fx at fits = let h = number_within shadow_schema fx at 4 fits in (omega (arith, ints, h.0), omega (arith, ints, h.1))

pub blue_range : (fx : Use) (at : Moment) → FitsSchema shadow_schema fx → IsShare (number_of fx 5 at)
blue_range fx at fits = let h = number_within shadow_schema fx at 5 fits in (omega (arith, ints, h.0), omega (arith, ints, h.1))

pub right_within : (fx : Use) (at : Moment) → FitsSchema shadow_schema fx → IsFar 1024 (number_of fx 0 at)
right_within fx at fits = let h = number_within shadow_schema fx at 0 fits in (omega (arith, ints, h.0), omega (arith, ints, h.1))

pub down_within : (fx : Use) (at : Moment) → FitsSchema shadow_schema fx → IsFar 1024 (number_of fx 1 at)
down_within fx at fits = let h = number_within shadow_schema fx at 1 fits in (omega (arith, ints, h.0), omega (arith, ints, h.1))

-- ---- bounds

first_within : (extents : List Rect) → 1 ≤ length extents → IsWithin (extent_at extents 0) (cover_all extents)
first_within [] some = absurd (omega (arith, some))
first_within (extent ∷ rest) some = cover_first extent (cover_all rest)

near_first : (extents : List Rect) (bounds : Rect) → 1 ≤ length extents → ((x y : ℤ) → Has bounds x y → HasNear (extent_at extents 0) (pos 1024) x y)
    → IsWithin bounds (grow_of (cover_all extents) (pos 1024))
near_first extents bounds some reach x y h =
    let near = reach x y h in
    (Has-grow_of (cover_all extents) (pos 1024) x y (omega (arith, ints))).1
    (near.0, near.1, first_within extents some near.0 near.1 near.2, near.3, near.4)

extent_bounds : (extents : List Rect) → 1 ≤ length extents → IsBounds extents (extent_at extents 0)
extent_bounds extents some = record {
  near = near_first extents (extent_at extents 0) some (near_itself (extent_at extents 0) 1024);
  empty = λ all _. all 0 origin some;
}

origin_near : HasSides origin
origin_near = record {
  left_near = (omega (arith, ints), omega (arith, ints));
  top_near = (omega (arith, ints), omega (arith, ints));
  right_near = (omega (arith, ints), omega (arith, ints));
  bottom_near = (omega (arith, ints), omega (arith, ints));
}

pub spatial_bounds_are : (kind : SpatialKind) (fx : Use) (at : Moment) (extents : List Rect) → FitsSchema (spatial_schema kind) fx
    → length extents ≡ length (spatial_wants kind at) → IsBounds extents (spatial_bounds kind fx at extents)
spatial_bounds_are Offset fx at extents fits count = extent_bounds extents (omega (arith, count))
spatial_bounds_are BoxBlur fx at extents fits count = record {
  near = near_first extents (spatial_bounds BoxBlur fx at extents) (omega (arith, count))
      (λ x y h. near_grown (extent_at extents 0) (amount_of fx 0 at) 1024 x y (omega (arith, radius_within fx at fits)) h);
  empty = λ all none. subst HasSides (sym (grow_none (extent_at extents 0) (amount_of fx 0 at) none)) (all 0 origin (omega (arith, count)));
}
spatial_bounds_are Mosaic fx at extents fits count = extent_bounds extents (omega (arith, count))
spatial_bounds_are DropShadow fx at extents fits count =
    let right = right_within fx at fits in
    let down = down_within fx at fits in
    record {
      near = near_first extents (spatial_bounds DropShadow fx at extents) (omega (arith, count))
          (λ x y h. near_moved (extent_at extents 0) (number_of fx 0 at) (number_of fx 1 at) 1024 x y right.0 right.1 down.0 down.1 h);
      empty = λ all none. subst HasSides (sym (cover_none (extent_at extents 0) (shift_of (extent_at extents 0) (number_of fx 0 at) (number_of fx 1 at)) none)) origin_near;
    }
spatial_bounds_are Displace fx at extents fits count = extent_bounds extents (omega (arith, count))

-- ---- pictures within the bounds

-- something inside an extent, and nothing outside
inside_drawing : (most : ℕ) (extent : Rect) (f : ℤ → ℤ → Argb) → ((x y : ℤ) → IsPremultiplied most (f x y))
    → IsDrawing most extent (λ x y. if has extent x y then f x y else clear)
inside_drawing most extent f pixels = record {
  pixels = λ x y. pixel x y (has extent x y);
  outside = λ x y none. away x y none (has extent x y) refl;
}
  where
    pixel : (x y : ℤ) (b : Bool) → IsPremultiplied most (if b then f x y else clear)
    pixel x y true = pixels x y
    pixel x y false = clear_premultiplied most

    away : (x y : ℤ) → ¬ Has extent x y → (b : Bool) → has extent x y ≡ b → (if b then f x y else clear) ≡ clear
    away x y none true e = absurd (none (Has-from_true extent x y e))
    away x y none false e = refl

-- what is cast is premultiplied, and nothing casts nothing
pub cast_keeps : (most opacity red green blue : ℕ) → opacity ≤ 10000 → red ≤ 10000 → green ≤ 10000 → blue ≤ 10000 → (q : Argb) → IsPremultiplied most q
    → IsPremultiplied most (shadow_of opacity red green blue q)
cast_keeps most opacity red green blue o r g b q is =
    let a : ℕ = rounded (q.a * opacity) 10000 in
    let part = rounded_part_le q.a opacity 10000 (omega arith) o in
    record {
      alpha = omega (arith, part, is.alpha);
      red = rounded_part_le a red 10000 (omega arith) r;
      green = rounded_part_le a green 10000 (omega arith) g;
      blue = rounded_part_le a blue 10000 (omega arith) b;
    }

none_of_none : (n : ℕ) → n ≤ 0 → n ≡ 0
none_of_none n h = omega (arith, h)

pub cast_clear : (opacity red green blue : ℕ) → opacity ≤ 10000 → red ≤ 10000 → green ≤ 10000 → blue ≤ 10000 → shadow_of opacity red green blue clear ≡ clear
cast_clear opacity red green blue o r g b =
    let is = cast_keeps 0 opacity red green blue o r g b clear (clear_premultiplied 0) in
    let none = none_of_none (rounded (0 * opacity) 10000) is.alpha in
    same_argb _ 0 _ 0 _ 0 _ 0 none (none_of_none _ (omega (arith, none, is.red))) (none_of_none _ (omega (arith, none, is.green))) (none_of_none _ (omega (arith, none, is.blue)))

shadow_drawing : (most : ℕ) (dx dy : ℤ) (cast : Argb → Argb) (plane : Plane) → IsDepth most → IsPlane most plane
    → ((q : Argb) → IsPremultiplied most q → IsPremultiplied most (cast q)) → cast clear ≡ clear
    → IsDrawing most (shadow_bounds dx dy plane.extent) (shadowed_at most dx dy cast plane)
shadow_drawing most dx dy cast plane depth is keeps none = record {
  pixels = λ x y. blend_premultiplied most Normal (plane.at x y) (cast (plane.at (x -ℤ dx) (y -ℤ dy))) depth (is.pixels x y) (keeps _ (is.pixels (x -ℤ dx) (y -ℤ dy)));
  outside = λ x y far.
      ap₂ (λ p q. blend_of most Normal p (cast q)) (is.outside x y (λ h. far (cover_first plane.extent (shift_of plane.extent dx dy) x y h)))
      (is.outside (x -ℤ dx) (y -ℤ dy) (λ h. far (cover_second plane.extent (shift_of plane.extent dx dy) x y
      (omega (arith, ints, h.0), omega (arith, ints, h.1), omega (arith, ints, h.2), omega (arith, ints, h.3)))))
      ∙ ap (blend_of most Normal clear) none ∙ transparent_leaves most Normal clear depth refl;
}

share_within : (fx : Use) (at : Moment) (index : ℕ) → number_of fx index at ≤ℤ pos 10000 → amount_of fx index at ≤ 10000
share_within fx at index h = part_within (number_of fx index at) 10000 h

drawing_over : (most : ℕ) (kind : SpatialKind) (fx : Use) (at : Moment) (planes : List Plane) → FitsSchema (spatial_schema kind) fx → IsDepth most
    → IsPlane most (plane_at planes 0) → IsDrawing most (bounds_over kind fx at (plane_at planes 0).extent) (spatial_draws most kind fx at planes)
drawing_over most Offset fx at planes fits depth is =
    let e = (plane_at planes 0).extent in
    inside_drawing most e (λ x y. (plane_at planes 0).at (wrapped e.left (width_of e) (x -ℤ number_of fx 0 at)) (wrapped e.top (count_between e.top e.bottom) (y -ℤ number_of fx 1 at)))
    (λ x y. is.pixels _ _)
drawing_over most BoxBlur fx at planes fits depth is = blur_drawing most (amount_of fx 0 at) (plane_at planes 0) is
drawing_over most Mosaic fx at planes fits depth is = mosaic_drawing most (amount_of fx 0 at) (plane_at planes 0) (size_some fx at fits) is
drawing_over most DropShadow fx at planes fits depth is =
    let o = share_within fx at 2 (opacity_range fx at fits).1 in
    let r = share_within fx at 3 (red_range fx at fits).1 in
    let g = share_within fx at 4 (green_range fx at fits).1 in
    let b = share_within fx at 5 (blue_range fx at fits).1 in
    shadow_drawing most (number_of fx 0 at) (number_of fx 1 at) (cast_by fx at) (plane_at planes 0) depth is
    (cast_keeps most (amount_of fx 2 at) (amount_of fx 3 at) (amount_of fx 4 at) (amount_of fx 5 at) o r g b)
    (cast_clear (amount_of fx 2 at) (amount_of fx 3 at) (amount_of fx 4 at) (amount_of fx 5 at) o r g b)
drawing_over most Displace fx at planes fits depth is =
    let map = (plane_at planes 1).at in
    inside_drawing most (plane_at planes 0).extent
    (λ x y. (plane_at planes 0).at (x +ℤ moved most (number_of fx 0 at) (map x y).r (map x y).a) (y +ℤ moved most (number_of fx 1 at) (map x y).g (map x y).a))
    (λ x y. is.pixels _ _)

pub some_planes : (kind : SpatialKind) (at : Moment) → 1 ≤ length (spatial_wants kind at)
some_planes Offset at = omega arith
some_planes BoxBlur at = omega arith
some_planes Mosaic at = omega arith
some_planes DropShadow at = omega arith
some_planes Displace at = omega arith

-- what a spatial effect draws is a picture within its bounds
pub spatial_drawing : (most : ℕ) (sums_of : ℕ → ℕ → Plane → List ℕ) (kind : SpatialKind) (fx : Use) (at : Moment) (planes : List Plane) (sums : List (List ℕ)) → FitsSchema (spatial_schema kind) fx
    → IsInput most sums_of (spatial_wants kind at) [] planes sums → IsDrawing most (spatial_bounds kind fx at (extents_of planes)) (spatial_draws most kind fx at planes)
spatial_drawing most sums_of kind fx at planes sums fits given =
    subst (λ (e : Rect). IsDrawing most (bounds_over kind fx at e) (spatial_draws most kind fx at planes)) (sym (extent_of_plane planes 0))
    (drawing_over most kind fx at planes fits given.depth (given.planes_are 0 _ (omega (arith, some_planes kind at, given.one_each))))

-- ---- each point from what is needed

offset_local : (dx dy : ℤ) (p q : Plane) → p.extent ≡ q.extent → AgreeOn p.extent p q → (x y : ℤ) → offset_at dx dy p x y ≡ offset_at dx dy q x y
offset_local dx dy p q same agree x y =
    by (has p.extent x y) refl
    ∙ ap (λ (e : Rect). if has e x y then q.at (wrapped e.left (width_of e) (x -ℤ dx)) (wrapped e.top (count_between e.top e.bottom) (y -ℤ dy)) else clear) same
  where
    e : Rect
    e = p.extent

    u : ℤ
    u = wrapped e.left (width_of e) (x -ℤ dx)

    v : ℤ
    v = wrapped e.top (count_between e.top e.bottom) (y -ℤ dy)

    by : (b : Bool) → has p.extent x y ≡ b → (if b then p.at u v else clear) ≡ (if b then q.at u v else clear)
    by true t =
        let h = Has-from_true p.extent x y t in
        let across = wrapped_within e.left e.right (x -ℤ dx) (omega (arith, ints, h.0, h.1)) in
        let down = wrapped_within e.top e.bottom (y -ℤ dy) (omega (arith, ints, h.2, h.3)) in
        agree u v (across.0, across.1, down.0, down.1)
    by false t = refl

shadow_local : (most : ℕ) (dx dy : ℤ) (cast : Argb → Argb) (p q : Plane) (rect : Rect) → AgreeOn (shadow_need dx dy rect) p q
    → (x y : ℤ) → Has rect x y → shadowed_at most dx dy cast p x y ≡ shadowed_at most dx dy cast q x y
shadow_local most dx dy cast p q rect agree x y h =
    ap₂ (λ a b. blend_of most Normal a (cast b)) (agree x y (cover_first rect (shift_of rect (neg_ℤ dx) (neg_ℤ dy)) x y h))
    (agree (x -ℤ dx) (y -ℤ dy) (cover_second rect (shift_of rect (neg_ℤ dx) (neg_ℤ dy)) (x -ℤ dx) (y -ℤ dy)
    (omega (arith, ints, h.0), omega (arith, ints, h.1), omega (arith, ints, h.2), omega (arith, ints, h.3))))

displaced_local : (most : ℕ) (max_x max_y : ℤ) (p q map other : Plane) (rect : Rect) → IsDepth most → IsPlane most map → p.extent ≡ q.extent
    → AgreeOn (displace_need max_x max_y rect) p q → AgreeOn rect map other
    → (x y : ℤ) → Has rect x y → displaced_at most max_x max_y p map x y ≡ displaced_at most max_x max_y q other x y
displaced_local most max_x max_y p q map other rect depth is same agree alike x y h =
    by (has p.extent x y)
    ∙ ap₂ (λ (e : Rect) (m : Argb). if has e x y then q.at (x +ℤ moved most max_x m.r m.a) (y +ℤ moved most max_y m.g m.a) else clear) same (alike x y h)
  where
    m : Argb
    m = map.at x y

    right : ℤ
    right = moved most max_x m.r m.a

    down : ℤ
    down = moved most max_y m.g m.a

    across_far : unsigned_abs right ≤ unsigned_abs max_x
    across_far = moved_within most max_x m.r m.a (depth_pos most depth) (is.pixels x y).red (is.pixels x y).alpha

    down_far : unsigned_abs down ≤ unsigned_abs max_y
    down_far = moved_within most max_y m.g m.a (depth_pos most depth) (is.pixels x y).green (is.pixels x y).alpha

    across_near : IsFar (reach_of max_x max_y) right
    across_near = within_abs right (reach_of max_x max_y) (omega (arith, across_far, le-max_left (unsigned_abs max_x) (unsigned_abs max_y)))

    down_near : IsFar (reach_of max_x max_y) down
    down_near = within_abs down (reach_of max_x max_y) (omega (arith, down_far, le-max_right (unsigned_abs max_x) (unsigned_abs max_y)))

    needed : Has (displace_need max_x max_y rect) (x +ℤ right) (y +ℤ down)
    needed = (Has-grow_of rect (pos (reach_of max_x max_y)) (x +ℤ right) (y +ℤ down) (omega (arith, ints))).1
        (x, y, h, (omega (arith, ints, across_near.0, across_near.1), omega (arith, ints, across_near.0, across_near.1)), (omega (arith, ints, down_near.0, down_near.1), omega (arith, ints, down_near.0, down_near.1)))

    by : (b : Bool) → (if b then p.at (x +ℤ right) (y +ℤ down) else clear) ≡ (if b then q.at (x +ℤ right) (y +ℤ down) else clear)
    by true = agree (x +ℤ right) (y +ℤ down) needed
    by false = refl

-- the same of each kind, where the planes have these extents
local_over : (most : ℕ) (kind : SpatialKind) (fx : Use) (at : Moment) (planes others : List Plane) (rect : Rect) → FitsSchema (spatial_schema kind) fx → IsDepth most
    → (plane_at planes 0).extent ≡ (plane_at others 0).extent → AgreeOn (need_over kind fx at (plane_at planes 0).extent rect) (plane_at planes 0) (plane_at others 0)
    → (2 ≤ length (spatial_wants kind at) → IsPlane most (plane_at planes 1) × AgreeOn rect (plane_at planes 1) (plane_at others 1))
    → (x y : ℤ) → Has rect x y → spatial_draws most kind fx at planes x y ≡ spatial_draws most kind fx at others x y
local_over most Offset fx at planes others rect fits depth same agree second x y h =
    offset_local (number_of fx 0 at) (number_of fx 1 at) (plane_at planes 0) (plane_at others 0) same agree x y
local_over most BoxBlur fx at planes others rect fits depth same agree second x y h =
    blur_local (amount_of fx 0 at) (plane_at planes 0) (plane_at others 0) rect agree x y h
local_over most Mosaic fx at planes others rect fits depth same agree second x y h =
    mosaic_local (amount_of fx 0 at) (plane_at planes 0) (plane_at others 0) rect (size_some fx at fits) same agree x y h
local_over most DropShadow fx at planes others rect fits depth same agree second x y h =
    shadow_local most (number_of fx 0 at) (number_of fx 1 at) (cast_by fx at) (plane_at planes 0) (plane_at others 0) rect agree x y h
local_over most Displace fx at planes others rect fits depth same agree second x y h =
    let map = second (omega arith) in
    displaced_local most (number_of fx 0 at) (number_of fx 1 at) (plane_at planes 0) (plane_at others 0) (plane_at planes 1) (plane_at others 1) rect depth map.0 same agree map.1 x y h

-- and it is drawn from what is needed alone
pub spatial_local : (most : ℕ) (sums_of : ℕ → ℕ → Plane → List ℕ) (kind : SpatialKind) (fx : Use) (at : Moment) (extents : List Rect) → FitsSchema (spatial_schema kind) fx
    → IsLocal most sums_of (spatial_wants kind at) [] extents (λ rect i. spatial_need kind fx at extents i rect) (λ planes sums. spatial_draws most kind fx at planes)
spatial_local most sums_of kind fx at extents fits rect planes others sums given other_given extents_are other_extents agree x y inside =
    local_over most kind fx at planes others rect fits given.depth same
    (subst (λ (e : Rect). AgreeOn (need_over kind fx at e rect) (plane_at planes 0) (plane_at others 0)) first_is (agree 0 (omega (arith, some_planes kind at, given.one_each))))
    (λ two. (given.planes_are 1 _ (omega (arith, two, given.one_each)), agree 1 (omega (arith, two, given.one_each)))) x y inside
  where
    first_is : extent_at extents 0 ≡ (plane_at planes 0).extent
    first_is = ap (λ (rs : List Rect). extent_at rs 0) (sym extents_are) ∙ extent_of_plane planes 0

    same : (plane_at planes 0).extent ≡ (plane_at others 0).extent
    same = sym first_is ∙ ap (λ (rs : List Rect). extent_at rs 0) (sym other_extents) ∙ extent_of_plane others 0
