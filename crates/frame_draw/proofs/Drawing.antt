-- Pictures of clips, row by row, where they are requested.
use Rattle.std.proofs.Common.{◌≡◌, ℕ, ◌+◌, ◌*◌, ◌<◌, ◌≤◌, ℤ, pos, negsuc, ◌+ℤ◌, ◌-ℤ◌, ◌≤ℤ◌, ◌<ℤ◌, Bool, true, false, List, get_or, inl, inr, refl, sym, ap, ap₂, subst, ◌∙◌, arith}
use Rattle.std.specs.Prelude.{int_le, int_lt, ◌&&◌, if◌then◌else◌, unsigned_abs, Option, Some, None, Result, Ok, Err, IfOk, slice_get, nat_eq}
use Rattle.std.proofs.lemmas.Int.{ints}
use Rattle.geom_rect.specs.declared.rect.Rect.{Rect}
use Rattle.geom_rect.specs.Rect.{Has, IsWithin, has, area_of, frame_rect, width_of, positive_part, count_between}
use Rattle.geom_rect.proofs.Points.{Has-from_true, has-true}
use Rattle.argb_pixel.specs.Depth.{IsDepth}
use Rattle.argb_pixel.specs.Pixel.{Argb, clear}
use Rattle.argb_world.specs.Picture.{Picture, StaysOffRow, at, greatest_part, row_of}
use Rattle.argb_world.proofs.Places.{abs_is_positive_part, area_within, below, positive_part_is}
use Rattle.argb_world.proofs.Spans.{span_at}
use Rattle.frame_file.specs.Clip.{Pictures, pixel_in}
use Rattle.comp_stack.specs.Stack.{Plane}
use Rattle.rational_time.specs.Times.{frame_at, tick_of}
use Rattle.project_model.specs.Bounds.{most_of, most_frames}
use Rattle.project_model.specs.Sound.{IsPictureSize, IsSoundClip}
use Rattle.project_model.specs.declared.clip.ClipUse.{ClipUse}
use Rattle.scene_meaning.specs.Scene.{IsClipOf}
use Rattle.scene_meaning.specs.Shown.{PlainScene, base_in, picture_at, picture_plane, clip_plane}
use Rattle.frame_draw.specs.Areas.{IsPartOf, StandsFor, area_in}
use Rattle.frame_draw.specs.Kept.{HasRows, picture_among}
use Rattle.frame_draw.proofs.Areas.{stands_in}

side_is : (n : ℕ) → count_between (pos 0) (pos n) ≡ n
side_is n = let e : (pos n -ℤ pos 0) ≡ pos n = omega (arith, ints) in ap positive_part e

-- a part of a picture has no more points than a world may have
pub few_points : (w h : ℕ) (part : Rect) → IsPictureSize w h → IsWithin part (frame_rect w h) → area_of part ≤ greatest_part
few_points w h part size inside =
    let all : area_of (frame_rect w h) ≡ w * h = ap₂ (λ (a b : ℕ). a * b) (side_is w) (side_is h) in
    omega (arith, size.area_bound, area_within part (frame_rect w h) inside, all)

pub width_is : (left right : ℤ) → left ≤ℤ right → unsigned_abs (right -ℤ left) ≡ count_between left right
width_is left right h = abs_is_positive_part (right -ℤ left) (omega (arith, ints, h))

-- a column of a picture has the number of the left side and how far it is from there
column_is : (left : ℕ) (low x : ℤ) → pos left ≡ low → low ≤ℤ x → unsigned_abs x ≡ left + positive_part (x -ℤ low)
column_is left low x is inside =
    let some : pos 0 ≤ℤ x = omega (arith, ints, is, inside) in
    let far : pos 0 ≤ℤ (x -ℤ low) = omega (arith, ints, inside) in
    omega (arith, ints, is, abs_is_positive_part x some, positive_part_is x some, positive_part_is (x -ℤ low) far)

-- a row that was written shows its pixels
row_at : (p : Picture) (x y : ℤ) (row : List Argb) → Has p.part x y → row_of p y ≡ row → at p x y ≡ get_or row (positive_part (x -ℤ p.part.left)) clear
row_at p x y row inside is =
    let there : p.part.left +ℤ pos (positive_part (x -ℤ p.part.left)) ≡ x = omega (arith, ints, positive_part_is (x -ℤ p.part.left) (omega (arith, ints, inside.0))) in
    ap (λ (z : ℤ). at p z y) (sym there)
    ∙ sym (span_at p p.part.left y (width_of p.part) (positive_part (x -ℤ p.part.left)) (below p.part.left p.part.right x inside.0 inside.1))
    ∙ ap (λ (ps : List Argb). get_or ps (positive_part (x -ℤ p.part.left)) clear) is

-- a row that has the picture's pixels from the left side of the part on
pub row_drawn : (most : ℕ) (clip : Pictures) (picture left y : ℕ) (old new : Picture) (row : List Argb) → pos left ≡ old.part.left → new.part ≡ old.part → row_of new (pos y) ≡ row
    → ((k : ℕ) → k < width_of old.part → get_or row k clear ≡ pixel_in most clip picture (left + k) y)
    → (x : ℤ) → Has new.part x (pos y) → at new x (pos y) ≡ pixel_in most clip picture (unsigned_abs x) y
row_drawn most clip picture left y old new row from part is read x inside =
    let same : pos left ≡ new.part.left = from ∙ ap (λ (r : Rect). r.left) (sym part) in
    let within = below new.part.left new.part.right x inside.0 inside.1 in
    row_at new x (pos y) row inside is
    ∙ read (positive_part (x -ℤ new.part.left)) (subst (λ (r : Rect). positive_part (x -ℤ new.part.left) < width_of r) part within)
    ∙ ap (λ (n : ℕ). pixel_in most clip picture n y) (sym (column_is left new.part.left x same inside.0))

-- the row of a part lies in the picture
pub row_fits : (width height left : ℕ) (part : Rect) → IsPartOf width height part → pos left ≡ part.left → left + width_of part ≤ width
row_fits width height left part is from =
    omega (arith, ints, from, is.right_in, positive_part_is (part.right -ℤ part.left) (omega (arith, ints, is.across)))

-- one row more
pub row_more : (most : ℕ) (clip : Pictures) (picture k : ℕ) (old new : Picture) → HasRows most clip picture k old → new.part ≡ old.part
    → ((x : ℤ) → Has new.part x (pos k) → at new x (pos k) ≡ pixel_in most clip picture (unsigned_abs x) k) → StaysOffRow (pos k) old new → HasRows most clip picture (k + 1) new
row_more most clip picture k old new rows part row stays = λ x y inside low. by x y inside low (int_lt y (pos k)) refl
  where
    by : (x y : ℤ) → Has new.part x y → y <ℤ pos (k + 1) → (b : Bool) → int_lt y (pos k) ≡ b → at new x y ≡ pixel_in most clip picture (unsigned_abs x) (unsigned_abs y)
    by x y inside low true e =
        let above : y <ℤ pos k = omega (arith, ints, e) in
        stays x y (λ same. absurd (omega (arith, ints, same, above))) ∙ rows x y (subst (λ (r : Rect). Has r x y) part inside) above
    by x y inside low false e =
        let here : pos k ≡ y = omega (arith, ints, e, low) in
        subst (λ (z : ℤ). Has new.part x z → at new x z ≡ pixel_in most clip picture (unsigned_abs x) (unsigned_abs z)) here (row x) inside

-- no row is above the top
pub rows_none : (most : ℕ) (clip : Pictures) (picture k : ℕ) (p : Picture) → pos k ≡ p.part.top → HasRows most clip picture k p
rows_none most clip picture k p top = λ x y inside low. absurd (omega (arith, ints, top, low, inside.2))

-- all are above the bottom
pub rows_all : (most : ℕ) (clip : Pictures) (picture k : ℕ) (p : Picture) → p.part.bottom ≤ℤ pos k → HasRows most clip picture k p
    → (x y : ℤ) → Has p.part x y → at p x y ≡ pixel_in most clip picture (unsigned_abs x) (unsigned_abs y)
rows_all most clip picture k p bottom rows x y inside = rows x y inside (omega (arith, ints, bottom, inside.3))

chosen : (b : Bool) (n k : ℕ) → (if b then Some n else None) ≡ Some k → (b ≡ true) × (n ≡ k)
chosen true n k e = (refl, cc)
chosen false n k e = let wrong : ⊥ = cc in absurd wrong

not_chosen : (b : Bool) (n : ℕ) → (if b then Some n else None) ≡ None → b ≡ false
not_chosen true n e = let wrong : ⊥ = cc in absurd wrong
not_chosen false n e = refl

both_true : (a b : Bool) → (a && b) ≡ true → (a ≡ true) × (b ≡ true)
both_true true true e = (refl, refl)
both_true true false e = let wrong : ⊥ = cc in absurd wrong
both_true false b e = let wrong : ⊥ = cc in absurd wrong

-- the number of a picture is one of those that there are
pub among_fits : (picture : ℤ) (frames n : ℕ) → picture_among picture frames ≡ Some n → n < frames
among_fits (pos k) frames n found =
    let is = chosen (int_le (pos 0) (pos k) && int_lt (pos k) (pos frames)) k n found in
    let tests = both_true (int_le (pos 0) (pos k)) (int_lt (pos k) (pos frames)) is.0 in
    omega (arith, ints, is.1, tests.1)
among_fits (negsuc k) frames n found =
    let is = chosen (int_le (pos 0) (negsuc k) && int_lt (negsuc k) (pos frames)) (unsigned_abs (negsuc k)) n found in
    let tests = both_true (int_le (pos 0) (negsuc k)) (int_lt (negsuc k) (pos frames)) is.0 in
    absurd (omega (arith, ints, tests.0))

-- a picture that is drawn where it is requested
pub shown_picture : (most : ℕ) (clip : Pictures) (picture : ℤ) (n frames : ℕ) (world : Picture) (x y : ℤ) → picture_among picture frames ≡ Some n → frames ≡ clip.frames
    → IsWithin world.part (frame_rect clip.width clip.height) → Has world.part x y → at world x y ≡ pixel_in most clip n (unsigned_abs x) (unsigned_abs y) → at world x y ≡ picture_at most clip picture x y
shown_picture most clip picture n frames world x y found same inside here shows =
    shows
    ∙ ap (λ (k : ℕ). pixel_in most clip k (unsigned_abs x) (unsigned_abs y)) (sym is)
    ∙ sym (ap (λ (b : Bool). if b then pixel_in most clip (unsigned_abs picture) (unsigned_abs x) (unsigned_abs y) else clear) (has-true (frame_rect clip.width clip.height) x y (inside x y here)))
    ∙ ap (λ (b : Bool). if b && has (frame_rect clip.width clip.height) x y then pixel_in most clip (unsigned_abs picture) (unsigned_abs x) (unsigned_abs y) else clear) (sym test)
  where
    among : picture_among picture clip.frames ≡ Some n
    among = ap (picture_among picture) (sym same) ∙ found

    test : (int_le (pos 0) picture && int_lt picture (pos clip.frames)) ≡ true
    test = (chosen (int_le (pos 0) picture && int_lt picture (pos clip.frames)) (unsigned_abs picture) n among).0

    is : unsigned_abs picture ≡ n
    is = (chosen (int_le (pos 0) picture && int_lt picture (pos clip.frames)) (unsigned_abs picture) n among).1

-- beyond its frame it shows nothing
pub beyond_picture : (most : ℕ) (clip : Pictures) (picture x y : ℤ) → ¬ Has (frame_rect clip.width clip.height) x y → picture_at most clip picture x y ≡ clear
beyond_picture most clip picture x y none = by (has (frame_rect clip.width clip.height) x y) refl
  where
    nothing_at : (b : Bool) (p : Argb) → (if b && false then p else clear) ≡ clear
    nothing_at true p = refl
    nothing_at false p = refl

    by : (b : Bool) → has (frame_rect clip.width clip.height) x y ≡ b → picture_at most clip picture x y ≡ clear
    by true e = absurd (none (Has-from_true (frame_rect clip.width clip.height) x y e))
    by false e =
        ap (λ (b : Bool). if int_le (pos 0) picture && int_lt picture (pos clip.frames) && b then pixel_in most clip (unsigned_abs picture) (unsigned_abs x) (unsigned_abs y) else clear) e
        ∙ nothing_at (int_le (pos 0) picture && int_lt picture (pos clip.frames)) (pixel_in most clip (unsigned_abs picture) (unsigned_abs x) (unsigned_abs y))

-- there is no such picture
pub no_picture : (most : ℕ) (clip : Pictures) (picture : ℤ) (frames : ℕ) (world : Picture) (x y : ℤ) → picture_among picture frames ≡ None → frames ≡ clip.frames → at world x y ≡ clear → at world x y ≡ picture_at most clip picture x y
no_picture most clip picture frames world x y found same blank =
    let among : picture_among picture clip.frames ≡ None = ap (picture_among picture) (sym same) ∙ found in
    let test = not_chosen (int_le (pos 0) picture && int_lt picture (pos clip.frames)) (unsigned_abs picture) among in
    blank ∙ sym (ap (λ (b : Bool). if b && has (frame_rect clip.width clip.height) x y then pixel_in most clip (unsigned_abs picture) (unsigned_abs x) (unsigned_abs y) else clear) test)

pub sized : (w w' h h' : ℕ) → w ≡ w' → h ≡ h' → frame_rect w h ≡ frame_rect w' h'
sized w w' h h' e f = ap (λ (n : ℕ). frame_rect n h) e ∙ ap (λ (n : ℕ). frame_rect w' n) f

-- a clip has what its declaration says
pub record HasShape (base : ℕ) (declared : ClipUse) (clip : Pictures) : Type 0 where
  pub size : IsPictureSize clip.width clip.height
  pub frames : clip.frames ≤ most_frames
  pub depth : clip.depth ≡ declared.depth

pub shaped : (base : ℕ) (declared : ClipUse) (clip : Pictures) → IsSoundClip base declared → IsClipOf declared clip → HasShape base declared clip
shaped base declared clip sound is =
    let w : clip.width ≡ declared.width = ap (λ (c : Pictures). c.width) is in
    let h : clip.height ≡ declared.height = ap (λ (c : Pictures). c.height) is in
    let n : clip.frames ≡ declared.frames = ap (λ (c : Pictures). c.frames) is in
    let r = sound.readable in
    let area : clip.width * clip.height ≤ 8847360 = subst (λ (k : ℕ). k ≤ 8847360) (sym (ap (λ (k : ℕ). k * clip.height) w ∙ ap (λ (k : ℕ). declared.width * k) h)) r.area in
    record {
      size = record {
        some_width = omega (arith, w, r.width.0);
        some_height = omega (arith, h, r.height.0);
        width_bound = omega (arith, w, r.width.1);
        height_bound = omega (arith, h, r.height.1);
        area_bound = area;
      };
      frames = omega (arith, n, r.frames.1);
      depth = ap (λ (c : Pictures). c.depth) is;
    }

-- the plane of a clip, where it is requested
pub stands_clip : {E : Type 0} (most : ℕ) (scene : PlainScene) (index : ℕ) (t picture ticks : ℤ) (declared : ClipUse) (clip : Pictures) (request : Rect) (made : Result Picture E) → most ≡ most_of scene.project.depth
    → slice_get scene.project.clips index ≡ Some declared → slice_get scene.clips index ≡ Some clip → picture ≡ frame_at t ticks → ticks ≡ tick_of (base_in scene.project) declared.frame
    → IfOk made (λ w. w.extent ≡ frame_rect clip.width clip.height) → IfOk made (λ w. w.part ≡ area_in w.extent request)
    → IfOk made (λ w. (x y : ℤ) → Has w.part x y → at w x y ≡ picture_at most clip picture x y) → IfOk made (StandsFor request (clip_plane scene index t))
stands_clip most scene index t picture ticks declared clip request (Ok w) depth here there is long extent part points =
    subst (λ (p : Plane). StandsFor request p w) plane
    (stands_in request frame shown w extent area refl (λ x y none. beyond_picture most clip picture x y none)
    (λ x y inside. points x y (subst (λ (r : Rect). Has r x y) (sym area) inside)))
  where
    frame : Rect
    frame = frame_rect clip.width clip.height

    area : w.part ≡ area_in frame request
    area = part ∙ ap (λ (r : Rect). area_in r request) extent

    shown : Plane
    shown = record { extent = frame; at = picture_at most clip picture }

    plane : shown ≡ clip_plane scene index t
    plane =
        ap (λ (m : ℕ). let p : Plane = record { extent = frame; at = picture_at m clip picture } in p) depth
        ∙ ap (λ (k : ℤ). let p : Plane = record { extent = frame; at = picture_at (most_of scene.project.depth) clip k } in p) (is ∙ ap (frame_at t) long)
        ∙ sym (ap (λ (o : Option ClipUse). picture_plane (most_of scene.project.depth) (base_in scene.project) o (slice_get scene.clips index) t) here
        ∙ ap (λ (o : Option Pictures). picture_plane (most_of scene.project.depth) (base_in scene.project) (Some declared) o t) there)
stands_clip most scene index t picture ticks declared clip request (Err e) depth here there is long extent part points = tt

pub most_is_depth : (most depth : ℕ) → most ≡ most_of depth → IsDepth most
most_is_depth most depth is = subst IsDepth (sym is) (by (nat_eq depth 8))
  where
    by : (b : Bool) → IsDepth (if b then 255 else 32768)
    by true = inl refl
    by false = inr refl
