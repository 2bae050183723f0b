-- Rows of several pictures over each other, and apart.
use Rattle.std.proofs.Common.{◌≡◌, ℕ, suc, ◌+◌, ◌-◌, ◌<◌, ◌≤◌, ℤ, pos, ◌+ℤ◌, List, [], ◌∷◌, ◌++◌, length, map, get_or, take, drop, replicate, refl, ap, ap₂, sym, ◌∙◌, arith, length-take}
use lib.Lanes.{zip2}
use Rattle.std.specs.Borrow.{Bor}
use Rattle.std.specs.List.{range_with_len}
use Rattle.std.proofs.lemmas.Simd.{zip2_of_maps, map-map}
use Rattle.std.proofs.lemmas.List.{get_or-map, get_or-append_right, get_or-drop, get_or-replicate, length-replicate, map-append, length-map, take_more}
use Rattle.std.proofs.lemmas.List.FromFn.{fill_by_all, length-map-range_with_len, get_or-map-range_with_len}
use Rattle.argb_pixel.specs.Pixel.{Argb, clear, scale_of}
use Rattle.argb_pixel.proofs.Places.{front_of}
use Rattle.argb_world.specs.Picture.{Picture, at, span_of}
use Rattle.transfer_mode.specs.declared.mode.Mode.TheVariants.{Normal}
use Rattle.transfer_mode.specs.Transfer.{blend_of}
use Rattle.comp_stack.specs.Stack.{Plane}
use Rattle.comp_stack.specs.Layers.{plane_of}
use Rattle.effect_api.specs.Planes.{plane_at}
use Rattle.project_model.specs.Effects.{Use}
use Rattle.effect_api.specs.declared.moment.Moment.{Moment}
use Rattle.fx_color.specs.Color.{amount_of}
use Rattle.fx_spatial.specs.Rows.{drawn_span}
use Rattle.fx_time.specs.Formulas.{echoes, echo_of, echoed_at, difference_of, difference_at}
use Rattle.fx_time.specs.declared.kind.TimeKind.TheVariants.{Echo}
use Rattle.fx_time.specs.Time.{strength_of, time_draws}
use Rattle.fx_time.specs.Laws.{echoes_alike}
use Rattle.fx_time.specs.Worlds.{planes_in, strength_in}

-- the plane of a world by its place
pub plane_in : (worlds : List (Bor Picture)) (i j : ℕ) (world : Bor Picture) → i ≡ j → i < length worlds → world ≡ get_or worlds i world
    → plane_at (planes_in worlds) j ≡ plane_of world.now
plane_in worlds i j world same l is =
    ap (plane_at (planes_in worlds)) (sym same)
    ∙ get_or-map (λ (w : Bor Picture). plane_of w.now) worlds i world _ l ∙ ap (λ (w : Bor Picture). plane_of w.now) (sym is)

-- nothing along a row
pub clear_row : (n : ℕ) (row : List Argb) → row ≡ replicate n clear → row ≡ map (λ j. clear) (range_with_len 0 n)
clear_row n row is =
    is ∙ fill_by_all (λ j. clear) (replicate n clear) n clear (length-replicate n clear) (λ k l. get_or-replicate n k clear clear l)

module _ (most : ℕ) (worlds : List (Bor Picture)) (strengths : List ℕ) (x y : ℤ) (n : ℕ) where
  -- the echoes at a place of the row
  abbrev pub echo_at : ℕ → ℕ → Argb
  echo_at j = echo_of (strength_in strengths) (planes_in worlds) (x +ℤ pos j) y

  -- so many of them over each other, along the row
  abbrev pub echo_row : ℕ → List Argb
  echo_row k = map (λ j. echoes most (echo_at j) (length strengths) k) (range_with_len 0 n)

  -- one more over those that are drawn
  pub echo_more : (k place : ℕ) (world : Bor Picture) (strength : ℕ) (old new : List Argb) → k < length strengths → place ≡ length strengths - 1 - k → length worlds ≡ length strengths + 1
      → world ≡ get_or worlds (place + 1) world → strength ≡ get_or strengths place 0 → old ≡ echo_row k
      → new ≡ zip2 (blend_of most Normal) (map (λ (p : Argb). scale_of p strength) (span_of world.now x y n)) old → new ≡ echo_row (k + 1)
  echo_more k place world strength old new l place_is long world_is strength_is old_is new_is =
      new_is
      ∙ zip2_of_maps (blend_of most Normal) (λ j. scale_of (at world.now (x +ℤ pos j) y) strength) (λ j. echoes most (echo_at j) (length strengths) k) (range_with_len 0 n)
      (map-map (λ (p : Argb). scale_of p strength) (λ j. at world.now (x +ℤ pos j) y) (range_with_len 0 n)) old_is
      ∙ ap₂ (λ (p : Plane) (s : ℕ). map (λ j. blend_of most Normal (scale_of (p.at (x +ℤ pos j) y) s) (echoes most (echo_at j) (length strengths) k)) (range_with_len 0 n))
      (sym (plane_in worlds (place + 1) (length strengths - k) world number (omega (arith, place_is, long, l)) world_is))
      (strength_is ∙ ap (λ (i : ℕ). get_or strengths i 0) before)
      ∙ ap echo_row next
    where
      number : place + 1 ≡ length strengths - k
      number = omega (arith, place_is, l)

      before : place ≡ length strengths - k - 1
      before = omega (arith, place_is, l)

      next : suc k ≡ k + 1
      next = omega arith

  -- and the picture over all of them
  pub echoed_row : (world : Bor Picture) (above below both : List Argb) → 0 < length worlds → world ≡ get_or worlds 0 world → above ≡ span_of world.now x y n → below ≡ echo_row (length strengths)
      → both ≡ zip2 (blend_of most Normal) above below → both ≡ drawn_span (echoed_at most (length strengths) (strength_in strengths) (planes_in worlds)) x y n
  echoed_row world above below both some world_is above_is below_is both_is =
      both_is
      ∙ zip2_of_maps (blend_of most Normal) (λ j. at world.now (x +ℤ pos j) y) (λ j. echoes most (echo_at j) (length strengths) (length strengths)) (range_with_len 0 n) above_is below_is
      ∙ ap (λ (p : Plane). map (λ j. blend_of most Normal (p.at (x +ℤ pos j) y) (echoes most (echo_at j) (length strengths) (length strengths))) (range_with_len 0 n))
      (sym (plane_in worlds 0 0 world refl some world_is))

-- two rows apart
pub difference_row : (p q : Picture) (x y : ℤ) (n : ℕ) (first second both : List Argb) → first ≡ span_of p x y n → second ≡ span_of q x y n
    → both ≡ zip2 difference_of first second → both ≡ drawn_span (difference_at (plane_of p) (plane_of q)) x y n
difference_row p q x y n first second both first_is second_is both_is =
    both_is ∙ zip2_of_maps difference_of (λ j. at p (x +ℤ pos j) y) (λ j. at q (x +ℤ pos j) y) (range_with_len 0 n) first_is second_is

-- a list whose front is of another has its own pixels from there on
pub front_rest : (done old row : List Argb) (k : ℕ) → length done ≡ length old → k < length old → row ≡ front_of done old k → get_or row k clear ≡ get_or old k clear
front_rest done old row k same l is =
    ap (λ (ps : List Argb). get_or ps k clear) is
    ∙ get_or-append_right (take k done) (drop k old) k k clear (omega (arith, length-take k done, same, l)) (omega arith)
    ∙ get_or-drop k old (k - k) clear ∙ ap (λ (j : ℕ). get_or old j clear) (omega arith)

-- one world more
pub planes_more : (worlds new : List (Bor Picture)) (world : Bor Picture) (planes : List Plane) (k : ℕ) (plane : Plane) → planes_in worlds ≡ take k planes → k < length planes
    → plane_of world.now ≡ get_or planes k plane → new ≡ worlds ++ world ∷ [] → planes_in new ≡ take (k + 1) planes
planes_more worlds new world planes k plane so_far l is pushed =
    ap planes_in pushed ∙ map-append (λ (w : Bor Picture). plane_of w.now) worlds (world ∷ [])
    ∙ ap₂ (λ (ps : List Plane) (p : Plane). ps ++ p ∷ []) so_far is ∙ sym (take_more planes k plane l)

-- there are as many worlds as planes
pub worlds_count : {X : Type 0} (worlds : List (Bor Picture)) (pairs : List X) (plane : X → Plane) → planes_in worlds ≡ map plane pairs → length worlds ≡ length pairs
worlds_count worlds pairs plane is = sym (length-map worlds (λ (w : Bor Picture). plane_of w.now)) ∙ ap length is ∙ length-map pairs plane

-- echoes by their worlds and strengths are those of a use
pub echoes_of_use : (most : ℕ) (fx : Use) (at : Moment) (worlds : List (Bor Picture)) (strengths : List ℕ) (planes : List Plane) (count : ℕ) → planes_in worlds ≡ planes
    → strengths ≡ map (λ i. strength_of fx at (i + 1)) (range_with_len 0 count) → count ≡ amount_of fx 0 at
    → (x y : ℤ) → echoed_at most (length strengths) (strength_in strengths) (planes_in worlds) x y ≡ time_draws most Echo fx at planes x y
echoes_of_use most fx at worlds strengths planes count planes_are strengths_are count_is x y =
    ap₂ (λ (n : ℕ) (ps : List Plane). echoed_at most n (strength_in strengths) ps x y) (long ∙ count_is) planes_are
    ∙ ap (blend_of most Normal ((plane_at planes 0).at x y))
    (echoes_alike most (echo_of (strength_in strengths) planes x y) (echo_of (strength_of fx at) planes x y) (amount_of fx 0 at) (amount_of fx 0 at) (omega arith)
    (λ k some few. ap (scale_of ((plane_at planes k).at x y)) (own k some few)))
  where
    long : length strengths ≡ count
    long = ap length strengths_are ∙ length-map-range_with_len (λ i. strength_of fx at (i + 1)) 0 count

    own : (k : ℕ) → 1 ≤ k → k ≤ amount_of fx 0 at → strength_in strengths k ≡ strength_of fx at k
    own k some few =
        let same : k - 1 + 1 ≡ k = omega (arith, some) in
        ap (λ (s : List ℕ). get_or s (k - 1) 0) strengths_are
        ∙ get_or-map-range_with_len (λ i. strength_of fx at (i + 1)) 0 count (k - 1) (k - 1) 0 (omega (arith, some, few, count_is)) (omega arith)
        ∙ ap (strength_of fx at) same
