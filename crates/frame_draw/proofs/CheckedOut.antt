-- What effects draw from what was checked out for them.
use Rattle.std.proofs.Common.{◌≡◌, ℕ, zero, suc, ◌<◌, ℤ, Bool, true, false, List, [], ◌∷◌, ◌++◌, length, refl, sym, ap, arith}
use Rattle.std.specs.Prelude.{take, slice_index_or}
use Rattle.std.specs.List.{All}
use Rattle.std.proofs.lemmas.List.Elements.{All-nil, All-cons, All-head, All-tail}
use Rattle.geom_rect.specs.Rect.{Has, IsWithin, has}
use Rattle.geom_rect.proofs.Points.{Has-from_true}
use Rattle.argb_pixel.specs.Pixel.{IsPremultiplied, clear}
use Rattle.argb_world.specs.Picture.{Picture, at}
use Rattle.comp_stack.specs.Layers.{plane_of}
use Rattle.effect_api.specs.Checked.{Pixels, planes_of}
use Rattle.effect_api.specs.Planes.{IsPlane}
use Rattle.frame_draw.proofs.Areas.{outside}

pub all_front : {A : Type 0} (P : A → Type 0) (xs ys : List A) → All P (xs ++ ys) → All P xs
all_front P [] ys all = All-nil P
all_front P (x ∷ xs) ys all = All-cons P x xs (All-head P x (xs ++ ys) all) (all_front P xs ys (All-tail P x (xs ++ ys) all))

-- one more of a list
pub take_push : {A : Type 0} (xs : List A) (k : ℕ) (x d : A) → k < length xs → x ≡ slice_index_or xs k d → take (suc k) xs ≡ take k xs ++ x ∷ []
take_push [] k x d within is = absurd (omega (arith, within))
take_push (y ∷ ys) zero x d within is = ap (λ z. z ∷ []) (sym is)
take_push (y ∷ ys) (suc k) x d within is = ap (λ l. y ∷ l) (take_push ys k x d (omega (arith, within)) is)

-- a world is a plane
pub world_plane : (most : ℕ) (world : Picture) → IsWithin world.part world.extent → ((x y : ℤ) → IsPremultiplied most (at world x y)) → IsPlane most (plane_of world)
world_plane most world inside pixels = record {
  pixels = pixels;
  outside = λ x y none. by x y none (has world.part x y) refl;
}
  where
    by : (x y : ℤ) → ¬ Has world.extent x y → (b : Bool) → has world.part x y ≡ b → at world x y ≡ clear
    by x y none true e = absurd (none (inside x y (Has-from_true world.part x y e)))
    by x y none false e = outside world x y e

pub planes_count : {most : ℕ} {K : Type 0} (pairs : List (ℕ × Pixels most K)) → length (planes_of pairs) ≡ length pairs
planes_count [] = refl
planes_count (pair ∷ pairs) = ap suc (planes_count pairs)

-- within a list it is of no account what stands for no item
pub at_any : {A : Type 0} (xs : List A) (k : ℕ) (d e : A) → k < length xs → slice_index_or xs k d ≡ slice_index_or xs k e
at_any [] k d e within = absurd (omega (arith, within))
at_any (x ∷ xs) zero d e within = refl
at_any (x ∷ xs) (suc k) d e within = at_any xs k d e (omega (arith, within))
