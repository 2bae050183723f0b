use Rattle.std.proofs.Common.{◌≡◌, ℕ, pos, List, [], ◌∷◌, ◌++◌, map, refl, sym, ap, ◌∙◌}
use Rattle.std.specs.Prelude.{flat_map}
use Rattle.std.specs.List.{range_with_len}
use Rattle.std.proofs.lemmas.Grind.{flat_map-append}
use Rattle.std.proofs.lemmas.List.Folds.{flat_map-map}
use Rattle.argb_pixel.specs.Pixel.{Argb}
use Rattle.frame_file.specs.Afr.{pixel_bytes}
use Rattle.frame_file.proofs.laws.pictures_are_their_pixels.Goals as goal

-- row by row
rows : (f : Argb → List ℕ) (at : ℕ → ℕ → Argb) (xs ys : List ℕ) → flat_map (λ y. flat_map (λ x. f (at x y)) xs) ys ≡ flat_map f (flat_map (λ y. map (λ x. at x y) xs) ys)
rows f at xs [] = refl
rows f at xs (y ∷ ys) =
    ap (λ bs. flat_map (λ x. f (at x y)) xs ++ bs) (rows f at xs ys)
    ∙ ap (λ bs. bs ++ flat_map f (flat_map (λ y. map (λ x. at x y) xs) ys)) (sym (flat_map-map f (λ x. at x y) xs))
    ∙ sym (flat_map-append f (map (λ x. at x y) xs) (flat_map (λ y. map (λ x. at x y) xs) ys))

pub returns : goal.returns
returns c = λ depth width height at. rows (pixel_bytes depth) (λ x y. at (pos x) (pos y)) (range_with_len 0 width) (range_with_len 0 height)
