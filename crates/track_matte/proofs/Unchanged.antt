-- A row under no matte.
use Rattle.std.proofs.Common.{◌≡◌, ℕ, List, [], ◌∷◌, ◌*◌, length, refl, sym, ap, ◌∙◌, arith}
use lib.Lanes.{zip2}
use Rattle.argb_pixel.specs.Pixel.{rounded}
use Rattle.argb_pixel.proofs.Rounded.{rounded_whole}
use Rattle.argb_pixel.proofs.Channels.{depth_pos, same_argb}
use Rattle.track_matte.specs.Laws.{NoMatteLeaves}

pub zip2_leaves : {A B : Type 0} (f : A → B → B) (xs : List A) (ys : List B) → ((x : A) (y : B) → f x y ≡ y) → length xs ≡ length ys → ys ≡ zip2 f xs ys
zip2_leaves f [] [] same long = refl
zip2_leaves f [] (y ∷ ys) same long = absurd (omega (arith, long))
zip2_leaves f (x ∷ xs) [] same long = absurd (omega (arith, long))
zip2_leaves f (x ∷ xs) (y ∷ ys) same long =
    ap (λ t. t ∷ ys) (sym (same x y)) ∙ ap (λ t. f x y ∷ t) (zip2_leaves f xs ys same (omega (arith, long)))

pub none_leaves : NoMatteLeaves
none_leaves most q p depth =
    same_argb _ _ _ _ _ _ _ _ (whole p.a) (whole p.r) (whole p.g) (whole p.b)
  where
    whole : (c : ℕ) → rounded (c * most) most ≡ c
    whole c = rounded_whole c most (depth_pos most depth)
