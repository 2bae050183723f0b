-- The lines that tell, for each frame of a span, the sum of each channel over its pixels.
use Rattle.std.specs.Prelude.{ℕ, ◌+◌, ◌-◌, pos, List, [], ◌∷◌, ◌++◌, codes, decimal, flat_map, map, Option, Some, None}
use Rattle.std.specs.List.{range_with_len, sum_by}
use Rattle.argb_pixel.specs.Pixel.{Argb}
use Rattle.project_model.specs.declared.plain.PlainComp.{PlainComp}
use Rattle.scene_meaning.specs.Shown.{PlainScene, shown}
use Rattle.scene_meaning.specs.Output.{frame_tick, root_of}

-- the pixels of frame n of the root, which is this composition: row under row, each from the left
abbrev pub frame_pixels : PlainScene → PlainComp → ℕ → List Argb
frame_pixels scene comp n =
    flat_map (λ y. map (λ x. shown scene scene.project.root (frame_tick scene.project comp n) (pos x) (pos y)) (range_with_len 0 comp.width))
    (range_with_len 0 comp.height)

-- the line of frame n, by the sums of its channels
abbrev pub line_of_sums : ℕ → ℕ → ℕ → ℕ → ℕ → List ℕ
line_of_sums n a r g b =
    codes "frame " ++ decimal n ++ codes " " ++ decimal a ++ codes " " ++ decimal r ++ codes " " ++ decimal g ++ codes " " ++ decimal b ++ 10 ∷ []

-- the same, by its pixels
abbrev pub line_of_pixels : ℕ → List Argb → List ℕ
line_of_pixels n pixels =
    line_of_sums n (sum_by (λ p. p.a) pixels) (sum_by (λ p. p.r) pixels) (sum_by (λ p. p.g) pixels) (sum_by (λ p. p.b) pixels)

abbrev pub frame_line : PlainScene → PlainComp → ℕ → List ℕ
frame_line scene comp n = line_of_pixels n (frame_pixels scene comp n)

-- the line that tells how many frames there are
abbrev pub count_line : ℕ → List ℕ
count_line count = codes "frames " ++ decimal count ++ 10 ∷ []

-- the lines of the frames in order, and their count
abbrev pub root_lines : PlainScene → PlainComp → ℕ → ℕ → List ℕ
root_lines scene comp first count = flat_map (frame_line scene comp) (range_with_len first count) ++ count_line count

abbrev lines_of : PlainScene → Option PlainComp → ℕ → ℕ → List ℕ
lines_of scene None from to = []
lines_of scene (Some comp) from to = root_lines scene comp from (to + 1 - from)

-- the lines of the frames from the one to the other, both included
abbrev pub lines : PlainScene → ℕ → ℕ → List ℕ
lines scene from to = lines_of scene (root_of scene.project) from to
