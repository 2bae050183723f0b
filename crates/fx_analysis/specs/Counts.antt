-- Sums as they are handed to a drawing, and what is drawn from tables that are made of them.
use Rattle.std.specs.Prelude.{◌≡◌, ℕ, ◌+◌, ◌*◌, ◌/◌, ◌==◌, ◌||◌, ◌≤◌, min, sum, List, length, slice_index_or, if◌then◌else◌}
use Rattle.std.specs.List.{All}
use Rattle.std.proofs.lemmas.List.Sums.{sum_by-take-le}
use Rattle.argb_pixel.specs.Pixel.{Argb}
use Rattle.argb_world.specs.Picture.{greatest_part}
use Rattle.fx_color.specs.Formulas.{with_colours}
use Rattle.fx_analysis.specs.Formulas.{count_to}

-- a histogram: a count for each of 256 levels, of no more pixels than a picture has
pub record AreCounts (counts : List ℕ) : Type 0 where
  pub levels : length counts ≡ 256
  pub few : All (λ count. count ≤ greatest_part) counts

-- a light: two sums, of no more pixels than a picture has
pub record IsLight (light : List ℕ) : Type 0 where
  pub both : length light ≡ 2
  pub within : All (λ sum. sum ≤ 32768 * greatest_part) light

-- for each of 256 levels, how many of a total are at it or below
pub record AreUpTo (total : ℕ) (up_to : List ℕ) : Type 0 where
  pub levels : length up_to ≡ 256
  pub within : All (λ count. count ≤ total) up_to

-- the share that a count has of a total, of so much
abbrev pub share_of : ℕ → ℕ → ℕ → ℕ
share_of total whole count = whole * count / total

-- Equalize by such numbers
abbrev pub equalized_part_by : ℕ → List ℕ → ℕ → ℕ → ℕ
equalized_part_by total up_to a c = share_of total a (slice_index_or up_to (c * 255 / a) 0)

abbrev pub equalized_by : ℕ → List ℕ → Argb → Argb
equalized_by total up_to p =
    if total == 0 || p.a == 0
    then p
    else with_colours p (equalized_part_by total up_to p.a p.r) (equalized_part_by total up_to p.a p.g) (equalized_part_by total up_to p.a p.b)

-- a colour scaled by a quotient, and held to the greatest
abbrev pub scaled_to : ℕ → ℕ → ℕ → ℕ → ℕ
scaled_to most times over c = min (c * times / over) most

-- Deflicker by a table of such colours
abbrev pub scaled_by : List ℕ → Argb → Argb
scaled_by table p =
    with_colours p (min (slice_index_or table p.r 0) p.a) (min (slice_index_or table p.g 0) p.a) (min (slice_index_or table p.b 0) p.a)

-- no more are counted to a level than in all
pub count_to_within : (counts : List ℕ) (level : ℕ) → count_to counts level ≤ sum counts
count_to_within counts level = sum_by-take-le (λ x. x) counts (level + 1)
