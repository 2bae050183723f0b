-- What is drawn from the pixels of several ticks at one point.
use Rattle.std.specs.Prelude.{ℕ, zero, suc, ◌-◌, max, ℤ, List}
use Rattle.std.specs.Int.{abs_diff}
use Rattle.argb_pixel.specs.Pixel.{Argb, clear, scale_of}
use Rattle.transfer_mode.specs.declared.mode.Mode.TheVariants.{Normal}
use Rattle.transfer_mode.specs.Transfer.{blend_of}
use Rattle.comp_stack.specs.Stack.{Plane}
use Rattle.effect_api.specs.Planes.{plane_at}
use Rattle.fx_blur.specs.Sums.{total, mean_of}

-- of `count` echoes the last ones, so many of them, over nothing: number `count` first, and each other one over those before it
abbrev pub echoes : ℕ → (ℕ → Argb) → ℕ → ℕ → Argb
echoes most echo count zero = clear
echoes most echo count (suc n) = blend_of most Normal (echo (count - n)) (echoes most echo count n)

-- an echo: the pixel of the plane with its number, under its strength, which scales as an opacity does
abbrev pub echo_of : (ℕ → ℕ) → List Plane → ℤ → ℤ → ℕ → Argb
echo_of strength planes x y k = scale_of ((plane_at planes k).at x y) (strength k)

-- the first plane's pixel over all echoes
abbrev pub echoed_at : ℕ → ℕ → (ℕ → ℕ) → List Plane → ℤ → ℤ → Argb
echoed_at most count strength planes x y =
    blend_of most Normal ((plane_at planes 0).at x y) (echoes most (echo_of strength planes x y) count count)

-- how far the colours are apart, under the greater alpha
abbrev pub difference_of : Argb → Argb → Argb
difference_of p q = record { a = max p.a q.a; r = abs_diff p.r q.r; g = abs_diff p.g q.g; b = abs_diff p.b q.b }

abbrev pub difference_at : Plane → Plane → ℤ → ℤ → Argb
difference_at plane other x y = difference_of (plane.at x y) (other.at x y)

-- the mean of so many planes
abbrev pub time_mean_at : ℕ → List Plane → ℤ → ℤ → Argb
time_mean_at count planes x y = mean_of count (total (λ i. (plane_at planes i).at x y) count)
