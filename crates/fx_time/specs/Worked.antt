-- Examples that were worked by hand.
use Rattle.std.specs.Prelude.{◌≡◌, ℕ}
use Rattle.argb_pixel.specs.Pixel.{Argb, scale_of}
use Rattle.transfer_mode.specs.declared.mode.Mode.TheVariants.{Normal}
use Rattle.transfer_mode.specs.Transfer.{blend_of}
use Rattle.fx_blur.specs.Sums.{mean_of}
use Rattle.fx_time.specs.Formulas.{echoes, difference_of}

abbrev argb : ℕ → ℕ → ℕ → ℕ → Argb
argb a r g b = record { a = a; r = r; g = g; b = b }

-- at half the strength: one echo of a solid, which is then over it, and three
pub record WorkedTime : Type 0 where
  pub one_echo : echoes 255 (λ k. scale_of (argb 100 100 0 0) 5000) 1 1 ≡ argb 50 50 0 0
  pub over_one : blend_of 255 Normal (argb 100 100 0 0) (echoes 255 (λ k. scale_of (argb 100 100 0 0) 5000) 1 1) ≡ argb 130 130 0 0
  pub over_three : blend_of 255 Normal (argb 100 100 0 0) (echoes 255 (λ k. scale_of (argb 100 100 0 0) 5000) 3 3) ≡ argb 174 174 0 0
  pub apart : difference_of (argb 200 10 50 0) (argb 100 60 50 100) ≡ argb 200 50 0 100
  pub mean_of_three : mean_of 3 (argb 257 256 1 0) ≡ argb 86 85 0 0
