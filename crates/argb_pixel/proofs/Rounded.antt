-- Rounded quotients: they rise with what is divided, and a part is no more than the whole.
use Rattle.std.proofs.Common.{◌≡◌, ℕ, ◌+◌, ◌*◌, ◌/◌, ◌<◌, ◌≤◌, ◌∙◌, arith}
use Rattle.std.proofs.Math.Nat.{div-mul-le_self, div-lt_iff_lt-mul, mul-le-mul_left, mul-add-div_right, div-eq_of_lt}
use Rattle.std.proofs.lemmas.Nat.{le-div}
use Rattle.argb_pixel.specs.Pixel.{rounded}

pub div_mono : (x y w : ℕ) → 0 < w → x ≤ y → x / w ≤ y / w
div_mono x y w pos le = le-div (x / w) y w pos (omega (arith, div-mul-le_self x w))

pub rounded_mono : (x y w : ℕ) → 0 < w → x ≤ y → rounded x w ≤ rounded y w
rounded_mono x y w pos le = div_mono (x + w / 2) (y + w / 2) w pos (omega arith)

pub rounded_part_le : (c m w : ℕ) → 0 < w → m ≤ w → rounded (c * m) w ≤ c
rounded_part_le c m w pos le =
    let below : c * m + w / 2 < (c + 1) * w = omega (arith, mul-le-mul_left c le) in
    let less : (c * m + w / 2) / w < c + 1 = (div-lt_iff_lt-mul pos).1 below in
    omega arith

-- a whole number
pub rounded_whole : (c w : ℕ) → 0 < w → rounded (c * w) w ≡ c
rounded_whole c w pos =
    let none : (w / 2) / w ≡ 0 = div-eq_of_lt (omega arith) in
    mul-add-div_right pos c (w / 2) ∙ omega (arith, none)
