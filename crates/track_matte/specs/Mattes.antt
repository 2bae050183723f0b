-- How much of a layer a matte lets through. The four kinds are those of the After Effects C++ SDK Guide, the
-- arithmetic is this project's own.
use Rattle.std.specs.Prelude.{ℕ, ◌-◌}
use Rattle.argb_pixel.specs.Pixel.{Argb, mul_of, luma_of}
use Rattle.track_matte.specs.declared.matte.Matte.{Matte}
use Rattle.track_matte.specs.declared.matte.Matte.TheVariants.{None, Alpha, AlphaInverted, Luma, LumaInverted}

-- of the greatest value, by the matte's pixel
abbrev pub value_of : ℕ → Matte → Argb → ℕ
value_of most None q = most
value_of most Alpha q = q.a
value_of most AlphaInverted q = most - q.a
value_of most Luma q = luma_of q
value_of most LumaInverted q = most - luma_of q

-- the part of the layer's pixel p that the matte's pixel q lets through
abbrev pub matted : ℕ → Matte → Argb → Argb → Argb
matted most kind q p = mul_of most p (value_of most kind q)
