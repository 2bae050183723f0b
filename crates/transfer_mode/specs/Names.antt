-- The names of the modes, as a project writes them.
use Rattle.std.specs.Prelude.{ℕ, List, [], ◌∷◌, codes, Option, Some, None, if◌then◌else◌}
use Rattle.std.specs.Str.{bytes_eq}
use Rattle.transfer_mode.specs.declared.mode.Mode.{Mode}
use Rattle.transfer_mode.specs.declared.mode.Mode.TheVariants.{Normal, Multiply, Screen, Darken, Lighten, Difference, Exclusion, Add, Subtract, LinearBurn, HardLight, Overlay, LinearLight, PinLight, HardMix, ColorDodge, ColorBurn, StencilAlpha, SilhouetteAlpha, StencilLuma, SilhouetteLuma}

abbrev pub name_of : Mode → List ℕ
name_of Normal = codes "Normal"
name_of Multiply = codes "Multiply"
name_of Screen = codes "Screen"
name_of Darken = codes "Darken"
name_of Lighten = codes "Lighten"
name_of Difference = codes "Difference"
name_of Exclusion = codes "Exclusion"
name_of Add = codes "Add"
name_of Subtract = codes "Subtract"
name_of LinearBurn = codes "LinearBurn"
name_of HardLight = codes "HardLight"
name_of Overlay = codes "Overlay"
name_of LinearLight = codes "LinearLight"
name_of PinLight = codes "PinLight"
name_of HardMix = codes "HardMix"
name_of ColorDodge = codes "ColorDodge"
name_of ColorBurn = codes "ColorBurn"
name_of StencilAlpha = codes "StencilAlpha"
name_of SilhouetteAlpha = codes "SilhouetteAlpha"
name_of StencilLuma = codes "StencilLuma"
name_of SilhouetteLuma = codes "SilhouetteLuma"

abbrev pub modes : List Mode
modes =
    Normal ∷ Multiply ∷ Screen ∷ Darken ∷ Lighten ∷ Difference ∷ Exclusion ∷ Add ∷ Subtract ∷ LinearBurn ∷ HardLight
    ∷ Overlay ∷ LinearLight ∷ PinLight ∷ HardMix ∷ ColorDodge ∷ ColorBurn ∷ StencilAlpha ∷ SilhouetteAlpha ∷ StencilLuma
    ∷ SilhouetteLuma ∷ []

-- the first of the modes that has the name
abbrev pub first_named : List ℕ → List Mode → Option Mode
first_named name [] = None
first_named name (mode ∷ rest) = if bytes_eq name (name_of mode) then Some mode else first_named name rest

abbrev pub mode_named : List ℕ → Option Mode
mode_named name = first_named name modes
