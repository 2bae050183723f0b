-- The names of the kinds of matte, as a project writes them.
use Rattle.std.specs.Prelude.{ℕ, List, [], ◌∷◌, codes, Option, if◌then◌else◌}
use Rattle.std.specs.declared.option.Option.TheVariants as option
use Rattle.std.specs.Str.{bytes_eq}
use Rattle.track_matte.specs.declared.matte.Matte.{Matte}
use Rattle.track_matte.specs.declared.matte.Matte.TheVariants.{None, Alpha, AlphaInverted, Luma, LumaInverted}

abbrev pub name_of : Matte → List ℕ
name_of None = codes "None"
name_of Alpha = codes "Alpha"
name_of AlphaInverted = codes "AlphaInverted"
name_of Luma = codes "Luma"
name_of LumaInverted = codes "LumaInverted"

abbrev pub mattes : List Matte
mattes = None ∷ Alpha ∷ AlphaInverted ∷ Luma ∷ LumaInverted ∷ []

-- the first of the kinds that has the name
abbrev pub first_named : List ℕ → List Matte → Option Matte
first_named name [] = option.None
first_named name (kind ∷ rest) = if bytes_eq name (name_of kind) then option.Some kind else first_named name rest

abbrev pub matte_named : List ℕ → Option Matte
matte_named name = first_named name mattes
