-- An effect set to read projects with.
use Rattle.std.specs.Prelude.{ℕ, ℤ, pos, negsuc, Bool, true, false, List, [], ◌∷◌, codes}
use Rattle.sequence_data.specs.declared.sequence.SeqRule.{SeqRule}
use Rattle.project_model.specs.declared.effect.EffectSchema.{EffectSchema}
use Rattle.project_model.specs.declared.effect.ParamSchema.{ParamSchema}

abbrev pub param : List ℕ → ℤ → ℤ → ParamSchema
param name least most = record { name = name; least = least; most = most }

abbrev pub no_sequence : SeqRule
no_sequence = record { unit = 0; least = 0; most = 0 }

-- an effect without sequence data
abbrev pub effect : List ℕ → Bool → List ParamSchema → ℕ → EffectSchema
effect name threaded params layers =
    record { name = name; threaded = threaded; params = params; layers = layers; sequence = no_sequence }

-- two parameters
abbrev pub offset : EffectSchema
offset = effect (codes "Offset") true
    (param (codes "dx") (negsuc 32767) (pos 32767) ∷ param (codes "dy") (negsuc 32767) (pos 32767) ∷ []) 0

-- two parameters and a layer parameter
abbrev pub displace : EffectSchema
displace = effect (codes "Displace") true
    (param (codes "max x") (negsuc 1023) (pos 1024) ∷ param (codes "max y") (negsuc 1023) (pos 1024) ∷ []) 1

-- from 1 to 256 entries of three bytes
abbrev pub palette : EffectSchema
palette = record { name = codes "Palette"; threaded = true; params = []; layers = 0; sequence = record { unit = 3; least = 1; most = 256 } }

-- one that only one thread may draw
abbrev pub alone : EffectSchema
alone = effect (codes "Alone") false [] 0

-- one without parameters
abbrev pub same : EffectSchema
same = effect (codes "Same") true [] 0

abbrev pub effect_set : List EffectSchema
effect_set = offset ∷ displace ∷ palette ∷ alone ∷ same ∷ []
