-- Schemas of effects that are threaded and have no layer parameters.
use Rattle.std.specs.Prelude.{ℕ, ℤ, true, List, []}
use Rattle.sequence_data.specs.declared.sequence.SeqRule.{SeqRule}
use Rattle.project_model.specs.declared.effect.EffectSchema.{EffectSchema}
use Rattle.project_model.specs.declared.effect.ParamSchema.{ParamSchema}

-- a parameter
abbrev pub param : List ℕ → ℤ → ℤ → ParamSchema
param name least most = record { name = name; least = least; most = most }

-- no sequence data
abbrev pub no_sequence : SeqRule
no_sequence = record { unit = 0; least = 0; most = 0 }

abbrev pub plain_effect : List ℕ → List ParamSchema → EffectSchema
plain_effect name params = record { name = name; threaded = true; params = params; layers = 0; sequence = no_sequence }

-- an effect with sequence data and no parameters
abbrev pub data_effect : List ℕ → SeqRule → EffectSchema
data_effect name rule = record { name = name; threaded = true; params = []; layers = 0; sequence = rule }
