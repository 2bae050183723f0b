-- Worked sequences.
use Rattle.std.specs.Prelude.{[], ◌∷◌, codes}
use Rattle.sequence_data.specs.declared.sequence.SeqRule.{SeqRule}
use Rattle.sequence_data.specs.Sequence.{Fits, IsSequence}

-- entries of three bytes, from 1 to 256 of them
abbrev pub palette : SeqRule
palette = record { unit = 3; least = 1; most = 256 }

-- no bytes
abbrev pub nothing : SeqRule
nothing = record { unit = 0; least = 0; most = 0 }

pub record WorkedSequences : Type 0 where
  pub two_entries : IsSequence (codes "000000ffffff") palette (0 ∷ 0 ∷ 0 ∷ 255 ∷ 255 ∷ 255 ∷ [])
  pub four_bytes : ¬ Fits palette 4
  pub no_entry : ¬ Fits palette 0
  pub too_many : ¬ Fits palette 771
  pub empty : IsSequence (codes "") nothing []
  pub one_byte : ¬ Fits nothing 1
