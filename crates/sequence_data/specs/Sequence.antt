-- Sequence data: bytes of an effect that are constant while it renders, written as hex text.
use Rattle.std.specs.Prelude.{◌≡◌, ℕ, ◌*◌, ◌/◌, ◌%◌, ◌≤◌, ◌==◌, ◌&&◌, nat_le, Bool, if◌then◌else◌, List, length, Ok}
use Rattle.hex.specs.Hex.{decode_of}
use Rattle.sequence_data.specs.declared.sequence.SeqRule.{SeqRule}
use Rattle.sequence_data.specs.declared.sequence.SequenceError.{SequenceError}
use Rattle.sequence_data.specs.declared.sequence.SequenceError.TheVariants.{BadSequence, Memory}

-- so many bytes are n units, where n is from the least to the most
pub record Fits (rule : SeqRule) (count : ℕ) : Type 0 where
  pub units : ℕ
  pub whole : count ≡ rule.unit * units
  pub some : rule.least ≤ units
  pub few : units ≤ rule.most

-- whether they are
abbrev pub takes : SeqRule → ℕ → Bool
takes rule count =
    if rule.unit == 0
    then (count == 0) && nat_le rule.least rule.most
    else (count % rule.unit == 0) && nat_le rule.least (count / rule.unit) && nat_le (count / rule.unit) rule.most

-- the text is the hex of these bytes, in either case, and the rule takes so many
pub record IsSequence (text : List ℕ) (rule : SeqRule) (bytes : List ℕ) : Type 0 where
  pub decoded : decode_of text ≡ Ok bytes
  pub fits : Fits rule (length bytes)

-- the error comes exactly where this cannot be, but for want of memory
abbrev pub Refuses : SequenceError → Type 0 → Type 0
Refuses BadSequence accepted = ¬ accepted
Refuses Memory accepted = Unit {0}
