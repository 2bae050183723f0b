use Rattle.std.proofs.Common.{◌≡◌, ◌<◌, ◌^◌, take}
use Rattle.run_words.specs.Words.{number_of_digits}
use Rattle.run_words.proofs.words.number_of_digits.Given as goal

abbrev pub invariant-digits : goal.invariant-digits
invariant-digits l = record {
  so_far : l.number ≡ number_of_digits (take l.digit-index l.digits);
  bound : l.number < 10 ^ l.digit-index;
}
