-- The numbers that the words are held to.
use Rattle.std.specs.Prelude.{◌≡◌}
use Rattle.run_words.specs.declared.settings.TheConstants.{DEFAULT_WORKERS, MOST_WORKERS, DEFAULT_BUDGET, MOST_BUDGET, DEFAULT_NUMBER, MOST_NUMBER, LAST_FRAME}
use Rattle.run_words.specs.declared.words.TheConstants.{MOST_DIGITS}

abbrev pub NumbersOfTheWords : Type 0
NumbersOfTheWords =
    (MOST_DIGITS ≡ 13) × (LAST_FRAME ≡ 65535) × (DEFAULT_WORKERS ≡ 4) × (MOST_WORKERS ≡ 64)
    × (DEFAULT_BUDGET ≡ 536870912) × (MOST_BUDGET ≡ 1099511627776)
    × (DEFAULT_NUMBER ≡ 1) × (MOST_NUMBER ≡ 4294967295)
