-- What the words of the command line say. An option is `--name value` or `--name=value`.
use Rattle.std.specs.Prelude.{ℕ, ◌+◌, ◌-◌, ◌*◌, ◌&&◌, nat_le, List, ◌++◌, length, take, drop, fold, codes, Bool, unwrap_or, if◌then◌else◌, Option, Some, None}
use Rattle.std.specs.List.{list_all}
use Rattle.std.specs.Str.{bytes_eq}
use Rattle.run_words.specs.declared.settings.Settings.{Settings}
use Rattle.run_words.specs.declared.settings.RunMode.{RunMode}
use Rattle.run_words.specs.declared.settings.RunMode.TheVariants.{Render, Check, Summary, Demo}
use Rattle.run_words.specs.declared.settings.TheConstants.{DEFAULT_WORKERS, MOST_WORKERS, DEFAULT_BUDGET, MOST_BUDGET, DEFAULT_NUMBER, MOST_NUMBER, LAST_FRAME}
use Rattle.run_words.specs.declared.words.OptionName.{OptionName}
use Rattle.run_words.specs.declared.words.OptionName.TheVariants.{Mode, Workers, From, To, Budget, Seed}
use Rattle.run_words.specs.declared.words.Given.{Given}
use Rattle.run_words.specs.declared.words.Reading.{Reading}
use Rattle.run_words.specs.declared.words.Reading.TheVariants.{Refused, Between, Awaits}
use Rattle.run_words.specs.declared.words.TheConstants.{MOST_DIGITS}

-- the option's name in a word
abbrev pub text_of : OptionName → List ℕ
text_of Mode = codes "--mode"
text_of Workers = codes "--workers"
text_of From = codes "--from"
text_of To = codes "--to"
text_of Budget = codes "--budget"
text_of Seed = codes "--seed"

-- the mode that a text names
abbrev pub mode_of : List ℕ → Option RunMode
mode_of text =
    if bytes_eq text (codes "render") then Some Render
    else (if bytes_eq text (codes "check") then Some Check
    else (if bytes_eq text (codes "summary") then Some Summary
    else (if bytes_eq text (codes "demo") then Some Demo
    else None)))

abbrev pub is_digit : ℕ → Bool
is_digit byte = nat_le 48 byte && nat_le byte 57

-- the number that decimal digits write
abbrev pub number_of_digits : List ℕ → ℕ
number_of_digits digits = fold (λ number digit. 10 * number + (digit - 48)) 0 digits

-- a number of 1 to 13 decimal digits, from the least to the greatest; leading zeros are allowed
abbrev pub number_in : ℕ → ℕ → List ℕ → Option ℕ
number_in least greatest text =
    if nat_le 1 (length text) && nat_le (length text) MOST_DIGITS && list_all is_digit text
    && nat_le least (number_of_digits text) && nat_le (number_of_digits text) greatest
    then Some (number_of_digits text)
    else None

-- no option yet
abbrev pub nothing_given : Given
nothing_given =
    record { mode = None; workers = None; from = None; to = None; budget = None; number = None }

-- an option that had no value takes this one
abbrev pub taken : {V : Type 0} → Option V → Option V → (V → Given) → Reading
taken None (Some value) put = Between (put value)
taken had value put = Refused

-- the option takes this value, unless it has one, or the text is no value of it
abbrev pub with_value : OptionName → List ℕ → Given → Reading
with_value Mode text given = taken given.mode (mode_of text) (λ m. record given { mode = Some m })
with_value Workers text given =
    taken given.workers (number_in 1 MOST_WORKERS text) (λ n. record given { workers = Some n })
with_value From text given =
    taken given.from (number_in 0 LAST_FRAME text) (λ n. record given { from = Some n })
with_value To text given =
    taken given.to (number_in 0 LAST_FRAME text) (λ n. record given { to = Some n })
with_value Budget text given =
    taken given.budget (number_in 0 MOST_BUDGET text) (λ n. record given { budget = Some n })
with_value Seed text given =
    taken given.number (number_in 0 MOST_NUMBER text) (λ n. record given { number = Some n })

-- the word is the option's name
abbrev pub is_name : OptionName → List ℕ → Bool
is_name name word = bytes_eq word (text_of name)

-- the word begins with the option's name and the sign `=`
abbrev pub has_value : OptionName → List ℕ → Bool
has_value name word = bytes_eq (take (length (text_of name) + 1) word) (text_of name ++ codes "=")

abbrev pub value_of : OptionName → List ℕ → List ℕ
value_of name word = drop (length (text_of name) + 1) word

-- a word that is an option's name and its value
abbrev pub option_and_value : Given → List ℕ → Reading
option_and_value given word =
    if has_value Mode word then with_value Mode (value_of Mode word) given
    else (if has_value Workers word then with_value Workers (value_of Workers word) given
    else (if has_value From word then with_value From (value_of From word) given
    else (if has_value To word then with_value To (value_of To word) given
    else (if has_value Budget word then with_value Budget (value_of Budget word) given
    else (if has_value Seed word then with_value Seed (value_of Seed word) given
    else Refused)))))

-- a word that begins an option
abbrev pub option_at : Given → List ℕ → Reading
option_at given word =
    if is_name Mode word then Awaits Mode given
    else (if is_name Workers word then Awaits Workers given
    else (if is_name From word then Awaits From given
    else (if is_name To word then Awaits To given
    else (if is_name Budget word then Awaits Budget given
    else (if is_name Seed word then Awaits Seed given
    else option_and_value given word)))))

-- one more word
abbrev pub next : Reading → List ℕ → Reading
next Refused word = Refused
next (Between given) word = option_at given word
next (Awaits name given) word = with_value name word given

abbrev pub settings_of : Given → Settings
settings_of given = record {
  mode = unwrap_or given.mode Render;
  workers = unwrap_or given.workers DEFAULT_WORKERS;
  from = unwrap_or given.from 0;
  to = given.to;
  budget = unwrap_or given.budget DEFAULT_BUDGET;
  number = unwrap_or given.number DEFAULT_NUMBER;
}

-- the settings, where each option has its value
abbrev pub finished : Reading → Option Settings
finished Refused = None
finished (Between given) = Some (settings_of given)
finished (Awaits name given) = None

-- none where the words are refused
abbrev pub words_of : List (List ℕ) → Option Settings
words_of words = finished (fold next (Between nothing_given) words)
