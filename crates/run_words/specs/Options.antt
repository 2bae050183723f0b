-- The command that reads the options, and what their values say.
use Rattle.std.specs.Prelude.{ℕ, List, codes, Bool, true, Option, Some, None, option_map}
use Rattle.clap.specs.Words.{App, Rule, new_app, new_rule, with_rule}
use Rattle.clap.specs.declared.builder.action.ArgAction.TheVariants.{Set}
use Rattle.run_words.specs.declared.settings.RunMode.{RunMode}
use Rattle.run_words.specs.declared.settings.TheConstants.{MOST_WORKERS, MOST_BUDGET, MOST_NUMBER, LAST_FRAME}
use Rattle.run_words.specs.declared.words.OptionName.{OptionName}
use Rattle.run_words.specs.declared.words.OptionName.TheVariants.{Mode, Workers, From, To, Budget, Seed}
use Rattle.run_words.specs.declared.words.Given.{Given}
use Rattle.run_words.specs.Words.{mode_of, number_in}
use Rattle.std.specs.Str.{bytes_eq}

-- the option's name, as it stands after `--`
abbrev pub id_of : OptionName → List ℕ
id_of Mode = codes "mode"
id_of Workers = codes "workers"
id_of From = codes "from"
id_of To = codes "to"
id_of Budget = codes "budget"
id_of Seed = codes "seed"

-- the word is `--`
abbrev pub is_dashes : List ℕ → Bool
is_dashes word = bytes_eq word (codes "--")

-- an option that takes one value
abbrev pub option_rule : List ℕ → Rule
option_rule name = record (new_rule name) { long = Some name; action = Some Set }

-- the command with no option
abbrev pub bare_app : App
bare_app =
    let app = new_app (codes "run") in
    record app {
      top = record app.top {
        no_binary_name = true;
        disable_help_flag = true;
        disable_version_flag = true;
      };
    }

abbrev pub with_option : App → OptionName → App
with_option app name = with_rule app (option_rule (id_of name))

-- the command whose arguments are the options
abbrev pub option_app : App
option_app =
    with_option (with_option (with_option (with_option (with_option (with_option bare_app Mode)
    Workers) From) To) Budget) Seed

-- what a rule makes of an option's value, where it has one; none where it refuses it
abbrev pub judged : {V : Type 0} → (List ℕ → Option V) → Option (List ℕ) → Option (Option V)
judged rule None = Some None
judged rule (Some text) = option_map (λ v. Some v) (rule text)

abbrev pub all_given : Option (Option RunMode) → Option (Option ℕ) → Option (Option ℕ)
    → Option (Option ℕ) → Option (Option ℕ) → Option (Option ℕ) → Option Given
all_given (Some mode) (Some workers) (Some from) (Some to) (Some budget) (Some number) = Some (record {
  mode = mode;
  workers = workers;
  from = from;
  to = to;
  budget = budget;
  number = number;
})
all_given _ _ _ _ _ _ = None

-- what the values say, by the option's name; none where one is refused
abbrev pub given_by : (List ℕ → Option (List ℕ)) → Option Given
given_by value = all_given (judged mode_of (value (id_of Mode)))
    (judged (number_in 1 MOST_WORKERS) (value (id_of Workers)))
    (judged (number_in 0 LAST_FRAME) (value (id_of From)))
    (judged (number_in 0 LAST_FRAME) (value (id_of To)))
    (judged (number_in 0 MOST_BUDGET) (value (id_of Budget)))
    (judged (number_in 0 MOST_NUMBER) (value (id_of Seed)))
