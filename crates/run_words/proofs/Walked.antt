-- What clap makes of an option and its value, one word after another.
use Rattle.std.proofs.Common.{◌≡◌, ◌&&◌, List, [], ◌∷◌, Bool, true, false, cond, Option, Some, None, refl}
use Rattle.clap.specs.Kinds.{Kinds, or_else}
use Rattle.clap.specs.Walk.{Held, Row, Rule, Walk, has_row, option, settled, used, walk_from, walked}
use Rattle.clap.specs.Simple.{Shape, built, filled}
use Rattle.clap.specs.Faults.{settle_fault, turn_fault, use_fault}
use Rattle.clap.specs.declared.error.kind.ErrorKind.TheVariants.{ArgumentConflict}
use Rattle.run_words.specs.declared.words.OptionName.{OptionName}
use Rattle.run_words.specs.declared.words.OptionName.TheVariants.{Mode, Workers, From, To, Budget, Seed}
use Rattle.run_words.specs.Words.{text_of}
use Rattle.run_words.specs.Options.{id_of, option_app, option_rule}
use Rattle.run_words.proofs.Forms.{Text, joined}

-- the command, and its arguments, as clap builds them
abbrev pub top : Shape
top = (built option_app).top

abbrev pub rules : List Rule
rules = top.rules

abbrev pub rule_for : OptionName → Rule
rule_for name = filled (option_rule (id_of name))

-- nothing pends
abbrev pub at_rows : List Row → Held
at_rows rows = record { rows = rows; pending = None; skip = 0 }

abbrev pub pends : List Row → OptionName → List Text → Held
pends rows name values = record { rows = rows; pending = Some (id_of name, values); skip = 0 }

-- an option waits for its value
abbrev pub waits_for : List Row → OptionName → Walk
waits_for rows name = record (walk_from (pends rows name [])) { waiting = option (id_of name) }

-- what is held, where no flags are to be passed over
abbrev pub held : List Row → Option (Text × List Text) → Held
held rows pending = record { rows = rows; pending = pending; skip = 0 }

abbrev pub settled_rows : List Row → Option (Text × List Text) → List Row
settled_rows rows pending = (settled rules (held rows pending)).rows

abbrev pub settling : List Row → Option (Text × List Text) → Kinds
settling rows pending = settle_fault rules false (held rows pending)

-- ---- a word that is an option's name

pub name_walked : (rows : List Row) (pending : Option (Text × List Text)) (name : OptionName)
    → walked rules [] (walk_from (held rows pending)) (text_of name) ≡ waits_for (settled_rows rows pending) name
unfolding walked
name_walked rows pending Mode = refl
name_walked rows pending Workers = refl
name_walked rows pending From = refl
name_walked rows pending To = refl
name_walked rows pending Budget = refl
name_walked rows pending Seed = refl

pub name_fault : (rows : List Row) (pending : Option (Text × List Text)) (name : OptionName)
    → turn_fault top [] (walk_from (held rows pending)) (text_of name) ≡ or_else (settling rows pending) []
name_fault rows pending Mode = refl
name_fault rows pending Workers = refl
name_fault rows pending From = refl
name_fault rows pending To = refl
name_fault rows pending Budget = refl
name_fault rows pending Seed = refl

-- ---- a word that is an option's name and its value

pub joined_walked : (rows : List Row) (pending : Option (Text × List Text)) (name : OptionName) (value : Text)
    → walked rules [] (walk_from (held rows pending)) (joined name value) ≡ walk_from (at_rows (used (rule_for name) (value ∷ []) (settled_rows rows pending)))
unfolding walked
joined_walked rows pending Mode value = refl
joined_walked rows pending Workers value = refl
joined_walked rows pending From value = refl
joined_walked rows pending To value = refl
joined_walked rows pending Budget value = refl
joined_walked rows pending Seed value = refl

pub joined_fault : (rows : List Row) (pending : Option (Text × List Text)) (name : OptionName) (value : Text)
    → turn_fault top [] (walk_from (held rows pending)) (joined name value)
    ≡ or_else (or_else (settling rows pending) (use_fault false (rule_for name) (value ∷ []) (settled_rows rows pending))) []
joined_fault rows pending Mode value = refl
joined_fault rows pending Workers value = refl
joined_fault rows pending From value = refl
joined_fault rows pending To value = refl
joined_fault rows pending Budget value = refl
joined_fault rows pending Seed value = refl

-- a value is refused where the option has one
pub use_is : (name : OptionName) (value : Text) (rows : List Row) → use_fault false (rule_for name) (value ∷ []) rows ≡ cond (has_row (id_of name) rows) (ArgumentConflict ∷ []) []
use_is name value rows = go (has_row (id_of name) rows)
  where
    go : (b : Bool) → or_else (cond (b && true) (ArgumentConflict ∷ []) []) [] ≡ cond b (ArgumentConflict ∷ []) []
    go true = refl
    go false = refl

-- ---- a value that pends

pub value_settling : (rows : List Row) (name : OptionName) (value : Text)
    → settling rows (Some (id_of name, value ∷ [])) ≡ use_fault false (rule_for name) (value ∷ []) rows
value_settling rows Mode value = refl
value_settling rows Workers value = refl
value_settling rows From value = refl
value_settling rows To value = refl
value_settling rows Budget value = refl
value_settling rows Seed value = refl

pub value_settled : (rows : List Row) (name : OptionName) (value : Text)
    → settled_rows rows (Some (id_of name, value ∷ [])) ≡ used (rule_for name) (value ∷ []) rows
value_settled rows Mode value = refl
value_settled rows Workers value = refl
value_settled rows From value = refl
value_settled rows To value = refl
value_settled rows Budget value = refl
value_settled rows Seed value = refl
