-- What the rows of clap say of the options that were read.
use Rattle.std.proofs.Common.{◌≡◌, ◌∙◌, ◌||◌, ℕ, List, [], ◌∷◌, ◌++◌, Bool, true, false, cond, map, find, slice_get, option_map, option_and_then, Option, Some, None, bytes_eq, refl, sym, ap, true≢false, append-nil}
use Rattle.std.proofs.lemmas.List.{map-append}
use Rattle.clap.specs.Walk.{Row, at_row, first_of, has_row, more_values, used, with_values, without}
use Rattle.clap.specs.declared.builder.value_parser.Reading.TheVariants.{AsWritten}
use Rattle.clap.specs.declared.parser.matches.ValueSource.TheVariants.{CommandLine}
use Rattle.run_words.specs.declared.settings.RunMode.{RunMode}
use Rattle.run_words.specs.declared.settings.TheConstants.{MOST_WORKERS, MOST_BUDGET, MOST_NUMBER, LAST_FRAME}
use Rattle.run_words.specs.declared.words.OptionName.{OptionName}
use Rattle.run_words.specs.declared.words.OptionName.TheVariants.{Mode, Workers, From, To, Budget, Seed}
use Rattle.run_words.specs.declared.words.Given.{Given}
use Rattle.run_words.specs.declared.words.Reading.{Reading}
use Rattle.run_words.specs.declared.words.Reading.TheVariants.{Refused, Between}
use Rattle.run_words.specs.Words.{mode_of, number_in, taken, with_value}
use Rattle.run_words.specs.Options.{all_given, given_by, id_of, judged}
use Rattle.run_words.proofs.Forms.{Text}
use Rattle.run_words.proofs.Walked.{rule_for}

-- an option that was read, with its value
abbrev pub Entry : Type 0
Entry = OptionName × Text

abbrev pub row_for : Entry → Row
row_for e = record { id = id_of e.0; values = e.1 ∷ []; count = None; source = Some CommandLine; reading = AsWritten }

abbrev pub rows_for : List Entry → List Row
rows_for = map row_for

-- the option was read
abbrev pub was_read : OptionName → List Entry → Bool
was_read name es = has_row (id_of name) (rows_for es)

abbrev value_read : OptionName → List Entry → Option Text
value_read name es = first_of (id_of name) (rows_for es)

-- ---- rows

at_no_row : (id : Text) (change : Row → List Row) (missing rows : List Row) → has_row id rows ≡ false → at_row id change missing rows ≡ rows ++ missing
at_no_row id change missing [] e = refl
at_no_row id change missing (r ∷ rs) e = go (bytes_eq r.id id) e (at_no_row id change missing rs)
  where
    go : (b : Bool) → (b || has_row id rs) ≡ false → (has_row id rs ≡ false → at_row id change missing rs ≡ rs ++ missing)
        → cond b (change r ++ rs) (r ∷ at_row id change missing rs) ≡ r ∷ (rs ++ missing)
    go true h later = absurd (true≢false h)
    go false h later = ap (λ xs. r ∷ xs) (later h)

-- a first use of an option is one more row
pub used_once : (name : OptionName) (value : Text) (es : List Entry) → was_read name es ≡ false
    → used (rule_for name) (value ∷ []) (rows_for es) ≡ rows_for (es ++ (name, value) ∷ [])
used_once name value es e =
    let kept : without (id_of name) (rows_for es) ≡ rows_for es = at_no_row (id_of name) (λ _. []) [] (rows_for es) e ∙ append-nil (rows_for es) in
    ap (with_values (id_of name) AsWritten CommandLine (value ∷ [])) kept
    ∙ at_no_row (id_of name) (more_values CommandLine (value ∷ [])) (row_for (name, value) ∷ []) (rows_for es) e
    ∙ sym (map-append row_for es ((name, value) ∷ []))

-- ---- the value of an option

same_id : (name : OptionName) → bytes_eq (id_of name) (id_of name) ≡ true
same_id Mode = refl
same_id Workers = refl
same_id From = refl
same_id To = refl
same_id Budget = refl
same_id Seed = refl

abbrev first_in : Option Row → Option Text
first_in = option_and_then (λ r. slice_get r.values 0)

none_read : (name : OptionName) (es : List Entry) → was_read name es ≡ false → value_read name es ≡ None
none_read name [] e = refl
none_read name (x ∷ xs) e = go (bytes_eq (id_of x.0) (id_of name)) e (none_read name xs)
  where
    go : (b : Bool) → (b || was_read name xs) ≡ false → (was_read name xs ≡ false → value_read name xs ≡ None)
        → first_in (cond b (Some (row_for x)) (find (λ r. bytes_eq r.id (id_of name)) (rows_for xs))) ≡ None
    go true h later = absurd (true≢false h)
    go false h later = later h

some_read : (name : OptionName) (es : List Entry) → was_read name es ≡ true → (text : Text) × (value_read name es ≡ Some text)
some_read name [] e = absurd (true≢false (sym e))
some_read name (x ∷ xs) e = go (bytes_eq (id_of x.0) (id_of name)) e (some_read name xs)
  where
    go : (b : Bool) → (b || was_read name xs) ≡ true → (was_read name xs ≡ true → (text : Text) × (value_read name xs ≡ Some text))
        → (text : Text) × (first_in (cond b (Some (row_for x)) (find (λ r. bytes_eq r.id (id_of name)) (rows_for xs))) ≡ Some text)
    go true h later = (x.1, refl)
    go false h later = later h

read_last : (name : OptionName) (value : Text) (es : List Entry) → was_read name es ≡ false → value_read name (es ++ (name, value) ∷ []) ≡ Some value
read_last name value [] e = ap (λ b. first_in (cond b (Some (row_for (name, value))) None)) (same_id name)
read_last name value (x ∷ xs) e = go (bytes_eq (id_of x.0) (id_of name)) e (read_last name value xs)
  where
    go : (b : Bool) → (b || was_read name xs) ≡ false → (was_read name xs ≡ false → value_read name (xs ++ (name, value) ∷ []) ≡ Some value)
        → first_in (cond b (Some (row_for x)) (find (λ r. bytes_eq r.id (id_of name)) (rows_for (xs ++ (name, value) ∷ [])))) ≡ Some value
    go true h later = absurd (true≢false h)
    go false h later = later h

read_other : (name other : OptionName) (value : Text) → bytes_eq (id_of name) (id_of other) ≡ false → (es : List Entry)
    → value_read other (es ++ (name, value) ∷ []) ≡ value_read other es
read_other name other value differ [] = ap (λ b. first_in (cond b (Some (row_for (name, value))) None)) differ
read_other name other value differ (x ∷ xs) = go (bytes_eq (id_of x.0) (id_of other)) (read_other name other value differ xs)
  where
    go : (b : Bool) → value_read other (xs ++ (name, value) ∷ []) ≡ value_read other xs
        → first_in (cond b (Some (row_for x)) (find (λ r. bytes_eq r.id (id_of other)) (rows_for (xs ++ (name, value) ∷ []))))
        ≡ first_in (cond b (Some (row_for x)) (find (λ r. bytes_eq r.id (id_of other)) (rows_for xs)))
    go true later = refl
    go false later = later

-- ---- what the values say

abbrev pub reading_of : Option Given → Reading
reading_of None = Refused
reading_of (Some given) = Between given

-- what was read so far, with one more value
abbrev pub with_entry : OptionName → Text → Reading → Reading
with_entry name value (Between given) = with_value name value given
with_entry name value _ = Refused

-- what the rows say
abbrev pub said : List Row → Reading
said rows = reading_of (given_by (λ id. first_of id rows))

-- one more value, where the others are judged so

abbrev took_mode : Option RunMode → Reading → Reading
took_mode x (Between given) = taken given.mode x (λ v. record given { mode = Some v })
took_mode x _ = Refused

mode_said : (x : Option RunMode) (w f t b s : Option (Option ℕ))
    → reading_of (all_given (option_map (λ v. Some v) x) w f t b s) ≡ took_mode x (reading_of (all_given (Some None) w f t b s))
mode_said None (Some w) (Some f) (Some t) (Some b) (Some s) = refl
mode_said (Some v) (Some w) (Some f) (Some t) (Some b) (Some s) = refl
mode_said x w f t b s = refl

mode_again : (old x : Option RunMode) (w f t b s : Option (Option ℕ)) → took_mode x (reading_of (all_given (option_map (λ v. Some v) old) w f t b s)) ≡ Refused
mode_again None x (Some w) (Some f) (Some t) (Some b) (Some s) = refl
mode_again (Some v) x (Some w) (Some f) (Some t) (Some b) (Some s) = refl
mode_again old x w f t b s = refl

abbrev took_workers : Option ℕ → Reading → Reading
took_workers x (Between given) = taken given.workers x (λ v. record given { workers = Some v })
took_workers x _ = Refused

workers_said : (x : Option ℕ) (m : Option (Option RunMode)) (f t b s : Option (Option ℕ))
    → reading_of (all_given m (option_map (λ v. Some v) x) f t b s) ≡ took_workers x (reading_of (all_given m (Some None) f t b s))
workers_said None (Some m) (Some f) (Some t) (Some b) (Some s) = refl
workers_said (Some v) (Some m) (Some f) (Some t) (Some b) (Some s) = refl
workers_said x m f t b s = refl

workers_again : (old x : Option ℕ) (m : Option (Option RunMode)) (f t b s : Option (Option ℕ)) → took_workers x (reading_of (all_given m (option_map (λ v. Some v) old) f t b s)) ≡ Refused
workers_again None x (Some m) (Some f) (Some t) (Some b) (Some s) = refl
workers_again (Some v) x (Some m) (Some f) (Some t) (Some b) (Some s) = refl
workers_again old x m f t b s = refl

abbrev took_from : Option ℕ → Reading → Reading
took_from x (Between given) = taken given.from x (λ v. record given { from = Some v })
took_from x _ = Refused

from_said : (x : Option ℕ) (m : Option (Option RunMode)) (w t b s : Option (Option ℕ))
    → reading_of (all_given m w (option_map (λ v. Some v) x) t b s) ≡ took_from x (reading_of (all_given m w (Some None) t b s))
from_said None (Some m) (Some w) (Some t) (Some b) (Some s) = refl
from_said (Some v) (Some m) (Some w) (Some t) (Some b) (Some s) = refl
from_said x m w t b s = refl

from_again : (old x : Option ℕ) (m : Option (Option RunMode)) (w t b s : Option (Option ℕ)) → took_from x (reading_of (all_given m w (option_map (λ v. Some v) old) t b s)) ≡ Refused
from_again None x (Some m) (Some w) (Some t) (Some b) (Some s) = refl
from_again (Some v) x (Some m) (Some w) (Some t) (Some b) (Some s) = refl
from_again old x m w t b s = refl

abbrev took_to : Option ℕ → Reading → Reading
took_to x (Between given) = taken given.to x (λ v. record given { to = Some v })
took_to x _ = Refused

to_said : (x : Option ℕ) (m : Option (Option RunMode)) (w f b s : Option (Option ℕ))
    → reading_of (all_given m w f (option_map (λ v. Some v) x) b s) ≡ took_to x (reading_of (all_given m w f (Some None) b s))
to_said None (Some m) (Some w) (Some f) (Some b) (Some s) = refl
to_said (Some v) (Some m) (Some w) (Some f) (Some b) (Some s) = refl
to_said x m w f b s = refl

to_again : (old x : Option ℕ) (m : Option (Option RunMode)) (w f b s : Option (Option ℕ)) → took_to x (reading_of (all_given m w f (option_map (λ v. Some v) old) b s)) ≡ Refused
to_again None x (Some m) (Some w) (Some f) (Some b) (Some s) = refl
to_again (Some v) x (Some m) (Some w) (Some f) (Some b) (Some s) = refl
to_again old x m w f b s = refl

abbrev took_budget : Option ℕ → Reading → Reading
took_budget x (Between given) = taken given.budget x (λ v. record given { budget = Some v })
took_budget x _ = Refused

budget_said : (x : Option ℕ) (m : Option (Option RunMode)) (w f t s : Option (Option ℕ))
    → reading_of (all_given m w f t (option_map (λ v. Some v) x) s) ≡ took_budget x (reading_of (all_given m w f t (Some None) s))
budget_said None (Some m) (Some w) (Some f) (Some t) (Some s) = refl
budget_said (Some v) (Some m) (Some w) (Some f) (Some t) (Some s) = refl
budget_said x m w f t s = refl

budget_again : (old x : Option ℕ) (m : Option (Option RunMode)) (w f t s : Option (Option ℕ)) → took_budget x (reading_of (all_given m w f t (option_map (λ v. Some v) old) s)) ≡ Refused
budget_again None x (Some m) (Some w) (Some f) (Some t) (Some s) = refl
budget_again (Some v) x (Some m) (Some w) (Some f) (Some t) (Some s) = refl
budget_again old x m w f t s = refl

abbrev took_seed : Option ℕ → Reading → Reading
took_seed x (Between given) = taken given.number x (λ v. record given { number = Some v })
took_seed x _ = Refused

seed_said : (x : Option ℕ) (m : Option (Option RunMode)) (w f t b : Option (Option ℕ))
    → reading_of (all_given m w f t b (option_map (λ v. Some v) x)) ≡ took_seed x (reading_of (all_given m w f t b (Some None)))
seed_said None (Some m) (Some w) (Some f) (Some t) (Some b) = refl
seed_said (Some v) (Some m) (Some w) (Some f) (Some t) (Some b) = refl
seed_said x m w f t b = refl

seed_again : (old x : Option ℕ) (m : Option (Option RunMode)) (w f t b : Option (Option ℕ)) → took_seed x (reading_of (all_given m w f t b (option_map (λ v. Some v) old))) ≡ Refused
seed_again None x (Some m) (Some w) (Some f) (Some t) (Some b) = refl
seed_again (Some v) x (Some m) (Some w) (Some f) (Some t) (Some b) = refl
seed_again old x m w f t b = refl

-- ---- one more value

abbrev saying : Option Text → Option Text → Option Text → Option Text → Option Text → Option Text → Reading
saying m w f t b s = reading_of (all_given (judged mode_of m) (judged (number_in 1 MOST_WORKERS) w) (judged (number_in 0 LAST_FRAME) f)
    (judged (number_in 0 LAST_FRAME) t) (judged (number_in 0 MOST_BUDGET) b) (judged (number_in 0 MOST_NUMBER) s))

-- a first value of an option is taken as the rules take it
pub said_more : (name : OptionName) (value : Text) (es : List Entry) → was_read name es ≡ false
    → said (rows_for (es ++ (name, value) ∷ [])) ≡ with_entry name value (said (rows_for es))
said_more Mode value es e =
    (λ i. saying (read_last Mode value es e i) (read_other Mode Workers value refl es i) (read_other Mode From value refl es i) (read_other Mode To value refl es i) (read_other Mode Budget value refl es i) (read_other Mode Seed value refl es i))
    ∙ mode_said (mode_of value) (judged (number_in 1 MOST_WORKERS) (value_read Workers es)) (judged (number_in 0 LAST_FRAME) (value_read From es)) (judged (number_in 0 LAST_FRAME) (value_read To es)) (judged (number_in 0 MOST_BUDGET) (value_read Budget es)) (judged (number_in 0 MOST_NUMBER) (value_read Seed es))
    ∙ ap (with_entry Mode value) (ap (λ v. saying v (value_read Workers es) (value_read From es) (value_read To es) (value_read Budget es) (value_read Seed es)) (sym (none_read Mode es e)))
said_more Workers value es e =
    (λ i. saying (read_other Workers Mode value refl es i) (read_last Workers value es e i) (read_other Workers From value refl es i) (read_other Workers To value refl es i) (read_other Workers Budget value refl es i) (read_other Workers Seed value refl es i))
    ∙ workers_said (number_in 1 MOST_WORKERS value) (judged mode_of (value_read Mode es)) (judged (number_in 0 LAST_FRAME) (value_read From es)) (judged (number_in 0 LAST_FRAME) (value_read To es)) (judged (number_in 0 MOST_BUDGET) (value_read Budget es)) (judged (number_in 0 MOST_NUMBER) (value_read Seed es))
    ∙ ap (with_entry Workers value) (ap (λ v. saying (value_read Mode es) v (value_read From es) (value_read To es) (value_read Budget es) (value_read Seed es)) (sym (none_read Workers es e)))
said_more From value es e =
    (λ i. saying (read_other From Mode value refl es i) (read_other From Workers value refl es i) (read_last From value es e i) (read_other From To value refl es i) (read_other From Budget value refl es i) (read_other From Seed value refl es i))
    ∙ from_said (number_in 0 LAST_FRAME value) (judged mode_of (value_read Mode es)) (judged (number_in 1 MOST_WORKERS) (value_read Workers es)) (judged (number_in 0 LAST_FRAME) (value_read To es)) (judged (number_in 0 MOST_BUDGET) (value_read Budget es)) (judged (number_in 0 MOST_NUMBER) (value_read Seed es))
    ∙ ap (with_entry From value) (ap (λ v. saying (value_read Mode es) (value_read Workers es) v (value_read To es) (value_read Budget es) (value_read Seed es)) (sym (none_read From es e)))
said_more To value es e =
    (λ i. saying (read_other To Mode value refl es i) (read_other To Workers value refl es i) (read_other To From value refl es i) (read_last To value es e i) (read_other To Budget value refl es i) (read_other To Seed value refl es i))
    ∙ to_said (number_in 0 LAST_FRAME value) (judged mode_of (value_read Mode es)) (judged (number_in 1 MOST_WORKERS) (value_read Workers es)) (judged (number_in 0 LAST_FRAME) (value_read From es)) (judged (number_in 0 MOST_BUDGET) (value_read Budget es)) (judged (number_in 0 MOST_NUMBER) (value_read Seed es))
    ∙ ap (with_entry To value) (ap (λ v. saying (value_read Mode es) (value_read Workers es) (value_read From es) v (value_read Budget es) (value_read Seed es)) (sym (none_read To es e)))
said_more Budget value es e =
    (λ i. saying (read_other Budget Mode value refl es i) (read_other Budget Workers value refl es i) (read_other Budget From value refl es i) (read_other Budget To value refl es i) (read_last Budget value es e i) (read_other Budget Seed value refl es i))
    ∙ budget_said (number_in 0 MOST_BUDGET value) (judged mode_of (value_read Mode es)) (judged (number_in 1 MOST_WORKERS) (value_read Workers es)) (judged (number_in 0 LAST_FRAME) (value_read From es)) (judged (number_in 0 LAST_FRAME) (value_read To es)) (judged (number_in 0 MOST_NUMBER) (value_read Seed es))
    ∙ ap (with_entry Budget value) (ap (λ v. saying (value_read Mode es) (value_read Workers es) (value_read From es) (value_read To es) v (value_read Seed es)) (sym (none_read Budget es e)))
said_more Seed value es e =
    (λ i. saying (read_other Seed Mode value refl es i) (read_other Seed Workers value refl es i) (read_other Seed From value refl es i) (read_other Seed To value refl es i) (read_other Seed Budget value refl es i) (read_last Seed value es e i))
    ∙ seed_said (number_in 0 MOST_NUMBER value) (judged mode_of (value_read Mode es)) (judged (number_in 1 MOST_WORKERS) (value_read Workers es)) (judged (number_in 0 LAST_FRAME) (value_read From es)) (judged (number_in 0 LAST_FRAME) (value_read To es)) (judged (number_in 0 MOST_BUDGET) (value_read Budget es))
    ∙ ap (with_entry Seed value) (ap (λ v. saying (value_read Mode es) (value_read Workers es) (value_read From es) (value_read To es) (value_read Budget es) v) (sym (none_read Seed es e)))

-- a second value of an option is refused
pub said_again : (name : OptionName) (value : Text) (es : List Entry) → was_read name es ≡ true → with_entry name value (said (rows_for es)) ≡ Refused
said_again Mode value es e =
    ap (with_entry Mode value) (ap (λ v. saying v (value_read Workers es) (value_read From es) (value_read To es) (value_read Budget es) (value_read Seed es)) (some_read Mode es e).1)
    ∙ mode_again (mode_of (some_read Mode es e).0) (mode_of value) (judged (number_in 1 MOST_WORKERS) (value_read Workers es)) (judged (number_in 0 LAST_FRAME) (value_read From es)) (judged (number_in 0 LAST_FRAME) (value_read To es)) (judged (number_in 0 MOST_BUDGET) (value_read Budget es)) (judged (number_in 0 MOST_NUMBER) (value_read Seed es))
said_again Workers value es e =
    ap (with_entry Workers value) (ap (λ v. saying (value_read Mode es) v (value_read From es) (value_read To es) (value_read Budget es) (value_read Seed es)) (some_read Workers es e).1)
    ∙ workers_again (number_in 1 MOST_WORKERS (some_read Workers es e).0) (number_in 1 MOST_WORKERS value) (judged mode_of (value_read Mode es)) (judged (number_in 0 LAST_FRAME) (value_read From es)) (judged (number_in 0 LAST_FRAME) (value_read To es)) (judged (number_in 0 MOST_BUDGET) (value_read Budget es)) (judged (number_in 0 MOST_NUMBER) (value_read Seed es))
said_again From value es e =
    ap (with_entry From value) (ap (λ v. saying (value_read Mode es) (value_read Workers es) v (value_read To es) (value_read Budget es) (value_read Seed es)) (some_read From es e).1)
    ∙ from_again (number_in 0 LAST_FRAME (some_read From es e).0) (number_in 0 LAST_FRAME value) (judged mode_of (value_read Mode es)) (judged (number_in 1 MOST_WORKERS) (value_read Workers es)) (judged (number_in 0 LAST_FRAME) (value_read To es)) (judged (number_in 0 MOST_BUDGET) (value_read Budget es)) (judged (number_in 0 MOST_NUMBER) (value_read Seed es))
said_again To value es e =
    ap (with_entry To value) (ap (λ v. saying (value_read Mode es) (value_read Workers es) (value_read From es) v (value_read Budget es) (value_read Seed es)) (some_read To es e).1)
    ∙ to_again (number_in 0 LAST_FRAME (some_read To es e).0) (number_in 0 LAST_FRAME value) (judged mode_of (value_read Mode es)) (judged (number_in 1 MOST_WORKERS) (value_read Workers es)) (judged (number_in 0 LAST_FRAME) (value_read From es)) (judged (number_in 0 MOST_BUDGET) (value_read Budget es)) (judged (number_in 0 MOST_NUMBER) (value_read Seed es))
said_again Budget value es e =
    ap (with_entry Budget value) (ap (λ v. saying (value_read Mode es) (value_read Workers es) (value_read From es) (value_read To es) v (value_read Seed es)) (some_read Budget es e).1)
    ∙ budget_again (number_in 0 MOST_BUDGET (some_read Budget es e).0) (number_in 0 MOST_BUDGET value) (judged mode_of (value_read Mode es)) (judged (number_in 1 MOST_WORKERS) (value_read Workers es)) (judged (number_in 0 LAST_FRAME) (value_read From es)) (judged (number_in 0 LAST_FRAME) (value_read To es)) (judged (number_in 0 MOST_NUMBER) (value_read Seed es))
said_again Seed value es e =
    ap (with_entry Seed value) (ap (λ v. saying (value_read Mode es) (value_read Workers es) (value_read From es) (value_read To es) (value_read Budget es) v) (some_read Seed es e).1)
    ∙ seed_again (number_in 0 MOST_NUMBER (some_read Seed es e).0) (number_in 0 MOST_NUMBER value) (judged mode_of (value_read Mode es)) (judged (number_in 1 MOST_WORKERS) (value_read Workers es)) (judged (number_in 0 LAST_FRAME) (value_read From es)) (judged (number_in 0 LAST_FRAME) (value_read To es)) (judged (number_in 0 MOST_BUDGET) (value_read Budget es))
