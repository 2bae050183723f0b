-- The command's matches on the words say what the rules make of the words.
use Rattle.std.proofs.Common.{◌≡◌, ◌∙◌, ◌||◌, List, [], ◌∷◌, ◌++◌, Bool, true, false, cond, map, fold, Option, Some, None, ⊎_elim, refl, sym, ap, ap₂, subst, true≢false}
use Rattle.std.specs.List.{list_any}
use Rattle.clap.specs.Kinds.{HasKind, Kinds, or_else}
use Rattle.clap.specs.Values.{kind_of}
use Rattle.clap.specs.Matches.{first_value, found_of}
use Rattle.clap.specs.Walk.{Row, Walk, first_of, has_row, nothing_held, rows_of, settled, used, walk_from, walked, with_default}
use Rattle.clap.specs.Simple.{App, HasMatchesOf, built, is_simple, matches_of}
use Rattle.clap.specs.Faults.{defaults_fault, fault_of, is_simple_and_free, given_default_fault, settle_fault, turn_fault, use_fault, walk_fault}
use Rattle.clap.specs.declared.error.Error.{Error}
use Rattle.clap.specs.declared.error.kind.ErrorKind.TheVariants.{ArgumentConflict, OutOfMemory}
use Rattle.clap.specs.declared.parser.matches.ArgMatches.{ArgMatches}
use Rattle.clap.proofs.FaultLemmas.{leaf_fault}
use Rattle.clap.proofs.WalkLemmas.{first_value-rows}
use Rattle.run_words.specs.declared.settings.Settings.{Settings}
use Rattle.run_words.specs.declared.words.OptionName.{OptionName}
use Rattle.run_words.specs.declared.words.Given.{Given}
use Rattle.run_words.specs.declared.words.Reading.{Reading}
use Rattle.run_words.specs.declared.words.Reading.TheVariants.{Refused, Between, Awaits}
use Rattle.run_words.specs.Words.{finished, next, text_of, value_of, words_of}
use Rattle.run_words.specs.Options.{given_by, id_of, is_dashes, option_app}
use Rattle.run_words.proofs.Flags.{IsFault, IsPlain, kind_of_word, known, known_fault, no_flag, no_value_fault, other_fault, unknown, unknown_fault, value_fault, value_walked}
use Rattle.run_words.proofs.Forms.{Text, at_joined, at_name, at_other, has_hyphen, hyphen_refused, joined, option_in, option_with_value_in, options, stays_refused, word_is_joined, word_is_name}
use Rattle.run_words.proofs.Walked.{at_rows, held, joined_fault, joined_walked, name_fault, name_walked, rule_for, rules, settled_rows, settling, top, use_is, value_settled, value_settling, waits_for}
use Rattle.run_words.proofs.Said.{Entry, reading_of, rows_for, said, said_again, said_more, used_once, was_read, with_entry}

-- no settings where a fault is
abbrev verdict : Kinds → Option Settings → Option Settings
verdict [] settings = settings
verdict (k ∷ ks) settings = None

abbrev walk_to : Walk → List Text → Walk
walk_to w words = fold (walked rules []) w words

-- the faults of the words, and of what pends after them
abbrev faults : Walk → List Text → Kinds
faults w words = or_else (walk_fault top [] w words) (settle_fault rules false (walk_to w words).held)

abbrev rows_at_end : Walk → List Text → List Row
rows_at_end w words = (settled rules (walk_to w words).held).rows

-- the settings that the walk gives
outcome : Walk → List Text → Option Settings
outcome w words = verdict (faults w words) (finished (said (rows_at_end w words)))

-- ---- one word more

verdict_or : (a b : Kinds) (x : Option Settings) → verdict (or_else a b) x ≡ verdict a (verdict b x)
verdict_or [] b x = refl
verdict_or (k ∷ ks) b x = refl

verdict_first : (a b c : Kinds) (x : Option Settings) → verdict (or_else (or_else a b) c) x ≡ verdict a (verdict (or_else b c) x)
verdict_first [] b c x = refl
verdict_first (k ∷ ks) b c x = refl

outcome_end : (w : Walk) → outcome w [] ≡ verdict (settle_fault rules false w.held) (finished (said (settled rules w.held).rows))
unfolding outcome walk_fault
outcome_end w = refl

outcome_word : (w : Walk) (word : Text) (rest : List Text) → outcome w (word ∷ rest) ≡ verdict (turn_fault top [] w word) (outcome (walked rules [] w word) rest)
unfolding outcome walk_fault
outcome_word w word rest =
    verdict_first (turn_fault top [] w word) (walk_fault top [] (walked rules [] w word) rest) (settle_fault rules false (walk_to w (word ∷ rest)).held)
    (finished (said (rows_at_end w (word ∷ rest))))

at_word_name : (rows : List Row) (pending : Option (Text × List Text)) (name : OptionName) (rest : List Text)
    → outcome (walk_from (held rows pending)) (text_of name ∷ rest) ≡ verdict (settling rows pending) (outcome (waits_for (settled_rows rows pending) name) rest)
at_word_name rows pending name rest =
    outcome_word (walk_from (held rows pending)) (text_of name) rest
    ∙ ap₂ (λ k w. verdict k (outcome w rest)) (name_fault rows pending name) (name_walked rows pending name)
    ∙ verdict_or (settling rows pending) [] (outcome (waits_for (settled_rows rows pending) name) rest)

abbrev using : OptionName → Text → List Row → Kinds
using name value rows = use_fault false (rule_for name) (value ∷ []) rows

abbrev after_use : OptionName → Text → List Row → Walk
after_use name value rows = walk_from (at_rows (used (rule_for name) (value ∷ []) rows))

at_word_joined : (rows : List Row) (pending : Option (Text × List Text)) (name : OptionName) (value : Text) (rest : List Text)
    → outcome (walk_from (held rows pending)) (joined name value ∷ rest)
    ≡ verdict (settling rows pending) (verdict (using name value (settled_rows rows pending)) (outcome (after_use name value (settled_rows rows pending)) rest))
at_word_joined rows pending name value rest =
    let now = settled_rows rows pending in
    outcome_word (walk_from (held rows pending)) (joined name value) rest
    ∙ ap₂ (λ k w. verdict k (outcome w rest)) (joined_fault rows pending name value) (joined_walked rows pending name value)
    ∙ verdict_first (settling rows pending) (using name value now) [] (outcome (after_use name value now) rest)
    ∙ ap (verdict (settling rows pending)) (verdict_or (using name value now) [] (outcome (after_use name value now) rest))

verdict_none : (k : Kinds) → verdict k None ≡ None
verdict_none [] = refl
verdict_none (k ∷ ks) = refl

verdict_fault : (k : Kinds) (x : Option Settings) → IsFault k → verdict k x ≡ None
verdict_fault [] x h = absurd h
verdict_fault (k ∷ ks) x h = refl

outcome_fault : (w : Walk) (word : Text) (rest : List Text) → IsFault (turn_fault top [] w word) → outcome w (word ∷ rest) ≡ None
outcome_fault w word rest h = outcome_word w word rest ∙ verdict_fault (turn_fault top [] w word) (outcome (walked rules [] w word) rest) h

neither : (a b : Bool) → (a || b) ≡ false → (a ≡ false) × (b ≡ false)
neither true b e = absurd (true≢false e)
neither false b e = (refl, e)

-- what pends may be used before the words that follow
abbrev UsesFirst : List Row → Option (Text × List Text) → List Text → Type 0
UsesFirst rows pending words =
    outcome (walk_from (held rows pending)) words ≡ verdict (settling rows pending) (outcome (walk_from (at_rows (settled_rows rows pending))) words)

use_first : (rows : List Row) (pending : Option (Text × List Text)) (words : List Text) → list_any is_dashes words ≡ false → UsesFirst rows pending words
use_first rows pending [] e =
    outcome_end (walk_from (held rows pending)) ∙ ap (verdict (settling rows pending)) (sym (outcome_end (walk_from (at_rows (settled_rows rows pending)))))
use_first rows pending (word ∷ rest) e = by_word (option_in word) refl (option_with_value_in word) refl
  where
    by_word : (o : Option OptionName) → option_in word ≡ o → (v : Option OptionName) → option_with_value_in word ≡ v → UsesFirst rows pending (word ∷ rest)
    by_word (Some name) is v _ =
        subst (λ (x : Text). UsesFirst rows pending (x ∷ rest)) (sym (word_is_name word name is))
        (at_word_name rows pending name rest ∙ ap (verdict (settling rows pending)) (sym (at_word_name (settled_rows rows pending) None name rest)))
    by_word None nameless (Some name) is =
        subst (λ (x : Text). UsesFirst rows pending (x ∷ rest)) (sym (word_is_joined word name is))
        (at_word_joined rows pending name (value_of name word) rest
        ∙ ap (verdict (settling rows pending)) (sym (at_word_joined (settled_rows rows pending) None name (value_of name word) rest)))
    by_word None nameless None none =
        let no_dash = (neither (is_dashes word) (list_any is_dashes rest) e).0 in
        outcome_fault (walk_from (held rows pending)) word rest (other_fault rows pending word no_dash nameless none)
        ∙ sym (ap (verdict (settling rows pending))
        (outcome_fault (walk_from (at_rows (settled_rows rows pending))) word rest (other_fault (settled_rows rows pending) None word no_dash nameless none))
        ∙ verdict_none (settling rows pending))

at_word_value : (rows : List Row) (name : OptionName) (value : Text) (rest : List Text) → is_dashes value ≡ false → IsPlain value → list_any is_dashes rest ≡ false
    → outcome (waits_for rows name) (value ∷ rest) ≡ verdict (using name value rows) (outcome (after_use name value rows) rest)
at_word_value rows name value rest no_dash free none =
    outcome_word (waits_for rows name) value rest
    ∙ ap₂ (λ k w. verdict k (outcome w rest)) (value_fault rows name value no_dash free) (value_walked rows name value no_dash free)
    ∙ use_first rows (Some (id_of name, value ∷ [])) rest none
    ∙ ap₂ (λ k r. verdict k (outcome (walk_from (at_rows r)) rest)) (value_settling rows name value) (value_settled rows name value)

-- ---- an option with its value

-- the walk from the rows of the options read so far gives what the rules give
abbrev ReadsAt : List Entry → List Text → Type 0
ReadsAt es words = outcome (walk_from (at_rows (rows_for es))) words ≡ finished (fold next (said (rows_for es)) words)

abbrev ReadsFrom : List Text → Type 0
ReadsFrom words = (es : List Entry) → ReadsAt es words

entry_read : (name : OptionName) (value : Text) (es : List Entry) (rest : List Text) → ReadsFrom rest
    → verdict (using name value (rows_for es)) (outcome (after_use name value (rows_for es)) rest) ≡ finished (fold next (with_entry name value (said (rows_for es))) rest)
entry_read name value es rest later =
    ap (λ k. verdict k (outcome (after_use name value (rows_for es)) rest)) (use_is name value (rows_for es)) ∙ go (was_read name es) refl
  where
    go : (b : Bool) → was_read name es ≡ b
        → verdict (cond b (ArgumentConflict ∷ []) []) (outcome (after_use name value (rows_for es)) rest) ≡ finished (fold next (with_entry name value (said (rows_for es))) rest)
    go true is = sym (ap (λ r. finished (fold next r rest)) (said_again name value es is) ∙ ap finished (stays_refused rest))
    go false is =
        ap (λ r. outcome (walk_from (at_rows r)) rest) (used_once name value es is) ∙ later (es ++ (name, value) ∷ [])
        ∙ ap (λ r. finished (fold next r rest)) (said_more name value es is)

abbrev awaiting : OptionName → Reading → Reading
awaiting name (Between given) = Awaits name given
awaiting name _ = Refused

name_next : (o : Option Given) (name : OptionName) → next (reading_of o) (text_of name) ≡ awaiting name (reading_of o)
name_next None name = refl
name_next (Some given) name = at_name given name

value_next : (o : Option Given) (name : OptionName) (value : Text) → next (awaiting name (reading_of o)) value ≡ with_entry name value (reading_of o)
value_next None name value = refl
value_next (Some given) name value = refl

joined_next : (o : Option Given) (name : OptionName) (value : Text) → next (reading_of o) (joined name value) ≡ with_entry name value (reading_of o)
joined_next None name value = refl
joined_next (Some given) name value = at_joined given name value

other_next : (o : Option Given) (word : Text) → option_in word ≡ None → option_with_value_in word ≡ None → next (reading_of o) word ≡ Refused
other_next None word nameless none = refl
other_next (Some given) word nameless none = at_other given word nameless none

hyphen_next : (o : Option Given) (name : OptionName) (word : Text) → has_hyphen word ≡ true → next (awaiting name (reading_of o)) word ≡ Refused
hyphen_next None name word h = refl
hyphen_next (Some given) name word h = hyphen_refused name word given h

awaiting_end : (o : Option Given) (name : OptionName) → finished (awaiting name (reading_of o)) ≡ None
awaiting_end None name = refl
awaiting_end (Some given) name = refl

abbrev given_of : List Entry → Option Given
given_of es = given_by (λ id. first_of id (rows_for es))

-- ---- all the words

abbrev ReadsAwaited : List Text → Type 0
ReadsAwaited words = (name : OptionName) (es : List Entry) → outcome (waits_for (rows_for es) name) words ≡ finished (fold next (awaiting name (said (rows_for es))) words)

-- whichever comes first, an option or the value that one awaits
abbrev Reads : List Text → Type 0
Reads words = list_any is_dashes words ≡ false → ReadsFrom words × ReadsAwaited words

refused_then : (r : Reading) (rest : List Text) → r ≡ Refused → finished (fold next r rest) ≡ None
refused_then r rest e = ap (λ x. finished (fold next x rest)) e ∙ ap finished (stays_refused rest)

option_read : (word : Text) (rest : List Text) → is_dashes word ≡ false → ReadsFrom rest → ReadsAwaited rest → ReadsFrom (word ∷ rest)
option_read word rest no_dash later awaited es = by_word (option_in word) refl (option_with_value_in word) refl
  where
    by_word : (o : Option OptionName) → option_in word ≡ o → (v : Option OptionName) → option_with_value_in word ≡ v → ReadsAt es (word ∷ rest)
    by_word (Some name) is v _ =
        subst (λ (x : Text). ReadsAt es (x ∷ rest)) (sym (word_is_name word name is))
        (at_word_name (rows_for es) None name rest ∙ awaited name es ∙ ap (λ r. finished (fold next r rest)) (sym (name_next (given_of es) name)))
    by_word None nameless (Some name) is =
        subst (λ (x : Text). ReadsAt es (x ∷ rest)) (sym (word_is_joined word name is))
        (at_word_joined (rows_for es) None name (value_of name word) rest ∙ entry_read name (value_of name word) es rest later
        ∙ ap (λ r. finished (fold next r rest)) (sym (joined_next (given_of es) name (value_of name word))))
    by_word None nameless None none =
        outcome_fault (walk_from (at_rows (rows_for es))) word rest (other_fault (rows_for es) None word no_dash nameless none)
        ∙ sym (refused_then (next (said (rows_for es)) word) rest (other_next (given_of es) word nameless none))

value_read : (word : Text) (rest : List Text) → is_dashes word ≡ false → list_any is_dashes rest ≡ false → ReadsFrom rest → ReadsAwaited (word ∷ rest)
value_read word rest no_dash none later name es = elim (kind_of_word word) [
  | no_flag free ↦
      at_word_value (rows_for es) name word rest no_dash free none ∙ entry_read name word es rest later
      ∙ ap (λ r. finished (fold next r rest)) (sym (value_next (given_of es) name word))
  | unknown h ↦
      outcome_fault (waits_for (rows_for es) name) word rest (unknown_fault (rows_for es) name word no_dash h)
      ∙ sym (refused_then (next (awaiting name (said (rows_for es))) word) rest (hyphen_next (given_of es) name word h.0))
  | known h ↦
      outcome_fault (waits_for (rows_for es) name) word rest (known_fault (rows_for es) name word no_dash h)
      ∙ sym (refused_then (next (awaiting name (said (rows_for es))) word) rest (hyphen_next (given_of es) name word h.0))
]

none_left : ReadsAwaited []
none_left name es =
    outcome_end (waits_for (rows_for es) name)
    ∙ ap (λ k. verdict k (finished (said (settled_rows (rows_for es) (Some (id_of name, [])))))) (no_value_fault (rows_for es) name)
    ∙ sym (awaiting_end (given_of es) name)

reads : (words : List Text) → Reads words
reads [] e = (λ es. outcome_end (walk_from (at_rows (rows_for es))), none_left)
reads (word ∷ rest) e =
    let parts = neither (is_dashes word) (list_any is_dashes rest) e in
    let later = reads rest parts.1 in
    (option_read word rest parts.0 later.0 later.1, value_read word rest parts.0 parts.1 later.0)

-- ---- the command

kept : (name : OptionName) (rows : List Row) → with_default rows (rule_for name) ≡ rows
kept name rows = go (has_row (id_of name) rows)
  where
    go : (b : Bool) → cond b rows rows ≡ rows
    go true = refl
    go false = refl

no_defaults : (names : List OptionName) (rows : List Row) → fold with_default rows (map rule_for names) ≡ rows
no_defaults [] rows = refl
no_defaults (name ∷ names) rows = ap (λ r. fold with_default r (map rule_for names)) (kept name rows) ∙ no_defaults names rows

no_default_fault : (names : List OptionName) (rows : List Row) → defaults_fault rows (map rule_for names) ≡ []
unfolding defaults_fault
no_default_fault [] rows = refl
no_default_fault (name ∷ names) rows =
    ap (λ k. or_else k (defaults_fault (with_default rows (rule_for name)) (map rule_for names))) (go (has_row (id_of name) rows))
    ∙ no_default_fault names (with_default rows (rule_for name))
  where
    go : (b : Bool) → cond (b || true) [] (given_default_fault (rule_for name) []) ≡ []
    go true = refl
    go false = refl

or_none : (k : Kinds) → or_else k [] ≡ k
or_none [] = refl
or_none (k ∷ ks) = refl

faults_are : (words : List Text) → fault_of option_app words ≡ faults (walk_from (at_rows [])) words
faults_are words =
    let w = walk_from (at_rows []) in
    leaf_fault (built option_app) nothing_held words refl
    ∙ ap (λ d. or_else (walk_fault top [] w words) (or_else (settle_fault rules false (walk_to w words).held) (or_else d [])))
    (no_default_fault options (rows_at_end w words))
    ∙ ap (or_else (walk_fault top [] w words)) (or_none (settle_fault rules false (walk_to w words).held))

matches_are : (words : List Text) → matches_of option_app words ≡ rows_at_end (walk_from (at_rows [])) words
matches_are words = no_defaults options (rows_at_end (walk_from (at_rows [])) words)

all_read : (words : List Text) → list_any is_dashes words ≡ false → verdict (fault_of option_app words) (finished (said (matches_of option_app words))) ≡ words_of words
unfolding outcome
all_read words e = ap₂ (λ k r. verdict k (finished (said r))) (faults_are words) (matches_are words) ∙ (reads words e).0 []

pub is_free : is_simple_and_free option_app ≡ true
is_free = refl

-- where clap takes the words, its values say the settings
pub settings_found : (a : App) (words : List Text) (m : ArgMatches) → a ≡ option_app → list_any is_dashes words ≡ false → fault_of a words ≡ [] → HasMatchesOf a words m
    → words_of words ≡ finished (reading_of (given_by (first_value (found_of m))))
settings_found a words m is good none found =
    let rows : rows_of (found_of m) ≡ matches_of option_app words = (found (ap is_simple is)).0 ∙ ap (λ x. matches_of x words) is in
    let no_fault : fault_of option_app words ≡ [] = ap (λ x. fault_of x words) (sym is) ∙ none in
    sym (all_read words good) ∙ ap (λ k. verdict k (finished (said (matches_of option_app words)))) no_fault
    ∙ ap (λ r. finished (said r)) (sym rows)
    ∙ (λ i. finished (reading_of (given_by (λ id. sym (first_value-rows (found_of m) id) i))))

-- where clap refuses them, so do the rules
pub fault_refuses : (a : App) (words : List Text) (e : Error) → a ≡ option_app → list_any is_dashes words ≡ false → HasKind (fault_of a words) e
    → (kind_of e ≡ OutOfMemory → ⊥) → words_of words ≡ None
fault_refuses a words e is good kinds not_memory =
    sym (all_read words good) ∙ go (fault_of option_app words) (subst (λ x. HasKind (fault_of x words) e) is kinds)
  where
    go : (ks : Kinds) → HasKind ks e → verdict ks (finished (said (matches_of option_app words))) ≡ None
    go [] h = ⊎_elim (λ memory. absurd (not_memory memory)) (λ none. absurd none) h
    go (k ∷ ks) h = refl
