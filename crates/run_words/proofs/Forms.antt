-- The words, each as an option's name, as an option with its value, or as none.
use Rattle.std.proofs.Common.{◌≡◌, ◌∙◌, ◌+◌, ◌&&◌, ◌||◌, ℕ, List, [], ◌∷◌, ◌++◌, Bool, true, false, cond, codes, fold, length, take, find, nat_eq, nat_le, Option, Some, None, refl, sym, ap, subst, true≢false, take-append-drop}
use Rattle.std.specs.List.{list_all, list_any, starts_with}
use Rattle.std.proofs.lemmas.Slice.Eq.{bytes_eq-Decides}
use Rattle.run_words.specs.declared.words.OptionName.{OptionName}
use Rattle.run_words.specs.declared.words.OptionName.TheVariants.{Mode, Workers, From, To, Budget, Seed}
use Rattle.run_words.specs.declared.words.Given.{Given}
use Rattle.run_words.specs.declared.words.Reading.{Reading}
use Rattle.run_words.specs.declared.words.Reading.TheVariants.{Refused, Between, Awaits}
use Rattle.run_words.specs.declared.settings.TheConstants.{MOST_WORKERS, MOST_BUDGET, MOST_NUMBER, LAST_FRAME}
use Rattle.run_words.specs.Words.{finished, has_value, is_digit, is_name, next, nothing_given, number_in, number_of_digits, option_at, taken, text_of, value_of, with_value, words_of}
use Rattle.run_words.specs.Options.{is_dashes}

abbrev pub Text : Type 0
Text = List ℕ

abbrev pub options : List OptionName
options = Mode ∷ Workers ∷ From ∷ To ∷ Budget ∷ Seed ∷ []

-- `--name=value`
abbrev pub joined : OptionName → Text → Text
joined name value = (text_of name ++ codes "=") ++ value

-- the word begins with `-`
abbrev pub has_hyphen : Text → Bool
has_hyphen word = starts_with nat_eq word (codes "-")

pub some≢none : {X : Type 0} (x : X) → Some x ≡ None → ⊥
some≢none x e = cc

-- ---- what a search for an option says

pub found_passes : (p : OptionName → Bool) (xs : List OptionName) (x : OptionName) → find p xs ≡ Some x → p x ≡ true
found_passes p [] x e = cc
found_passes p (y ∷ ys) x e = go (p y) refl (found_passes p ys x) e
  where
    go : (b : Bool) → p y ≡ b → (find p ys ≡ Some x → p x ≡ true) → cond b (Some y) (find p ys) ≡ Some x → p x ≡ true
    go true is later h = subst (λ z. p z ≡ true) (cc) is
    go false is later h = later h

abbrev pub PassNone : (OptionName → Bool) → List OptionName → Type 0
PassNone p [] = Unit {0}
PassNone p (x ∷ xs) = (p x ≡ false) × PassNone p xs

pub none_passes : (p : OptionName → Bool) (xs : List OptionName) → find p xs ≡ None → PassNone p xs
none_passes p [] e = tt
none_passes p (y ∷ ys) e = go (p y) refl (none_passes p ys) e
  where
    go : (b : Bool) → p y ≡ b → (find p ys ≡ None → PassNone p ys) → cond b (Some y) (find p ys) ≡ None → (p y ≡ false) × PassNone p ys
    go true is later h = cc
    go false is later h = (is, later h)

-- ---- the forms of a word

-- the option whose name the word is, and the one whose name stands before the word's value
abbrev pub option_in : Text → Option OptionName
option_in word = find (λ name. is_name name word) options

abbrev pub option_with_value_in : Text → Option OptionName
option_with_value_in word = find (λ name. has_value name word) options

pub word_is_name : (word : Text) (name : OptionName) → option_in word ≡ Some name → word ≡ text_of name
word_is_name word name e = (bytes_eq-Decides word (text_of name)).0 (found_passes (λ n. is_name n word) options name e)

pub word_is_joined : (word : Text) (name : OptionName) → option_with_value_in word ≡ Some name → word ≡ joined name (value_of name word)
word_is_joined word name e =
    let front = (bytes_eq-Decides (take (length (text_of name) + 1) word) (text_of name ++ codes "=")).0 (found_passes (λ n. has_value n word) options name e) in
    sym (take-append-drop (length (text_of name) + 1) word) ∙ ap (λ t. t ++ value_of name word) front

pub name_found : (name : OptionName) → option_in (text_of name) ≡ Some name
name_found Mode = refl
name_found Workers = refl
name_found From = refl
name_found To = refl
name_found Budget = refl
name_found Seed = refl

pub joined_found : (name : OptionName) (value : Text) → option_with_value_in (joined name value) ≡ Some name
joined_found Mode value = refl
joined_found Workers value = refl
joined_found From value = refl
joined_found To value = refl
joined_found Budget value = refl
joined_found Seed value = refl

-- ---- what the rules make of them

pub at_name : (given : Given) (name : OptionName) → option_at given (text_of name) ≡ Awaits name given
at_name given Mode = refl
at_name given Workers = refl
at_name given From = refl
at_name given To = refl
at_name given Budget = refl
at_name given Seed = refl

pub at_joined : (given : Given) (name : OptionName) (value : Text) → option_at given (joined name value) ≡ with_value name value given
at_joined given Mode value = refl
at_joined given Workers value = refl
at_joined given From value = refl
at_joined given To value = refl
at_joined given Budget value = refl
at_joined given Seed value = refl

pub at_other : (given : Given) (word : Text) → option_in word ≡ None → option_with_value_in word ≡ None → option_at given word ≡ Refused
at_other given word no_name none_before =
    let n = none_passes (λ n. is_name n word) options no_name in
    let v = none_passes (λ n. has_value n word) options none_before in
    rw (n.0, n.1.0, n.1.1.0, n.1.1.1.0, n.1.1.1.1.0, n.1.1.1.1.1.0, v.0, v.1.0, v.1.1.0, v.1.1.1.0, v.1.1.1.1.0, v.1.1.1.1.1.0)

pub stays_refused : (words : List Text) → fold next Refused words ≡ Refused
stays_refused [] = refl
stays_refused (word ∷ rest) = stays_refused rest

-- ---- a value that begins with `-`

none_taken : {V : Type 0} (had : Option V) (put : V → Given) → taken had None put ≡ Refused
none_taken None put = refl
none_taken (Some v) put = refl

no_number : (least greatest : ℕ) (text : Text) → list_all is_digit text ≡ false → number_in least greatest text ≡ None
no_number least greatest text e =
    rw e (dead (nat_le 1 (length text)) (nat_le (length text) 13) (nat_le least (number_of_digits text)) (nat_le (number_of_digits text) greatest) (number_of_digits text))
  where
    dead : (a b d f : Bool) (n : ℕ) → cond (a && b && false && d && f) (Some n) None ≡ None
    dead true true d f n = refl
    dead true false d f n = refl
    dead false b d f n = refl

pub hyphen_refused : (name : OptionName) (value : Text) (given : Given) → has_hyphen value ≡ true → with_value name value given ≡ Refused
hyphen_refused name [] given h = absurd (true≢false (sym h))
hyphen_refused name (x ∷ xs) given h =
    let is : codes "-" ≡ x ∷ [] = (bytes_eq-Decides (codes "-") (x ∷ [])).0 h in
    subst (λ (y : ℕ). with_value name (y ∷ xs) given ≡ Refused) (cc) (go name)
  where
    number : (had : Option ℕ) (least greatest : ℕ) (put : ℕ → Given) → taken had (number_in least greatest (45 ∷ xs)) put ≡ Refused
    number had least greatest put = ap (λ v. taken had v put) (no_number least greatest (45 ∷ xs) refl) ∙ none_taken had put

    go : (name : OptionName) → with_value name (45 ∷ xs) given ≡ Refused
    go Mode = none_taken given.mode (λ m. record given { mode = Some m })
    go Workers = number given.workers 1 MOST_WORKERS (λ n. record given { workers = Some n })
    go From = number given.from 0 LAST_FRAME (λ n. record given { from = Some n })
    go To = number given.to 0 LAST_FRAME (λ n. record given { to = Some n })
    go Budget = number given.budget 0 MOST_BUDGET (λ n. record given { budget = Some n })
    go Seed = number given.number 0 MOST_NUMBER (λ n. record given { number = Some n })

-- ---- the word `--`

next_dashes : (r : Reading) → next r (codes "--") ≡ Refused
next_dashes Refused = refl
next_dashes (Between given) = refl
next_dashes (Awaits name given) = hyphen_refused name (codes "--") given refl

after_dashes : (words : List Text) → list_any is_dashes words ≡ true → (r : Reading) → finished (fold next r words) ≡ None
after_dashes [] e r = absurd (true≢false (sym e))
after_dashes (word ∷ rest) e r = go (is_dashes word) refl e (after_dashes rest)
  where
    go : (b : Bool) → is_dashes word ≡ b → (b || list_any is_dashes rest) ≡ true
        → (list_any is_dashes rest ≡ true → (r : Reading) → finished (fold next r rest) ≡ None) → finished (fold next (next r word) rest) ≡ None
    go true is h later =
        let refused : next r word ≡ Refused = ap (next r) ((bytes_eq-Decides word (codes "--")).0 is) ∙ next_dashes r in
        ap (λ x. finished (fold next x rest)) refused ∙ ap finished (stays_refused rest)
    go false is h later = later h (next r word)

-- the rules refuse words with `--`
pub dashes_refused : (words : List Text) → list_any is_dashes words ≡ true → words_of words ≡ None
dashes_refused words e = after_dashes words e (Between nothing_given)
