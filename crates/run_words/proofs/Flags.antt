-- What clap makes of one word that is not `--`, beside options with their values: a word without flags, a flag that it does
-- not know, or an option where a value is awaited.
use Rattle.std.proofs.Common.{◌≡◌, ◌∙◌, ◌+◌, ◌||◌, ◌==◌, ◌⊎◌, ℕ, zero, suc, List, [], ◌∷◌, ◌++◌, Bool, true, false, cond, length, take, drop, find, slice_get, chars, Option, Some, None, bytes_eq, inl, inr, refl, sym, ap, subst, ne_eqb, true≢false, not, ap₂, arith}
use Rattle.std.specs.Prelude.{option_and_then}
use Rattle.std.specs.Option.{option_map_or}
use Rattle.std.specs.List.{after_first, before_first, position_or_len}
use Rattle.std.proofs.lemmas.Bool.Decides.{nat_tests}
use Rattle.std.proofs.lemmas.Slice.Eq.{bytes_eq-Decides}
use Rattle.clap.specs.Lexer.{has_byte, long_of, long_of_rest, name_and_value, short_of, short_of_rest, strip_byte}
use Rattle.clap.specs.Kinds.{Kinds, or_else}
use Rattle.clap.specs.Walk.{Held, Row, Waiting, after_flag, arg_by_long, bundle_met, bundle_step, Step, after_step, idle, long_or_other, option, plain, plain_word, short_or_plain, subcommand_or_other, trailing, value, walk_from, walked}
use Rattle.clap.specs.Faults.{bundle_fault, bundle_step_fault, flag_word_fault, flags_fault, long_fault, step_fault, turn_fault, use_fault, word_fault}
use Rattle.clap.specs.declared.error.kind.ErrorKind.TheVariants.{InvalidValue}
use Rattle.run_words.specs.declared.words.OptionName.{OptionName}
use Rattle.run_words.specs.declared.words.OptionName.TheVariants.{Mode, Workers, From, To, Budget, Seed}
use Rattle.run_words.specs.Words.{text_of}
use Rattle.run_words.specs.Options.{id_of, is_dashes}
use Rattle.run_words.proofs.Forms.{Text, found_passes, has_hyphen, joined, joined_found, name_found, none_passes, option_in, option_with_value_in, options, some≢none}
use Rattle.run_words.proofs.Walked.{held, pends, rule_for, rules, settled_rows, settling, top, waits_for}

-- there is a fault
abbrev pub IsFault : Kinds → Type 0
IsFault [] = ⊥
IsFault (k ∷ ks) = Unit {0}

-- ---- a word with no hyphen has no flags

plain_head : (x : ℕ) (xs : Text) → has_hyphen (x ∷ xs) ≡ false → (x == 45) ≡ false
plain_head x xs e = ne_eqb x 45 (λ is. true≢false (subst (λ y. has_hyphen (y ∷ xs) ≡ false) is e))

pub no_long : (word : Text) → has_hyphen word ≡ false → long_of word ≡ None
no_long [] e = refl
no_long (x ∷ xs) e = ap (λ b. option_and_then long_of_rest (option_and_then (strip_byte 45) (cond b (Some xs) None))) (plain_head x xs e)

pub no_short : (word : Text) → has_hyphen word ≡ false → short_of word ≡ None
no_short [] e = refl
no_short (x ∷ xs) e = ap (λ b. option_and_then short_of_rest (cond b (Some xs) None)) (plain_head x xs e)

-- ---- the kinds of a word

-- clap takes the word for no flag, whatever is held
abbrev pub IsPlain : Text → Type 0
IsPlain word = (rows : List Row) (pending : Option (Text × List Text))
    → (flag_word_fault rules false (long_of word) word (held rows pending) ≡ [])
    × ((w : Waiting) → long_or_other rules w word (long_of word) (held rows pending) ≡ plain_word rules w word (held rows pending))

-- clap knows no such flag
abbrev pub IsUnknown : Text → Type 0
IsUnknown word = (has_hyphen word ≡ true)
    × ((rows : List Row) (pending : Option (Text × List Text)) → IsFault (flag_word_fault rules false (long_of word) word (held rows pending)))

-- the word is an option, with a value or without
abbrev pub IsKnown : Text → Type 0
IsKnown word = (has_hyphen word ≡ true) × (name : OptionName) × (text : Option Text) × (long_of word ≡ Some (id_of name, text))

hyphen_of_long : (word : Text) (p : Text × Option Text) → long_of word ≡ Some p → has_hyphen word ≡ true
hyphen_of_long word p e = go (has_hyphen word) refl
  where
    go : (b : Bool) → has_hyphen word ≡ b → b ≡ true
    go true is = refl
    go false is = let none = no_long word is in cc

hyphen_of_short : (word flags : Text) → short_of word ≡ Some flags → has_hyphen word ≡ true
hyphen_of_short word flags e = go (has_hyphen word) refl
  where
    go : (b : Bool) → has_hyphen word ≡ b → b ≡ true
    go true is = refl
    go false is = let none = no_short word is in cc

no_option : (name : Text) → find (λ n. bytes_eq (id_of n) name) options ≡ None → arg_by_long rules name ≡ None
no_option name e =
    let n = none_passes (λ n. bytes_eq (id_of n) name) options e in
    rw (n.0, n.1.0, n.1.1.0, n.1.1.1.0, n.1.1.1.1.0, n.1.1.1.1.1.0)

long_kind : (word : Text) (p : Text × Option Text) → long_of word ≡ Some p → IsUnknown word ⊎ IsKnown word
long_kind word p is = go (find (λ n. bytes_eq (id_of n) p.0) options) refl
  where
    go : (o : Option OptionName) → find (λ n. bytes_eq (id_of n) p.0) options ≡ o → IsUnknown word ⊎ IsKnown word
    go (Some name) e =
        let same : id_of name ≡ p.0 = (bytes_eq-Decides (id_of name) p.0).0 (found_passes (λ n. bytes_eq (id_of n) p.0) options name e) in
        inr (hyphen_of_long word p is, name, p.1, is ∙ ap (λ t. Some (t, p.1)) (sym same))
    go None e =
        inl (
          hyphen_of_long word p is,
          λ rows pending.
              subst IsFault (sym (ap (λ l. flag_word_fault rules false l word (held rows pending)) is
              ∙ ap (λ a. long_fault rules false a p.1 (held rows pending)) (no_option p.0 e))) tt,
        )

-- the characters of a bundle, of which none is a flag
module _ (word flags : Text) (no_long_word : long_of word ≡ None) (is : short_of word ≡ Some flags) where
  fault_is : (rows : List Row) (pending : Option (Text × List Text))
      → flag_word_fault rules false (long_of word) word (held rows pending) ≡ flags_fault rules false (length flags) flags 0 (held rows pending)
  fault_is rows pending =
      ap (λ l. flag_word_fault rules false l word (held rows pending)) no_long_word
      ∙ ap (λ s. option_map_or (λ f. bundle_fault rules false f (held rows pending)) s []) is

  met_is : (rows : List Row) (pending : Option (Text × List Text)) (w : Waiting) → long_or_other rules w word (long_of word) (held rows pending)
      ≡ after_flag rules w word (bundle_met rules (length flags) flags 0 plain (held rows pending)).0 (bundle_met rules (length flags) flags 0 plain (held rows pending)).1
  met_is rows pending w =
      ap (λ l. long_or_other rules w word l (held rows pending)) no_long_word
      ∙ ap (λ s. short_or_plain rules w word s (held rows pending)) is

  bundle_kind : (k : ℕ) → length flags ≡ k → (o : Option ℕ) → slice_get (chars flags) 0 ≡ o → IsPlain word ⊎ IsUnknown word
  unfolding flags_fault bundle_met
  bundle_kind zero len o first =
      inl (λ rows pending. (
        fault_is rows pending ∙ ap (λ k. flags_fault rules false k flags 0 (held rows pending)) len,
        λ w. met_is rows pending w ∙ ap (λ k. after_flag rules w word (bundle_met rules k flags 0 plain (held rows pending)).0 (bundle_met rules k flags 0 plain (held rows pending)).1) len,
      ))
  bundle_kind (suc k) len None first =
      inl (λ rows pending. (
        fault_is rows pending ∙ ap (λ k. flags_fault rules false k flags 0 (held rows pending)) len
            ∙ ap (λ o. bundle_step_fault rules false o flags 0 (held rows pending) (flags_fault rules false k)) first,
        λ w. met_is rows pending w
            ∙ ap (λ k. after_flag rules w word (bundle_met rules k flags 0 plain (held rows pending)).0 (bundle_met rules k flags 0 plain (held rows pending)).1) len
            ∙ ap (λ o. after_flag rules w word (bundle_step rules o flags 0 plain (held rows pending) (bundle_met rules k)).0
            (bundle_step rules o flags 0 plain (held rows pending) (bundle_met rules k)).1) first,
      ))
  bundle_kind (suc k) len (Some x) first =
      inr (
        hyphen_of_short word flags is,
        λ rows pending.
            subst IsFault (sym (fault_is rows pending ∙ ap (λ k. flags_fault rules false k flags 0 (held rows pending)) len
            ∙ ap (λ o. bundle_step_fault rules false o flags 0 (held rows pending) (flags_fault rules false k)) first)) tt,
      )

short_kind : (word : Text) → long_of word ≡ None → (s : Option Text) → short_of word ≡ s → IsPlain word ⊎ IsUnknown word
short_kind word no_long_word None is =
    inl (λ rows pending. (
      ap (λ l. flag_word_fault rules false l word (held rows pending)) no_long_word
          ∙ ap (λ s. option_map_or (λ f. bundle_fault rules false f (held rows pending)) s []) is,
      λ w. ap (λ l. long_or_other rules w word l (held rows pending)) no_long_word ∙ ap (λ s. short_or_plain rules w word s (held rows pending)) is,
    ))
short_kind word no_long_word (Some flags) is = bundle_kind word flags no_long_word is (length flags) refl (slice_get (chars flags) 0) refl

pub data Kind (word : Text) : Type 0 where
  no_flag : IsPlain word → Kind word
  unknown : IsUnknown word → Kind word
  known : IsKnown word → Kind word

pub kind_of_word : (word : Text) → Kind word
kind_of_word word = go (long_of word) refl
  where
    go : (l : Option (Text × Option Text)) → long_of word ≡ l → Kind word
    go None e = elim (short_kind word e (short_of word) refl) [ inl h ↦ no_flag h | inr h ↦ unknown h ]
    go (Some p) e = elim (long_kind word p e) [ inl h ↦ unknown h | inr h ↦ known h ]

-- ---- an option as clap reads it is one as the rules read it

abbrev is_equals : ℕ → Bool
is_equals x = x == 61

-- the same, where it is known whether the first is the sign
abbrev cut : ℕ → Text → Bool → Text
cut x xs b =
    take (cond (not b) (1 + position_or_len is_equals xs) 0) (x ∷ xs)
    ++ cond (b || has_byte 61 xs) (61 ∷ drop (cond (not b) (1 + position_or_len is_equals xs) 0 + 1) (x ∷ xs)) []

cut_at_equals : (xs : Text) → xs ≡ before_first is_equals xs ++ cond (has_byte 61 xs) (61 ∷ after_first is_equals xs) []
cut_at_equals [] = refl
cut_at_equals (x ∷ xs) = go (x == 61) refl (cut_at_equals xs)
  where
    go : (b : Bool) → (x == 61) ≡ b → xs ≡ before_first is_equals xs ++ cond (has_byte 61 xs) (61 ∷ after_first is_equals xs) [] → x ∷ xs ≡ cut x xs (x == 61)
    go true is later = let same : x ≡ 61 = grind (arith, nat_tests) in ap (λ y. y ∷ xs) same ∙ ap (cut x xs) (sym is)
    go false is later =
        let before : suc (position_or_len is_equals xs) ≡ 1 + position_or_len is_equals xs = omega arith in
        let after : suc (position_or_len is_equals xs + 1) ≡ 1 + position_or_len is_equals xs + 1 = omega arith in
        ap (λ t. x ∷ t) later
        ∙ ap₂ (λ i j. take i (x ∷ xs) ++ cond (has_byte 61 xs) (61 ∷ drop j (x ∷ xs)) []) before after
        ∙ ap (cut x xs) (sym is)

rest_is : (xs : Text) (p : Text × Option Text) → long_of_rest xs ≡ Some p → name_and_value xs ≡ p
rest_is [] p e = cc
rest_is (x ∷ xs) p e = cc

second_is : (x : ℕ) (xs : Text) (p : Text × Option Text) → option_and_then long_of_rest (strip_byte 45 (x ∷ xs)) ≡ Some p → (x ≡ 45) × (name_and_value xs ≡ p)
second_is x xs p e = go (x == 45) refl e
  where
    go : (b : Bool) → (x == 45) ≡ b → option_and_then long_of_rest (cond b (Some xs) None) ≡ Some p → (x ≡ 45) × (name_and_value xs ≡ p)
    go true is h = (grind (arith, nat_tests), rest_is xs p h)
    go false is h = absurd (some≢none p (sym h))

long_rest : (word : Text) (p : Text × Option Text) → long_of word ≡ Some p → (rest : Text) × (word ≡ 45 ∷ 45 ∷ rest) × (name_and_value rest ≡ p)
long_rest [] p e = absurd (some≢none p (sym e))
long_rest (x ∷ []) p e = go (x == 45) e
  where
    go : (b : Bool) → option_and_then long_of_rest (option_and_then (strip_byte 45) (cond b (Some []) None)) ≡ Some p
        → (rest : Text) × (x ∷ [] ≡ 45 ∷ 45 ∷ rest) × (name_and_value rest ≡ p)
    go true h = absurd (some≢none p (sym h))
    go false h = absurd (some≢none p (sym h))
long_rest (x ∷ y ∷ ys) p e = go (x == 45) refl e
  where
    go : (b : Bool) → (x == 45) ≡ b → option_and_then long_of_rest (option_and_then (strip_byte 45) (cond b (Some (y ∷ ys)) None)) ≡ Some p
        → (rest : Text) × (x ∷ y ∷ ys ≡ 45 ∷ 45 ∷ rest) × (name_and_value rest ≡ p)
    go true is h =
        let first : x ≡ 45 = grind (arith, nat_tests) in
        let second = second_is y ys p h in
        (ys, ap₂ (λ a b. a ∷ b ∷ ys) first second.0, second.1)
    go false is h = absurd (some≢none p (sym h))

name_is : (name : OptionName) → 45 ∷ 45 ∷ (id_of name ++ []) ≡ text_of name
name_is Mode = refl
name_is Workers = refl
name_is From = refl
name_is To = refl
name_is Budget = refl
name_is Seed = refl

joined_is : (name : OptionName) (text : Text) → 45 ∷ 45 ∷ (id_of name ++ 61 ∷ text) ≡ joined name text
joined_is Mode text = refl
joined_is Workers text = refl
joined_is From text = refl
joined_is To text = refl
joined_is Budget text = refl
joined_is Seed text = refl

known_word : (word : Text) (name : OptionName) (after : Option Text) → long_of word ≡ Some (id_of name, after)
    → (word ≡ text_of name) ⊎ ((text : Text) × (word ≡ joined name text))
known_word word name after e =
    let r = long_rest word (id_of name, after) e in
    go r.0 (r.1) (ap (λ q. q.0) r.2) (has_byte 61 r.0) (cut_at_equals r.0)
  where
    go : (rest : Text) → word ≡ 45 ∷ 45 ∷ rest → before_first is_equals rest ≡ id_of name → (b : Bool)
        → rest ≡ before_first is_equals rest ++ cond b (61 ∷ after_first is_equals rest) [] → (word ≡ text_of name) ⊎ ((text : Text) × (word ≡ joined name text))
    go rest is front false whole =
        inl (is ∙ ap (λ t. 45 ∷ 45 ∷ t) (whole ∙ ap (λ t. t ++ []) front) ∙ name_is name)
    go rest is front true whole =
        inr (
          after_first is_equals rest,
          is ∙ ap (λ t. 45 ∷ 45 ∷ t) (whole ∙ ap (λ t. t ++ 61 ∷ after_first is_equals rest) front) ∙ joined_is name (after_first is_equals rest),
        )

-- ---- the turn of such a word

first_fault : (a b : Kinds) → IsFault a → IsFault (or_else a b)
first_fault [] b h = absurd h
first_fault (k ∷ ks) b h = tt

past_dashes : (b : Bool) → b ≡ false → (first rest : Kinds) → IsFault first → IsFault (or_else (cond b [] first) rest)
past_dashes true e first rest h = absurd (true≢false e)
past_dashes false e first rest h = first_fault first rest h

-- clap refuses a word that is no option where none is awaited
pub other_fault : (rows : List Row) (pending : Option (Text × List Text)) (word : Text) → is_dashes word ≡ false
    → option_in word ≡ None → option_with_value_in word ≡ None → IsFault (turn_fault top [] (walk_from (held rows pending)) word)
other_fault rows pending word no_dash nameless none = elim (kind_of_word word) [
  | no_flag free ↦
      subst IsFault (sym (ap (λ (m : Held × Step). or_else (word_fault top [] false idle word (held rows pending)) (step_fault top 1 m.0 m.1))
      (ap (λ b. cond b (held rows pending, trailing 1) (long_or_other rules idle word (long_of word) (held rows pending))) no_dash ∙ (free rows pending).1 idle)
      ∙ ap (λ b. or_else (cond b [] (flag_word_fault rules false (long_of word) word (held rows pending))) (step_fault top 1 (held rows pending) value)) no_dash
      ∙ ap (λ k. or_else k (step_fault top 1 (held rows pending) value)) (free rows pending).0)) tt
  | unknown h ↦
      let m = subcommand_or_other rules None idle 1 word (held rows pending) in
      past_dashes (is_dashes word) no_dash (flag_word_fault rules false (long_of word) word (held rows pending)) (step_fault top 1 m.0 m.1) (h.1 rows pending)
  | known h ↦ elim (known_word word h.1 h.2 h.3) [
    | inl same ↦ absurd (some≢none h.1 (sym (name_found h.1) ∙ ap option_in (sym same) ∙ nameless))
    | inr same ↦ absurd (some≢none h.1 (sym (joined_found h.1 same.0) ∙ ap option_with_value_in (sym same.1) ∙ none))
  ]
]

-- an option that still waits for its value
pub no_value_fault : (rows : List Row) (name : OptionName) → settling rows (Some (id_of name, [])) ≡ InvalidValue ∷ []
no_value_fault rows Mode = refl
no_value_fault rows Workers = refl
no_value_fault rows From = refl
no_value_fault rows To = refl
no_value_fault rows Budget = refl
no_value_fault rows Seed = refl

option_found : (name : OptionName) → arg_by_long rules (id_of name) ≡ Some (rule_for name)
option_found Mode = refl
option_found Workers = refl
option_found From = refl
option_found To = refl
option_found Budget = refl
option_found Seed = refl

option_again : (rows : List Row) (name other : OptionName) (text : Option Text) → IsFault (long_fault rules false (arg_by_long rules (id_of other)) text (pends rows name []))
option_again rows name other text = subst IsFault (ap (λ a. long_fault rules false a text (pends rows name [])) (sym (option_found other))) (go text)
  where
    waits : IsFault (settling rows (Some (id_of name, [])))
    waits = subst IsFault (sym (no_value_fault rows name)) tt

    go : (text : Option Text) → IsFault (long_fault rules false (Some (rule_for other)) text (pends rows name []))
    go None = waits
    go (Some t) = first_fault (settling rows (Some (id_of name, []))) (use_fault false (rule_for other) (t ∷ []) (settled_rows rows (Some (id_of name, [])))) waits

-- where a value is awaited
module _ (rows : List Row) (name : OptionName) (word : Text) (no_dash : is_dashes word ≡ false) where
  -- clap refuses a flag
  turn_faults : IsFault (flag_word_fault rules false (long_of word) word (pends rows name [])) → IsFault (turn_fault top [] (waits_for rows name) word)
  turn_faults h =
      let m = subcommand_or_other rules None (option (id_of name)) 1 word (pends rows name []) in
      past_dashes (is_dashes word) no_dash (flag_word_fault rules false (long_of word) word (pends rows name [])) (step_fault top 1 m.0 m.1) h

  pub unknown_fault : IsUnknown word → IsFault (turn_fault top [] (waits_for rows name) word)
  unknown_fault h = turn_faults (h.1 rows (Some (id_of name, [])))

  pub known_fault : IsKnown word → IsFault (turn_fault top [] (waits_for rows name) word)
  known_fault h = turn_faults (subst IsFault (ap (λ l. flag_word_fault rules false l word (pends rows name [])) (sym h.3)) (option_again rows name h.1 h.2))

  -- and takes any other word for the value
  module _ (free : IsPlain word) where
    met : subcommand_or_other rules None (option (id_of name)) 1 word (pends rows name []) ≡ plain_word rules (option (id_of name)) word (pends rows name [])
    met =
        ap (λ b. cond b (pends rows name [], trailing 1) (long_or_other rules (option (id_of name)) word (long_of word) (pends rows name []))) no_dash
        ∙ (free rows (Some (id_of name, []))).1 (option (id_of name))

    pub value_walked : walked rules [] (waits_for rows name) word ≡ walk_from (pends rows name (word ∷ []))
    unfolding walked
    value_walked = ap (λ (m : Held × Step). after_step rules word (waits_for rows name) m.0 m.1) met ∙ go name
      where
        go : (name : OptionName) → after_step rules word (waits_for rows name) (plain_word rules (option (id_of name)) word (pends rows name [])).0
            (plain_word rules (option (id_of name)) word (pends rows name [])).1 ≡ walk_from (pends rows name (word ∷ []))
        go Mode = refl
        go Workers = refl
        go From = refl
        go To = refl
        go Budget = refl
        go Seed = refl

    pub value_fault : turn_fault top [] (waits_for rows name) word ≡ []
    value_fault =
        ap (λ (m : Held × Step). or_else (word_fault top [] false (option (id_of name)) word (pends rows name [])) (step_fault top 1 m.0 m.1)) met
        ∙ ap (λ b. or_else (cond b [] (flag_word_fault rules false (long_of word) word (pends rows name []))) []) no_dash
        ∙ ap (λ k. or_else k []) (free rows (Some (id_of name, []))).0
