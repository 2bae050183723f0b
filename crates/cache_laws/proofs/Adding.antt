-- What a pass took, gave and computes, with entries more at the end of its own. In these, `mine` are its entries before.
use Rattle.std.proofs.Common.{◌≡◌, ◌≢◌, ℕ, ◌+◌, Bool, true, false, not, cond, ◌&&◌, ◌||◌, List, [], ◌∷◌, ◌++◌, refl, sym, ap, ◌∙◌, nat_eq, arith, append_assoc, append-nil, eq-eqb, ne_eqb}
use Rattle.std.specs.List.{AllByRecursion}
use Rattle.std.proofs.lemmas.List.Sums.{sum_by_push, sum_by-append}
use Rattle.cache_core.specs.declared.entry.Entry.{Entry}
use Rattle.cache_core.specs.declared.entry.Act.TheVariants.{Start, Hit, Pending, NotCached, Finish, Abandon, Give, Evict}
use Rattle.turn_lock.specs.Entries.{entries_of, AreOf, is_about, computes, computes_after, takes_hold, gives_back, holds_taken, holds_given}
use Rattle.turn_lock.proofs.Histories.{entries-append}
use Rattle.turn_lock.proofs.Lists.{bit}
use Rattle.cache_laws.proofs.Own.{computes-append}

-- all of entries that are all of a pass, and none of another's
pub entries-own : (pass : ℕ) (es : List Entry) → AreOf pass es → entries_of pass es ≡ es
entries-own pass [] own = refl
entries-own pass (e ∷ es) own =
    ap (λ b. cond b (e ∷ entries_of pass es) (entries_of pass es)) (eq-eqb e.pass pass own.0) ∙ ap (λ l. e ∷ l) (entries-own pass es own.1)

pub entries-other : (pass other : ℕ) (es : List Entry) → AreOf other es → pass ≢ other → entries_of pass es ≡ []
entries-other pass other [] own differs = refl
entries-other pass other (e ∷ es) own differs =
    ap (λ b. cond b (e ∷ entries_of pass es) (entries_of pass es)) (ne_eqb e.pass pass (λ same. differs (sym same ∙ own.0))) ∙ entries-other pass other es own.1 differs

-- a history with entries of the pass more, and with entries of another
pub entries-add_own : (pass : ℕ) (history es : List Entry) → AreOf pass es → entries_of pass (history ++ es) ≡ entries_of pass history ++ es
entries-add_own pass history es own = entries-append pass history es ∙ ap (λ l. entries_of pass history ++ l) (entries-own pass es own)

pub entries-add_other : (pass other : ℕ) (history es : List Entry) → AreOf other es → pass ≢ other → entries_of pass (history ++ es) ≡ entries_of pass history
entries-add_other pass other history es own differs =
    entries-append pass history es ∙ ap (λ l. entries_of pass history ++ l) (entries-other pass other es own differs) ∙ append-nil (entries_of pass history)

-- by all entries
pub taken-append : (class key serial : ℕ) (es fs : List Entry) → holds_taken class key serial (es ++ fs) ≡ holds_taken class key serial es + holds_taken class key serial fs
taken-append class key serial es fs = sum_by-append (λ e. bit (is_about class key e && takes_hold serial e.act)) es fs

pub given-append : (class key serial : ℕ) (es fs : List Entry) → holds_given class key serial (es ++ fs) ≡ holds_given class key serial es + holds_given class key serial fs
given-append class key serial es fs = sum_by-append (λ e. bit (is_about class key e && gives_back serial e.act)) es fs

-- an entry more
pub taken-push : (class key serial : ℕ) (mine : List Entry) (e : Entry)
    → holds_taken class key serial (mine ++ e ∷ []) ≡ holds_taken class key serial mine + bit (is_about class key e && takes_hold serial e.act)
taken-push class key serial mine e = sum_by_push (λ x. bit (is_about class key x && takes_hold serial x.act)) mine e

pub given-push : (class key serial : ℕ) (mine : List Entry) (e : Entry)
    → holds_given class key serial (mine ++ e ∷ []) ≡ holds_given class key serial mine + bit (is_about class key e && gives_back serial e.act)
given-push class key serial mine e = sum_by_push (λ x. bit (is_about class key x && gives_back serial x.act)) mine e

pub computes-push : (class key : ℕ) (mine : List Entry) (e : Entry)
    → computes class key false (mine ++ e ∷ []) ≡ cond (is_about class key e) (computes_after (computes class key false mine) e.act) (computes class key false mine)
computes-push class key mine e = computes-append class key false mine (e ∷ [])

-- entries by which nothing is taken, given, begun or ended
pub record IsAlike (before after : List Entry) : Type 0 where
  pub taken : (class key serial : ℕ) → holds_taken class key serial after ≡ holds_taken class key serial before
  pub given : (class key serial : ℕ) → holds_given class key serial after ≡ holds_given class key serial before
  pub turns : (class key : ℕ) → computes class key false after ≡ computes class key false before

none : (b : Bool) → bit (b && false) ≡ 0
none true = refl
none false = refl

same : (b x : Bool) → cond b x x ≡ x
same true x = refl
same false x = refl

taken_none : (class key serial : ℕ) (mine : List Entry) (e : Entry) → takes_hold serial e.act ≡ false → holds_taken class key serial (mine ++ e ∷ []) ≡ holds_taken class key serial mine
taken_none class key serial mine e is =
    omega (arith, taken-push class key serial mine e, ap (λ b. bit (is_about class key e && b)) is, none (is_about class key e))

given_none : (class key serial : ℕ) (mine : List Entry) (e : Entry) → gives_back serial e.act ≡ false → holds_given class key serial (mine ++ e ∷ []) ≡ holds_given class key serial mine
given_none class key serial mine e is =
    omega (arith, given-push class key serial mine e, ap (λ b. bit (is_about class key e && b)) is, none (is_about class key e))

turns_none : (class key : ℕ) (mine : List Entry) (e : Entry) → ((b : Bool) → computes_after b e.act ≡ b) → computes class key false (mine ++ e ∷ []) ≡ computes class key false mine
turns_none class key mine e is =
    computes-push class key mine e ∙ ap (λ b. cond (is_about class key e) b (computes class key false mine)) (is (computes class key false mine))
    ∙ same (is_about class key e) (computes class key false mine)

-- what a Start does: a turn begins
pub record Starts (mine : List Entry) (e : Entry) : Type 0 where
  pub taken : (class key serial : ℕ) → holds_taken class key serial (mine ++ e ∷ []) ≡ holds_taken class key serial mine
  pub given : (class key serial : ℕ) → holds_given class key serial (mine ++ e ∷ []) ≡ holds_given class key serial mine
  pub turns : (class key : ℕ) → computes class key false (mine ++ e ∷ []) ≡ (is_about class key e || computes class key false mine)

pub start_adds : (mine : List Entry) (e : Entry) → e.act ≡ Start → Starts mine e
start_adds mine e is = record {
  taken = λ class key serial. taken_none class key serial mine e (ap (takes_hold serial) is);
  given = λ class key serial. given_none class key serial mine e (ap (gives_back serial) is);
  turns = λ class key. computes-push class key mine e ∙ ap (λ act. cond (is_about class key e) (computes_after (computes class key false mine) act) (computes class key false mine)) is
      ∙ by (is_about class key e) (computes class key false mine);
}
  where
    by : (b x : Bool) → cond b true x ≡ (b || x)
    by true x = refl
    by false x = refl

-- what a Hit does: the value with its serial is held once more
pub record Hits (serial : ℕ) (mine : List Entry) (e : Entry) : Type 0 where
  pub taken : (class key wanted : ℕ) → holds_taken class key wanted (mine ++ e ∷ []) ≡ holds_taken class key wanted mine + bit (is_about class key e && nat_eq serial wanted)
  pub given : (class key wanted : ℕ) → holds_given class key wanted (mine ++ e ∷ []) ≡ holds_given class key wanted mine
  pub turns : (class key : ℕ) → computes class key false (mine ++ e ∷ []) ≡ computes class key false mine

pub hit_adds : (serial : ℕ) (mine : List Entry) (e : Entry) → e.act ≡ Hit serial → Hits serial mine e
hit_adds serial mine e is = record {
  taken = λ class key wanted. taken-push class key wanted mine e ∙ ap (λ act. holds_taken class key wanted mine + bit (is_about class key e && takes_hold wanted act)) is;
  given = λ class key wanted. given_none class key wanted mine e (ap (gives_back wanted) is);
  turns = λ class key. turns_none class key mine e (λ b. ap (computes_after b) is);
}

-- what a Finish does: the turn ends, and the new value is held once
pub record Finishes (serial : ℕ) (mine : List Entry) (e : Entry) : Type 0 where
  pub taken : (class key wanted : ℕ) → holds_taken class key wanted (mine ++ e ∷ []) ≡ holds_taken class key wanted mine + bit (is_about class key e && nat_eq serial wanted)
  pub given : (class key wanted : ℕ) → holds_given class key wanted (mine ++ e ∷ []) ≡ holds_given class key wanted mine
  pub turns : (class key : ℕ) → computes class key false (mine ++ e ∷ []) ≡ (not (is_about class key e) && computes class key false mine)

ends : (b x : Bool) → cond b false x ≡ (not b && x)
ends true x = refl
ends false x = refl

pub finish_adds : (serial size : ℕ) (mine : List Entry) (e : Entry) → e.act ≡ Finish serial size → Finishes serial mine e
finish_adds serial size mine e is = record {
  taken = λ class key wanted. taken-push class key wanted mine e ∙ ap (λ act. holds_taken class key wanted mine + bit (is_about class key e && takes_hold wanted act)) is;
  given = λ class key wanted. given_none class key wanted mine e (ap (gives_back wanted) is);
  turns = λ class key. computes-push class key mine e ∙ ap (λ act. cond (is_about class key e) (computes_after (computes class key false mine) act) (computes class key false mine)) is
      ∙ ends (is_about class key e) (computes class key false mine);
}

-- what an Abandon does: the turn ends
pub record Abandons (mine : List Entry) (e : Entry) : Type 0 where
  pub taken : (class key serial : ℕ) → holds_taken class key serial (mine ++ e ∷ []) ≡ holds_taken class key serial mine
  pub given : (class key serial : ℕ) → holds_given class key serial (mine ++ e ∷ []) ≡ holds_given class key serial mine
  pub turns : (class key : ℕ) → computes class key false (mine ++ e ∷ []) ≡ (not (is_about class key e) && computes class key false mine)

pub abandon_adds : (mine : List Entry) (e : Entry) → e.act ≡ Abandon → Abandons mine e
abandon_adds mine e is = record {
  taken = λ class key serial. taken_none class key serial mine e (ap (takes_hold serial) is);
  given = λ class key serial. given_none class key serial mine e (ap (gives_back serial) is);
  turns = λ class key. computes-push class key mine e ∙ ap (λ act. cond (is_about class key e) (computes_after (computes class key false mine) act) (computes class key false mine)) is
      ∙ ends (is_about class key e) (computes class key false mine);
}

-- what a Give does: a hold of the value with its serial is given back
pub record Gives (serial : ℕ) (mine : List Entry) (e : Entry) : Type 0 where
  pub taken : (class key wanted : ℕ) → holds_taken class key wanted (mine ++ e ∷ []) ≡ holds_taken class key wanted mine
  pub given : (class key wanted : ℕ) → holds_given class key wanted (mine ++ e ∷ []) ≡ holds_given class key wanted mine + bit (is_about class key e && nat_eq serial wanted)
  pub turns : (class key : ℕ) → computes class key false (mine ++ e ∷ []) ≡ computes class key false mine

pub give_adds : (serial : ℕ) (mine : List Entry) (e : Entry) → e.act ≡ Give serial → Gives serial mine e
give_adds serial mine e is = record {
  taken = λ class key wanted. taken_none class key wanted mine e (ap (takes_hold wanted) is);
  given = λ class key wanted. given-push class key wanted mine e ∙ ap (λ act. holds_given class key wanted mine + bit (is_about class key e && gives_back wanted act)) is;
  turns = λ class key. turns_none class key mine e (λ b. ap (computes_after b) is);
}

-- what the other acts do: nothing
pub pending_adds : (owner : ℕ) (mine : List Entry) (e : Entry) → e.act ≡ Pending owner → IsAlike mine (mine ++ e ∷ [])
pending_adds owner mine e is = record {
  taken = λ class key serial. taken_none class key serial mine e (ap (takes_hold serial) is);
  given = λ class key serial. given_none class key serial mine e (ap (gives_back serial) is);
  turns = λ class key. turns_none class key mine e (λ b. ap (computes_after b) is);
}

pub not_cached_adds : (mine : List Entry) (e : Entry) → e.act ≡ NotCached → IsAlike mine (mine ++ e ∷ [])
not_cached_adds mine e is = record {
  taken = λ class key serial. taken_none class key serial mine e (ap (takes_hold serial) is);
  given = λ class key serial. given_none class key serial mine e (ap (gives_back serial) is);
  turns = λ class key. turns_none class key mine e (λ b. ap (computes_after b) is);
}

pub evict_adds : (serial : ℕ) (mine : List Entry) (e : Entry) → e.act ≡ Evict serial → IsAlike mine (mine ++ e ∷ [])
evict_adds serial mine e is = record {
  taken = λ class key wanted. taken_none class key wanted mine e (ap (takes_hold wanted) is);
  given = λ class key wanted. given_none class key wanted mine e (ap (gives_back wanted) is);
  turns = λ class key. turns_none class key mine e (λ b. ap (computes_after b) is);
}

pub alike-refl : (es : List Entry) → IsAlike es es
alike-refl es = record { taken = λ class key serial. refl; given = λ class key serial. refl; turns = λ class key. refl }

pub alike-trans : (es fs gs : List Entry) → IsAlike es fs → IsAlike fs gs → IsAlike es gs
alike-trans es fs gs a b = record {
  taken = λ class key serial. b.taken class key serial ∙ a.taken class key serial;
  given = λ class key serial. b.given class key serial ∙ a.given class key serial;
  turns = λ class key. b.turns class key ∙ a.turns class key;
}

-- each entry is an Evict
abbrev pub AreEvicts : List Entry → Type 0
AreEvicts es = AllByRecursion (λ e. (serial : ℕ) × (e.act ≡ Evict serial)) es

pub evicts_add : (mine evicts : List Entry) → AreEvicts evicts → IsAlike mine (mine ++ evicts)
evicts_add mine [] are = to (sym (append-nil mine))
  where
    to : {after : List Entry} → mine ≡ after → IsAlike mine after
    to same = record {
      taken = λ class key serial. sym (ap (holds_taken class key serial) same);
      given = λ class key serial. sym (ap (holds_given class key serial) same);
      turns = λ class key. sym (ap (computes class key false) same);
    }
evicts_add mine (e ∷ evicts) are = from (evicts_add (mine ++ e ∷ []) evicts are.1) (evict_adds are.0.0 mine e are.0.1)
  where
    whole : (mine ++ e ∷ []) ++ evicts ≡ mine ++ e ∷ evicts
    whole = append_assoc mine (e ∷ []) evicts

    from : IsAlike (mine ++ e ∷ []) ((mine ++ e ∷ []) ++ evicts) → IsAlike mine (mine ++ e ∷ []) → IsAlike mine (mine ++ e ∷ evicts)
    from rest one = record {
      taken = λ class key serial. sym (ap (holds_taken class key serial) whole) ∙ rest.taken class key serial ∙ one.taken class key serial;
      given = λ class key serial. sym (ap (holds_given class key serial) whole) ∙ rest.given class key serial ∙ one.given class key serial;
      turns = λ class key. sym (ap (computes class key false) whole) ∙ rest.turns class key ∙ one.turns class key;
    }

-- Evicts after an entry
pub evicts_after : (mine : List Entry) (e : Entry) (evicts : List Entry) → AreEvicts evicts → IsAlike (mine ++ e ∷ []) (mine ++ e ∷ evicts)
evicts_after mine e evicts are = from (evicts_add (mine ++ e ∷ []) evicts are)
  where
    whole : (mine ++ e ∷ []) ++ evicts ≡ mine ++ e ∷ evicts
    whole = append_assoc mine (e ∷ []) evicts

    from : IsAlike (mine ++ e ∷ []) ((mine ++ e ∷ []) ++ evicts) → IsAlike (mine ++ e ∷ []) (mine ++ e ∷ evicts)
    from rest = record {
      taken = λ class key serial. sym (ap (holds_taken class key serial) whole) ∙ rest.taken class key serial;
      given = λ class key serial. sym (ap (holds_given class key serial) whole) ∙ rest.given class key serial;
      turns = λ class key. sym (ap (computes class key false) whole) ∙ rest.turns class key;
    }

-- entries by a pass that are all Evicts
pub evicts_of : (pass : ℕ) (es : List Entry) → AllByRecursion (λ e. (e.pass ≡ pass) × ((serial : ℕ) × (e.act ≡ Evict serial))) es → AreOf pass es × AreEvicts es
evicts_of pass [] each = (tt, tt)
evicts_of pass (e ∷ es) each = let rest = evicts_of pass es each.1 in ((each.0.0, rest.0), (each.0.1, rest.1))
