-- What a caller of a cache knows of its receipts and turns.
use Rattle.std.proofs.Common.{◌≡◌, ℕ, Bool, true, false, not, cond, ◌&&◌, ◌||◌, List, [], ◌∷◌, ◌++◌, refl, sym, ap, ap₂, ◌∙◌, subst, nat_eq, eq-eqb}
use Rattle.std.specs.List.{list_any}
use Rattle.compute_cache.specs.declared.classes.ClassId.{ClassId}
use Rattle.compute_cache.specs.declared.found.Call.{Call}
use Rattle.compute_cache.specs.declared.hold.Hold.{Hold}
use Rattle.compute_cache.specs.State.{Plain}
use Rattle.compute_cache.specs.Passes.{CachePass, Started, is_turn_of, is_among, is_held, same_hold, has_turn, turns, without_turn, without_hold, IsLater}
use Rattle.compute_cache.specs.Suite.{Suite, ReceiptOf, TurnOf, IsReceiptOf, IsTurnOf, Opens, IsAsBefore, LeavesReceipt, hold_of, start_of}
use Rattle.std.specs.Prelude.{Result, Ok, Err}
use Rattle.compute_cache.specs.declared.found.Call.TheVariants.{Begin}
use Rattle.compute_cache.specs.declared.receipt.Begun.{Begun}
use Rattle.compute_cache.specs.declared.receipt.Begun.TheVariants.{Hit, Turn}
use Rattle.compute_cache.specs.Answers.{Hits, Begins, IsBegun, IsGivenTurn, IsCause, IsEnded, IsTurnEnded, IsComputed}
use Rattle.compute_cache.specs.declared.error.CacheError.{CacheError}
use Rattle.compute_cache.specs.declared.error.CacheError.TheVariants.{NameTaken, ClassesFull, Memory, NotRegistered, Pending, NotCached}
use Rattle.compute_cache.proofs.TurnsOf.{among_has}

any-at_end : {X : Type 0} (p : X → Bool) (xs : List X) (x : X) → p x ≡ true → list_any p (xs ++ x ∷ []) ≡ true
any-at_end p [] x e = ap (λ b. b || false) e
any-at_end p (y ∷ xs) x e = ap (λ b. p y || b) (any-at_end p xs x e) ∙ by (p y)
  where
    by : (b : Bool) → (b || true) ≡ true
    by true = refl
    by false = refl

pub among_last : (t : Started) (ts : List Started) → is_among t (ts ++ t ∷ []) ≡ true
among_last t ts =
    any-at_end (λ (o : Started). nat_eq o.place t.place && is_turn_of t.class t.key o) ts t
    (ap₂ (λ a b. a && b) (eq-eqb t.place t.place refl) (ap₂ (λ a b. a && b) (eq-eqb t.class t.class refl) (eq-eqb t.key t.key refl)))

pub held_last : (h : Hold) (hs : List Hold) → is_held h (hs ++ h ∷ []) ≡ true
held_last h hs =
    any-at_end (same_hold h) hs h
    (ap₂ (λ a b. a && b) (eq-eqb h.place h.place refl)
    (ap₂ (λ a b. a && b) (ap₂ (λ a b. a && b) (eq-eqb h.class h.class refl) (eq-eqb h.key h.key refl)) (eq-eqb h.serial h.serial refl)))

module _ {V K : Type 0} where
  -- a turn that `begin` gave is one of its pass
  pub begun_turn : (cache : Suite (Plain V K)) (call : Call) (wait : Bool) (class : ClassId) (key : ℕ) (old new : CachePass (Plain V K)) (turn : TurnOf V K)
      → Begins cache call wait class key old new turn → IsTurnOf cache new turn
  begun_turn cache call wait class key old new turn begun = record {
    lock = begun.lock;
    pass = begun.pass ∙ sym begun.notes.called.later.number;
    among = ap (is_among (start_of turn)) begun.turns_are ∙ among_last (start_of turn) (turns old);
  }

  -- a receipt that a call gave is open in its pass
  pub hit_receipt : (cache : Suite (Plain V K)) (call : Call) (wait : Bool) (class : ClassId) (key : ℕ) (old new : CachePass (Plain V K)) (receipt : ReceiptOf V K)
      → Hits cache call wait class key old new receipt → IsReceiptOf cache new receipt
  hit_receipt cache call wait class key old new receipt hit = record {
    lock = hit.lock;
    pass = hit.pass ∙ sym hit.notes.called.later.number;
    held = ap (is_held (hold_of receipt)) hit.receipts ∙ held_last (hold_of receipt) old.receipts;
  }

  -- a pass computes the value of its turn
  pub turn_has : (cache : Suite (Plain V K)) (pass : CachePass (Plain V K)) (turn : TurnOf V K) → IsTurnOf cache pass turn → has_turn turn.class turn.key (turns pass) ≡ true
  turn_has cache pass turn is = among_has (start_of turn) (turns pass) is.among

-- what `begin` gave, if it is a turn, is a turn of the pass
pub given_turn : {V K : Type 0} (cache : Suite (Plain V K)) (wait : Bool) (class : ClassId) (key : ℕ) (old new : CachePass (Plain V K)) (begun : Begun K V)
    → IsBegun cache Begin wait class key old new (Ok begun) → IsGivenTurn cache new class key begun
given_turn cache wait class key old new (Hit receipt) is = tt
given_turn cache wait class key old new (Turn turn) is = (begun_turn cache Begin wait class key old new turn is, is.class_is, is.key_is)

-- without the turn that was last there are those before it
without-last : (t : Started) (ts : List Started) → has_turn t.class t.key ts ≡ false → without_turn t.class t.key (ts ++ t ∷ []) ≡ ts
without-last t [] none = ap (λ b. cond (not b) (t ∷ []) []) (ap₂ (λ a b. a && b) (eq-eqb t.class t.class refl) (eq-eqb t.key t.key refl))
without-last t (x ∷ ts) none = by (is_turn_of t.class t.key x) none (without-last t ts)
  where
    by : (b : Bool) → (b || has_turn t.class t.key ts) ≡ false → (has_turn t.class t.key ts ≡ false → without_turn t.class t.key (ts ++ t ∷ []) ≡ ts)
        → cond (not b) (x ∷ without_turn t.class t.key (ts ++ t ∷ [])) (without_turn t.class t.key (ts ++ t ∷ [])) ≡ x ∷ ts
    by true e rest = absurd (cc (e))
    by false e rest = ap (λ l. x ∷ l) (rest e)

-- without the only receipt there is none
pub without_only : (h : Hold) → without_hold h (h ∷ []) ≡ []
without_only h = ap (λ b. cond b [] (h ∷ [])) own
  where
    own : same_hold h h ≡ true
    own =
        ap₂ (λ a b. a && b) (eq-eqb h.place h.place refl)
        (ap₂ (λ a b. a && b) (ap₂ (λ a b. a && b) (eq-eqb h.class h.class refl) (eq-eqb h.key h.key refl)) (eq-eqb h.serial h.serial refl))

later_on : {S : Type 0} (old mid new : CachePass S) → IsLater old mid → IsLater mid new → IsLater old new
later_on old mid new a b = record { id = b.id ∙ a.id; origin = b.origin ∙ a.origin; number = b.number ∙ a.number; made = b.made ∙ a.made; joined = b.joined ∙ a.joined }

module _ {V K : Type 0} (cache : Suite (Plain V K)) (size_of : V → ℕ) (wait : Bool) (class : ClassId) (key : ℕ) (old : CachePass (Plain V K)) (free : has_turn class.0 key (turns old) ≡ false) where
  -- the turns after a turn that was begun and ended
  ended_turns : (mid new : CachePass (Plain V K)) (turn : TurnOf V K) → Begins cache Begin wait class key old mid turn → turns new ≡ without_turn turn.class turn.key (turns mid) → turns new ≡ turns old
  ended_turns mid new turn begun ended =
      ended ∙ ap (without_turn turn.class turn.key) begun.turns_are
      ∙ without-last (start_of turn) (turns old) (ap₂ (λ c k. has_turn c k (turns old)) begun.class_is begun.key_is ∙ free)

  ended_leaves : (mid new : CachePass (Plain V K)) (turn : TurnOf V K) (result : Result (ReceiptOf V K) CacheError) → Begins cache Begin wait class key old mid turn
      → IsTurnEnded cache size_of mid new turn result → LeavesReceipt cache class.0 key old new result
  ended_leaves mid new turn (Ok receipt) begun ended = record {
    later = later_on old mid new begun.notes.called.later ended.called.called.later;
    receipts = ended.receipts ∙ ap (λ hs. hs ++ hold_of receipt ∷ []) begun.receipts;
    turns_are = ended_turns mid new turn begun ended.turns_are;
    lock = ended.lock;
    pass = ended.pass ∙ sym ended.called.called.later.number;
    class_is = ended.class_is ∙ begun.class_is;
    key_is = ended.key_is ∙ begun.key_is;
  }
  ended_leaves mid new turn (Err error) begun ended = record {
    later = later_on old mid new begun.notes.called.later ended.1.called.later;
    receipts = ended.1.receipts ∙ begun.receipts;
    turns_are = ended_turns mid new turn begun ended.1.turns_are;
  }

  hit_leaves : (new : CachePass (Plain V K)) (receipt : ReceiptOf V K) → Hits cache Begin wait class key old new receipt → Opens cache class.0 key old new receipt
  hit_leaves new receipt hit = record {
    later = hit.notes.called.later;
    receipts = hit.receipts;
    turns_are = hit.turns_are;
    lock = hit.lock;
    pass = hit.pass ∙ sym hit.notes.called.later.number;
    class_is = hit.class_is;
    key_is = hit.key_is;
  }

  refused_leaves : (new : CachePass (Plain V K)) (error : CacheError) → IsCause cache Begin wait class key old new error → IsAsBefore old new
  refused_leaves new (NameTaken id) cause = absurd cause
  refused_leaves new ClassesFull cause = absurd cause
  refused_leaves new Memory cause = record { later = cause.called.later; receipts = cause.receipts; turns_are = cause.turns_are }
  refused_leaves new (NotRegistered named) cause = subst (λ p. IsAsBefore old p) (sym cause.pass) (record {
    later = record { id = refl; origin = refl; number = refl; made = refl; joined = refl };
    receipts = refl;
    turns_are = refl;
  })
  refused_leaves new (Pending owner at) cause = record { later = cause.notes.called.later; receipts = cause.receipts; turns_are = cause.turns_are }
  refused_leaves new (NotCached at) cause = record { later = cause.notes.called.later; receipts = cause.receipts; turns_are = cause.turns_are }

  begun_leaves : (mid new : CachePass (Plain V K)) (begun : Result (Begun K V) CacheError) (result : Result (ReceiptOf V K) CacheError)
      → IsBegun cache Begin wait class key old mid begun → IsEnded cache size_of mid new begun result → LeavesReceipt cache class.0 key old new result
  begun_leaves mid new (Ok (Hit receipt)) result begun ended =
      subst (LeavesReceipt cache class.0 key old new) (sym ended.0) (hit_leaves new receipt (subst (λ p. Hits cache Begin wait class key old p receipt) (sym ended.1) begun))
  begun_leaves mid new (Ok (Turn turn)) result begun ended = ended_leaves mid new turn result begun ended
  begun_leaves mid new (Err error) result begun ended =
      subst (LeavesReceipt cache class.0 key old new) (sym ended.0) (refused_leaves new error (subst (λ p. IsCause cache Begin wait class key old p error) (sym ended.1) begun))

  -- what a call leaves that computes where it has to
  pub computed_leaves : (new : CachePass (Plain V K)) (result : Result (ReceiptOf V K) CacheError) → IsComputed cache size_of wait class key old new result → LeavesReceipt cache class.0 key old new result
  computed_leaves new result computed = begun_leaves computed.middle new computed.begun result computed.begins computed.ends

-- a receipt that a call left is open
pub opens_receipt : {V K : Type 0} (cache : Suite (Plain V K)) (class key : ℕ) (old new : CachePass (Plain V K)) (receipt : ReceiptOf V K) → Opens cache class key old new receipt → IsReceiptOf cache new receipt
opens_receipt cache class key old new receipt opens = record {
  lock = opens.lock;
  pass = opens.pass;
  held = ap (is_held (hold_of receipt)) opens.receipts ∙ held_last (hold_of receipt) old.receipts;
}
