-- What calls of a pass leave that has one receipt or one turn.
use Rattle.std.proofs.Common.{◌≡◌, ℕ, Bool, true, false, not, cond, ◌&&◌, ◌||◌, List, [], ◌∷◌, ◌++◌, refl, sym, ap, ap₂, ◌∙◌, nat_eq, eq-eqb}
use Rattle.compute_cache.specs.declared.hold.Hold.{Hold}
use Rattle.compute_cache.specs.State.{Plain}
use Rattle.compute_cache.specs.Passes.{CachePass, Started, is_among, is_held, same_hold, without_turn, without_hold}
use Rattle.compute_cache.specs.Suite.{Suite, ReceiptOf, TurnOf, IsReceiptOf, IsTurnOf, IsAsBefore, Opens, hold_of, start_of}
use Rattle.compute_cache.specs.Found.{Refused}
pub use Rattle.compute_cache.proofs.Callers.{hit_receipt, begun_turn, without_only, opens_receipt, held_last}

-- without the only turn there is none
pub without_turn_only : (t : Started) → without_turn t.class t.key (t ∷ []) ≡ []
without_turn_only t = ap (λ b. cond (not b) (t ∷ []) []) (ap₂ (λ a b. a && b) (eq-eqb t.class t.class refl) (eq-eqb t.key t.key refl))

-- a receipt that is the last of its pass is one of the pass
pub finished_receipt : {V K : Type 0} (cache : Suite (Plain V K)) (pass : CachePass (Plain V K)) (receipt : ReceiptOf V K) (before : List Hold)
    → receipt.lock ≡ cache.lock → receipt.pass ≡ pass.number → pass.receipts ≡ before ++ hold_of receipt ∷ [] → IsReceiptOf cache pass receipt
finished_receipt cache pass receipt before lock number last =
    record { lock = lock; pass = number; held = ap (is_held (hold_of receipt)) last ∙ held_last (hold_of receipt) before }

module _ {V K : Type 0} (cache : Suite (Plain V K)) where
  -- a turn and a receipt stay those of a pass that was only asked
  pub turn_stays : (budget : ℕ) (old new : CachePass (Plain V K)) (turn : TurnOf V K) → Refused budget old new → IsTurnOf cache old turn → IsTurnOf cache new turn
  turn_stays budget old new turn quiet is = record { lock = is.lock; pass = is.pass ∙ sym quiet.called.later.number; among = ap (is_among (start_of turn)) quiet.turns_are ∙ is.among }

  pub receipt_stays : (old new : CachePass (Plain V K)) (receipt : ReceiptOf V K) → IsAsBefore old new → IsReceiptOf cache old receipt → IsReceiptOf cache new receipt
  receipt_stays old new receipt same is = record { lock = is.lock; pass = is.pass ∙ sym same.later.number; held = ap (is_held (hold_of receipt)) same.receipts ∙ is.held }

  -- the first of two receipts, once the second was given back
  pub receipt_first : (old new : CachePass (Plain V K)) (receipt : ReceiptOf V K) → IsReceiptOf cache old receipt → new.number ≡ old.number → new.receipts ≡ hold_of receipt ∷ [] → IsReceiptOf cache new receipt
  receipt_first old new receipt is number only = record { lock = is.lock; pass = is.pass ∙ sym number; held = ap (is_held (hold_of receipt)) only ∙ held_last (hold_of receipt) [] }

  -- the first of two receipts, once the second was taken
  pub receipt_under : (class key : ℕ) (old new : CachePass (Plain V K)) (first second : ReceiptOf V K) → Opens cache class key old new second → old.receipts ≡ hold_of first ∷ [] → IsReceiptOf cache old first → IsReceiptOf cache new first
  receipt_under class key old new first second opens only is = record {
    lock = is.lock;
    pass = is.pass ∙ sym opens.later.number;
    held = ap (is_held (hold_of first)) (opens.receipts ∙ ap (λ hs. hs ++ hold_of second ∷ []) only) ∙ ap (λ b. b || (same_hold (hold_of first) (hold_of second) || false)) (same (hold_of first));
  }
    where
      same : (h : Hold) → same_hold h h ≡ true
      same h =
          ap₂ (λ a b. a && b) (eq-eqb h.place h.place refl)
          (ap₂ (λ a b. a && b) (ap₂ (λ a b. a && b) (eq-eqb h.class h.class refl) (eq-eqb h.key h.key refl)) (eq-eqb h.serial h.serial refl))

-- without the second receipt, which has another key, there is the first
pub without_second : (a b : Hold) → a.key ≡ 1 → b.key ≡ 2 → without_hold b (a ∷ b ∷ []) ≡ a ∷ []
without_second a b first second = ap (λ t. cond t (b ∷ []) (a ∷ without_hold b (b ∷ []))) differ ∙ ap (λ l. a ∷ l) (without_only b)
  where
    by : (p c k s : Bool) → k ≡ false → (p && (c && k && s)) ≡ false
    by true true true s e = absurd (cc e)
    by true true false s e = refl
    by true false k s e = refl
    by false c k s e = refl

    differ : same_hold b a ≡ false
    differ = by (nat_eq a.place b.place) (nat_eq a.class b.class) (nat_eq a.key b.key) (nat_eq a.serial b.serial) (ap₂ nat_eq first second)
