-- What a pass shares, as it goes on.
use Rattle.std.proofs.Common.{◌≡◌, ℕ, suc, ◌≤◌, [], ◌∷◌, ◌++◌, length, sym, ap, ◌∙◌, arith, map, subst, List}
use Rattle.std.specs.List.{All}
use Rattle.std.proofs.lemmas.List.{append_assoc, append-nil, map-append}
use Rattle.std.proofs.lemmas.List.Elements.{All-cons, All-nil, All-push}
use Rattle.project_model.specs.declared.plain.PlainProject.{PlainProject}
use Rattle.compute_cache.specs.declared.hold.Hold.{Hold}
use Rattle.compute_cache.specs.State.{Plain}
use Rattle.compute_cache.specs.Passes.{CachePass, has_turn, turns, IsLater}
use Rattle.compute_cache.specs.Suite.{Suite, ReceiptOf, TurnOf, IsAsBefore, IsOf, hold_of}
use Rattle.scene_meaning.specs.Keys.{key_in, node_number}
use Rattle.scene_cache.specs.declared.share.Share.{Share}
use Rattle.scene_cache.specs.Sharing.{IsSharing, IsMine, OpensOne, AreGivenBack, AreOpenBetween}

module _ {V K : Type 0} where
  pub later_trans : (old mid new : CachePass (Plain V K)) → IsLater old mid → IsLater mid new → IsLater old new
  later_trans old mid new a b = record { id = b.id ∙ a.id; origin = b.origin ∙ a.origin; number = b.number ∙ a.number; made = b.made ∙ a.made; joined = b.joined ∙ a.joined }

  pub as_before_trans : (old mid new : CachePass (Plain V K)) → IsAsBefore old mid → IsAsBefore mid new → IsAsBefore old new
  as_before_trans old mid new a b = record {
    later = later_trans old mid new a.later b.later;
    receipts = b.receipts ∙ a.receipts;
    turns_are = b.turns_are ∙ a.turns_are;
  }

  -- a pass stays one of its cache
  pub later_own : (cache : Suite (Plain V K)) (old new : CachePass (Plain V K)) → IsOf cache old → IsLater old new → IsOf cache new
  later_own cache old new own later = record { same = later.id ∙ own.same; from = later.origin ∙ own.from }

  -- with no turn more, it computes nothing of a lower level either
  pub later_shares : (project : PlainProject) (classes level lower : ℕ) (cache : Suite (Plain V K)) (old new : CachePass (Plain V K))
      → IsSharing project classes level cache old → IsLater old new → turns new ≡ turns old → lower ≤ level → IsSharing project classes lower cache new
  later_shares project classes level lower cache old new is later same below = record {
    own = later_own cache old new is.own later;
    classes_are = is.classes_are;
    few = is.few;
    free = λ class ask node t class_low ask_low has of held under.
        ap (has_turn class (key_in class (node_number project node) ask t)) same
        ∙ is.free class ask node t class_low ask_low has of held (omega (arith, under, below));
  }

  -- a pass that computes nothing
  pub none_shares : (project : PlainProject) (classes level : ℕ) (cache : Suite (Plain V K)) (pass : CachePass (Plain V K))
      → IsOf cache pass → length cache.classes ≡ suc classes → classes ≤ 255 → turns pass ≡ [] → IsSharing project classes level cache pass
  none_shares project classes level cache pass own are few none = record {
    own = own;
    classes_are = are;
    few = few;
    free = λ class ask node t class_low ask_low has of held under. ap (has_turn class (key_in class (node_number project node) ask t)) none;
  }

  -- a turn stays the pass's only further one
  pub mine_later : (project : PlainProject) (share : Share) (cache : Suite (Plain V K)) (before old new : CachePass (Plain V K)) (turn : TurnOf V K)
      → IsMine project share cache before old turn → IsAsBefore old new → IsMine project share cache before new turn
  mine_later project share cache before old new turn mine same = record {
    later = later_trans before old new mine.later same.later;
    lock = mine.lock;
    pass = mine.pass ∙ sym same.later.number;
    class_is = mine.class_is;
    key_is = mine.key_is;
    turns_are = same.turns_are ∙ mine.turns_are;
    further = mine.further;
    receipts = same.receipts ∙ mine.receipts;
  }

  -- a receipt that was opened after calls that left all as before
  pub opens_after : (cache : Suite (Plain V K)) (old mid new : CachePass (Plain V K)) (receipt : ReceiptOf V K) → IsAsBefore old mid → OpensOne cache mid new receipt → OpensOne cache old new receipt
  opens_after cache old mid new receipt same opens = record {
    later = later_trans old mid new same.later opens.later;
    lock = opens.lock;
    pass = opens.pass;
    turns_are = opens.turns_are ∙ same.turns_are;
    receipts = opens.receipts ∙ ap (λ hs. hs ++ hold_of receipt ∷ []) same.receipts;
  }

  -- a receipt that was opened stands after all others
  pub opened_last : (cache : Suite (Plain V K)) (old new : CachePass (Plain V K)) (receipt : ReceiptOf V K) → OpensOne cache old new receipt → AreOpenBetween cache new old.receipts (receipt ∷ []) []
  opened_last cache old new receipt opens = record {
    locks = All-cons (λ (r : ReceiptOf V K). r.lock ≡ cache.lock) receipt [] opens.lock (All-nil (λ (r : ReceiptOf V K). r.lock ≡ cache.lock));
    passes = All-cons (λ (r : ReceiptOf V K). r.pass ≡ new.number) receipt [] opens.pass (All-nil (λ (r : ReceiptOf V K). r.pass ≡ new.number));
    holds = opens.receipts ∙ sym (append-nil (old.receipts ++ hold_of receipt ∷ []));
  }

  -- and after those that were opened before it
  pub opened_more : (cache : Suite (Plain V K)) (front : List Hold) (old new : CachePass (Plain V K)) (receipts : List (ReceiptOf V K)) (receipt : ReceiptOf V K)
      → AreOpenBetween cache old front receipts [] → OpensOne cache old new receipt → AreOpenBetween cache new front (receipts ++ receipt ∷ []) []
  opened_more cache front old new receipts receipt before opens = record {
    locks = All-push (λ (r : ReceiptOf V K). r.lock ≡ cache.lock) receipts receipt before.locks opens.lock;
    passes = All-push (λ (r : ReceiptOf V K). r.pass ≡ new.number) receipts receipt
        (subst (λ (n : ℕ). All (λ (r : ReceiptOf V K). r.pass ≡ n) receipts) (sym opens.later.number) before.passes) opens.pass;
    holds = opens.receipts
        ∙ ap (λ hs. hs ++ hold_of receipt ∷ []) (before.holds ∙ append-nil (front ++ map hold_of receipts))
        ∙ append_assoc front (map hold_of receipts) (hold_of receipt ∷ [])
        ∙ ap (λ hs. front ++ hs) (sym (map-append hold_of receipts (receipt ∷ [])))
        ∙ sym (append-nil (front ++ map hold_of (receipts ++ receipt ∷ [])));
  }

  -- once all that were opened were given back, all is as before
  pub given_as_before : (cache : Suite (Plain V K)) (old mid new : CachePass (Plain V K)) (receipts : List (ReceiptOf V K)) → IsLater old mid → turns mid ≡ turns old
      → AreOpenBetween cache mid old.receipts receipts [] → AreGivenBack cache receipts mid new → IsAsBefore old new
  given_as_before cache old mid new receipts later same between given =
      let leaves = given old.receipts [] between in
      record {
        later = later_trans old mid new later leaves.later;
        receipts = leaves.receipts ∙ append-nil old.receipts;
        turns_are = leaves.turns_are ∙ same;
      }
