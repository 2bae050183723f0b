-- What a pass holds while a frame is drawn.
use Rattle.std.proofs.Common.{◌≡◌, ℕ, ◌≤◌, List, [], ◌∷◌, ◌++◌, map, refl, sym, ap, subst, ◌∙◌}
use Rattle.std.specs.List.{All}
use Rattle.std.specs.Prelude.{Result, Ok, Err, IfOk, OnErr}
use Rattle.std.proofs.lemmas.List.{append-nil, append_assoc, map-append}
use Rattle.std.proofs.lemmas.List.Elements.{All-nil, All-cons, All-head, All-tail, All-append}
use Rattle.project_model.specs.declared.plain.PlainProject.{PlainProject}
use Rattle.compute_cache.specs.declared.hold.Hold.{Hold}
use Rattle.compute_cache.specs.State.{Plain}
use Rattle.compute_cache.specs.Passes.{CachePass, IsLater}
use Rattle.compute_cache.specs.Suite.{Suite, ReceiptOf, IsAsBefore, IsOf, hold_of}
use Rattle.scene_cache.specs.Sharing.{AreGivenBack, AreOpenBetween, AreOpenHere, IsSharing, OpensOne}
use Rattle.scene_cache.proofs.Sharing.{later_own, later_shares, later_trans}
use Rattle.frame_draw.specs.Uses.{OpensAll}

all_front : {A : Type 0} (P : A → Type 0) (xs ys : List A) → All P (xs ++ ys) → All P xs
all_front P [] ys all = All-nil P
all_front P (x ∷ xs) ys all = All-cons P x xs (All-head P x (xs ++ ys) all) (all_front P xs ys (All-tail P x (xs ++ ys) all))

all_rest : {A : Type 0} (P : A → Type 0) (xs ys : List A) → All P (xs ++ ys) → All P ys
all_rest P [] ys all = all
all_rest P (x ∷ xs) ys all = all_rest P xs ys (All-tail P x (xs ++ ys) all)

module _ {V K : Type 0} where
  pub later_same : (pass : CachePass (Plain V K)) → IsLater pass pass
  later_same pass = record { id = refl; origin = refl; number = refl; made = refl; joined = refl }

  pub before_same : (pass : CachePass (Plain V K)) → IsAsBefore pass pass
  before_same pass = record { later = later_same pass; receipts = refl; turns_are = refl }

  -- a pass that holds and computes what it did shares as it did, and so at a lower level
  pub shares_before : (project : PlainProject) (classes level lower : ℕ) (cache : Suite (Plain V K)) (old new : CachePass (Plain V K)) → IsSharing project classes level cache old → IsAsBefore old new → lower ≤ level → IsSharing project classes lower cache new
  shares_before project classes level lower cache old new is before under = later_shares project classes level lower cache old new is before.later before.turns_are under

  pub shares_opened : (project : PlainProject) (classes level lower : ℕ) (cache : Suite (Plain V K)) (old new : CachePass (Plain V K)) (receipts : List (ReceiptOf V K)) → IsSharing project classes level cache old → OpensAll cache old receipts new → lower ≤ level → IsSharing project classes lower cache new
  shares_opened project classes level lower cache old new receipts is opens under = later_shares project classes level lower cache old new is opens.later opens.turns_are under

  module _ (cache : Suite (Plain V K)) where
    pub opens_none : (pass : CachePass (Plain V K)) → OpensAll cache pass [] pass
    opens_none pass = record { later = later_same pass; turns_are = refl; locks = All-nil _; passes = All-nil _; holds = sym (append-nil pass.receipts) }

    pub opens_one : (old new : CachePass (Plain V K)) (receipt : ReceiptOf V K) → OpensOne cache old new receipt → OpensAll cache old (receipt ∷ []) new
    opens_one old new receipt one = record {
      later = one.later;
      turns_are = one.turns_are;
      locks = All-cons (λ r. r.lock ≡ cache.lock) receipt [] one.lock (All-nil _);
      passes = All-cons (λ r. r.pass ≡ new.number) receipt [] one.pass (All-nil _);
      holds = one.receipts;
    }

    numbers_on : (old new : CachePass (Plain V K)) (receipts : List (ReceiptOf V K)) → IsLater old new → All (λ r. r.pass ≡ old.number) receipts → All (λ r. r.pass ≡ new.number) receipts
    numbers_on old new receipts later all = subst (λ (n : ℕ). All (λ (r : ReceiptOf V K). r.pass ≡ n) receipts) (sym later.number) all

    pub opens_more : (old mid new : CachePass (Plain V K)) (receipts further : List (ReceiptOf V K)) → OpensAll cache old receipts mid → OpensAll cache mid further new → OpensAll cache old (receipts ++ further) new
    opens_more old mid new receipts further a b = record {
      later = later_trans old mid new a.later b.later;
      turns_are = b.turns_are ∙ a.turns_are;
      locks = All-append (λ r. r.lock ≡ cache.lock) receipts further a.locks b.locks;
      passes = All-append (λ r. r.pass ≡ new.number) receipts further (numbers_on mid new receipts b.later a.passes) b.passes;
      holds =
          b.holds ∙ ap (λ hs. hs ++ map hold_of further) a.holds ∙ append_assoc old.receipts (map hold_of receipts) (map hold_of further)
          ∙ ap (λ hs. old.receipts ++ hs) (sym (map-append hold_of receipts further));
    }

    -- what was there before may have changed nothing, and so may what comes after
    pub opens_after : (old mid new : CachePass (Plain V K)) (receipts : List (ReceiptOf V K)) → IsAsBefore old mid → OpensAll cache mid receipts new → OpensAll cache old receipts new
    opens_after old mid new receipts before a = record {
      later = later_trans old mid new before.later a.later;
      turns_are = a.turns_are ∙ before.turns_are;
      locks = a.locks;
      passes = a.passes;
      holds = a.holds ∙ ap (λ hs. hs ++ map hold_of receipts) before.receipts;
    }

    pub opens_on : (old mid new : CachePass (Plain V K)) (receipts : List (ReceiptOf V K)) → OpensAll cache old receipts mid → IsAsBefore mid new → OpensAll cache old receipts new
    opens_on old mid new receipts a before = record {
      later = later_trans old mid new a.later before.later;
      turns_are = before.turns_are ∙ a.turns_are;
      locks = a.locks;
      passes = numbers_on mid new receipts before.later a.passes;
      holds = before.receipts ∙ a.holds;
    }

    between : (old new : CachePass (Plain V K)) (receipts : List (ReceiptOf V K)) → OpensAll cache old receipts new → AreOpenBetween cache new old.receipts receipts []
    between old new receipts a = record { locks = a.locks; passes = a.passes; holds = a.holds ∙ sym (append-nil (old.receipts ++ map hold_of receipts)) }

    pub opens_here : (old new : CachePass (Plain V K)) (receipts : List (ReceiptOf V K)) → OpensAll cache old receipts new → AreOpenHere cache new receipts
    opens_here old new receipts a = record { front = old.receipts; back = []; between = between old new receipts a }

    -- where they are given back, all is as before
    pub opens_back : (old mid new : CachePass (Plain V K)) (receipts : List (ReceiptOf V K)) → OpensAll cache old receipts mid → AreGivenBack cache receipts mid new → IsAsBefore old new
    opens_back old mid new receipts a given =
        let left = given old.receipts [] (between old mid receipts a) in
        record {
          later = later_trans old mid new a.later left.later;
          receipts = left.receipts ∙ append-nil old.receipts;
          turns_are = left.turns_are ∙ a.turns_are;
        }

    -- ---- receipts in two lists, one opened after the other

    all_split : (pass : CachePass (Plain V K)) (front back : List Hold) (ones others : List (ReceiptOf V K)) → AreOpenBetween cache pass front (ones ++ others) back → AreOpenBetween cache pass (front ++ map hold_of ones) others back
    all_split pass front back ones others is = record {
      locks = all_rest (λ r. r.lock ≡ cache.lock) ones others is.locks;
      passes = all_rest (λ r. r.pass ≡ pass.number) ones others is.passes;
      holds = is.holds ∙ ap (λ hs. hs ++ back) (ap (λ hs. front ++ hs) (map-append hold_of ones others) ∙ sym (append_assoc front (map hold_of ones) (map hold_of others)));
    }

    pub all_here : (pass : CachePass (Plain V K)) (ones others : List (ReceiptOf V K)) → AreOpenHere cache pass (ones ++ others) → AreOpenHere cache pass others
    all_here pass ones others is = record { front = is.front ++ map hold_of ones; back = is.back; between = all_split pass is.front is.back ones others is.between }

    -- the first ones, when the others were given back
    left_ones : (old mid : CachePass (Plain V K)) (front back : List Hold) (ones others : List (ReceiptOf V K)) → AreOpenBetween cache old front (ones ++ others) back → AreGivenBack cache others old mid → AreOpenBetween cache mid front ones back
    left_ones old mid front back ones others is given =
        let left = given (front ++ map hold_of ones) back (all_split old front back ones others is) in
        record {
          locks = all_front (λ r. r.lock ≡ cache.lock) ones others is.locks;
          passes = numbers_on old mid ones left.later (all_front (λ r. r.pass ≡ old.number) ones others is.passes);
          holds = left.receipts;
        }

    pub left_here : (old mid : CachePass (Plain V K)) (ones others : List (ReceiptOf V K)) → AreOpenHere cache old (ones ++ others) → AreGivenBack cache others old mid → AreOpenHere cache mid ones
    left_here old mid ones others is given = record { front = is.front; back = is.back; between = left_ones old mid is.front is.back ones others is.between given }

    pub left_own : (old mid : CachePass (Plain V K)) (ones others : List (ReceiptOf V K)) → IsOf cache old → AreOpenHere cache old (ones ++ others) → AreGivenBack cache others old mid → IsOf cache mid
    left_own old mid ones others own is given = later_own cache old mid own (given (is.front ++ map hold_of ones) is.back (all_split old is.front is.back ones others is.between)).later

    pub all_back : (old mid new : CachePass (Plain V K)) (ones others : List (ReceiptOf V K)) → AreGivenBack cache others old mid → AreGivenBack cache ones mid new → AreGivenBack cache (ones ++ others) old new
    all_back old mid new ones others first second front back is =
        let a = first (front ++ map hold_of ones) back (all_split old front back ones others is) in
        let b = second front back (left_ones old mid front back ones others is first) in
        record { later = later_trans old mid new a.later b.later; turns_are = b.turns_are ∙ a.turns_are; receipts = b.receipts }

    -- ---- receipts that were opened before others, and are given back while those stay open

    before_others : (old mid new : CachePass (Plain V K)) (early others : List (ReceiptOf V K)) → OpensAll cache old early mid → OpensAll cache mid others new → AreOpenBetween cache new old.receipts early (map hold_of others)
    before_others old mid new early others a b = record {
      locks = a.locks;
      passes = numbers_on mid new early b.later a.passes;
      holds = b.holds ∙ ap (λ hs. hs ++ map hold_of others) a.holds;
    }

    pub early_back : (old mid last new : CachePass (Plain V K)) (early others : List (ReceiptOf V K)) → OpensAll cache old early mid → OpensAll cache mid others last → AreGivenBack cache early last new → OpensAll cache old others new
    early_back old mid last new early others a b given =
        let left = given old.receipts (map hold_of others) (before_others old mid last early others a b) in
        record {
          later = later_trans old mid new a.later (later_trans mid last new b.later left.later);
          turns_are = left.turns_are ∙ b.turns_are ∙ a.turns_are;
          locks = b.locks;
          passes = numbers_on last new others left.later b.passes;
          holds = left.receipts;
        }

    -- the others are what a call took, which left all as before where it took nothing
    module _ {T E : Type 0} where
      pub early_here : (old mid new : CachePass (Plain V K)) (early : List (ReceiptOf V K)) (taken : Result T E) (receipts : T → List (ReceiptOf V K)) → OpensAll cache old early mid → IfOk taken (λ t. OpensAll cache mid (receipts t) new) → OnErr taken (IsAsBefore mid new) → AreOpenHere cache new early
      early_here old mid new early (Ok t) receipts a opened refused = record { front = old.receipts; back = map hold_of (receipts t); between = before_others old mid new early (receipts t) a opened }
      early_here old mid new early (Err e) receipts a opened refused = opens_here old new early (opens_on old mid new early a refused)

      pub early_later : (old mid new : CachePass (Plain V K)) (early : List (ReceiptOf V K)) (taken : Result T E) (receipts : T → List (ReceiptOf V K)) → OpensAll cache old early mid → IfOk taken (λ t. OpensAll cache mid (receipts t) new) → OnErr taken (IsAsBefore mid new) → IsLater old new
      early_later old mid new early (Ok t) receipts a opened refused = later_trans old mid new a.later opened.later
      early_later old mid new early (Err e) receipts a opened refused = later_trans old mid new a.later refused.later

      pub early_opened : (old mid last new : CachePass (Plain V K)) (early : List (ReceiptOf V K)) (taken : Result T E) (receipts : T → List (ReceiptOf V K)) → OpensAll cache old early mid → IfOk taken (λ t. OpensAll cache mid (receipts t) last) → AreGivenBack cache early last new → IfOk taken (λ t. OpensAll cache old (receipts t) new)
      early_opened old mid last new early (Ok t) receipts a opened given = early_back old mid last new early (receipts t) a opened given
      early_opened old mid last new early (Err e) receipts a opened given = tt

      pub early_refused : (old mid last new : CachePass (Plain V K)) (early : List (ReceiptOf V K)) (taken : Result T E) → OpensAll cache old early mid → OnErr taken (IsAsBefore mid last) → AreGivenBack cache early last new → OnErr taken (IsAsBefore old new)
      early_refused old mid last new early (Ok t) a refused given = tt
      early_refused old mid last new early (Err e) a refused given = opens_back old last new early (opens_on old mid last early a refused) given
