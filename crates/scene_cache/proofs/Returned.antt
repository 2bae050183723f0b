-- Receipts that are given back.
use Rattle.std.proofs.Common.{◌≡◌, ℕ, ◌<◌, Bool, true, false, cond, ◌&&◌, ◌||◌, List, [], ◌∷◌, ◌++◌, map, refl, sym, ap, ap₂, subst, ◌∙◌, nat_eq, eq-eqb, eqb-true, arith}
use Rattle.std.specs.List.{All, AllByRecursion}
use Rattle.std.proofs.lemmas.Bool.{and_parts}
use Rattle.std.proofs.lemmas.Grind.{flat_map-append}
use Rattle.std.proofs.lemmas.List.{append_assoc, append-nil, map-append}
use Rattle.std.proofs.lemmas.List.Elements.{All-nil, All-cons, All-head, All-tail}
use Rattle.compute_cache.specs.declared.hold.Hold.{Hold}
use Rattle.compute_cache.specs.State.{Plain}
use Rattle.compute_cache.specs.Passes.{CachePass, AreRising, is_held, is_hold_of, same_hold, turns, without_hold, IsLater}
use Rattle.compute_cache.specs.Suite.{Suite, ReceiptOf, IsOf, IsReceiptOf, hold_of}
use Rattle.effect_api.specs.Checked.{Pixels}
use Rattle.scene_cache.specs.Sharing.{AreGivenBack, AreOpenBetween, AreOpenHere, Leaves, receipt_of, receipts_of}
use Rattle.scene_cache.proofs.Sharing.{later_own, later_trans}

-- ---- lists

front_all : {A : Type 0} (P : A → Type 0) (xs ys : List A) → All P (xs ++ ys) → All P xs
front_all P [] ys all = All-nil P
front_all P (x ∷ xs) ys all = All-cons P x xs (All-head P x (xs ++ ys) all) (front_all P xs ys (All-tail P x (xs ++ ys) all))

back_all : {A : Type 0} (P : A → Type 0) (xs ys : List A) → All P (xs ++ ys) → All P ys
back_all P [] ys all = all
back_all P (x ∷ xs) ys all = back_all P xs ys (All-tail P x (xs ++ ys) all)

same_here : (h : Hold) → same_hold h h ≡ true
same_here h =
    ap₂ (λ a b. a && b) (eq-eqb h.place h.place refl)
    (ap₂ (λ a b. a && b) (ap₂ (λ a b. a && b) (eq-eqb h.class h.class refl) (eq-eqb h.key h.key refl)) (eq-eqb h.serial h.serial refl))

held_mid : (h : Hold) (front back : List Hold) → is_held h (front ++ h ∷ back) ≡ true
held_mid h [] back = ap (λ b. b || is_held h back) (same_here h)
held_mid h (x ∷ front) back = ap (λ b. same_hold h x || b) (held_mid h front back) ∙ by (same_hold h x)
  where
    by : (b : Bool) → (b || true) ≡ true
    by true = refl
    by false = refl

-- the later ones of a list whose places rise
mid_later : (x h : Hold) (front back : List Hold) → AllByRecursion (λ later. x.place < later.place) (front ++ h ∷ back) → x.place < h.place
mid_later x h [] back all = all.0
mid_later x h (y ∷ front) back all = mid_later x h front back all.1

-- without a receipt there are those in front of it and those after it
without_mid : (h : Hold) (front back : List Hold) → AreRising (front ++ h ∷ back) → without_hold h (front ++ h ∷ back) ≡ front ++ back
without_mid h [] back rising = ap (λ b. cond b back (h ∷ without_hold h back)) (same_here h)
without_mid h (x ∷ front) back rising = by (same_hold h x) refl (without_mid h front back rising.1)
  where
    earlier : x.place < h.place
    earlier = mid_later x h front back rising.0

    by : (b : Bool) → same_hold h x ≡ b → without_hold h (front ++ h ∷ back) ≡ front ++ back
        → cond b (front ++ h ∷ back) (x ∷ without_hold h (front ++ h ∷ back)) ≡ x ∷ (front ++ back)
    by true same rest =
        let place : x.place ≡ h.place = eqb-true x.place h.place (and_parts (nat_eq x.place h.place) (is_hold_of h.class h.key h.serial x) same).0 in
        absurd (omega (arith, place, earlier))
    by false same rest = ap (λ l. x ∷ l) rest

module _ {V K : Type 0} where
  -- ---- one receipt

  pub receipt_open : (cache : Suite (Plain V K)) (pass : CachePass (Plain V K)) (receipt : ReceiptOf V K) → AreOpenHere cache pass (receipt ∷ []) → IsReceiptOf cache pass receipt
  receipt_open cache pass receipt is = record {
    lock = All-head (λ (r : ReceiptOf V K). r.lock ≡ cache.lock) receipt [] is.between.locks;
    pass = All-head (λ (r : ReceiptOf V K). r.pass ≡ pass.number) receipt [] is.between.passes;
    held = ap (is_held (hold_of receipt)) (is.between.holds ∙ append_assoc is.front (hold_of receipt ∷ []) is.back) ∙ held_mid (hold_of receipt) is.front is.back;
  }

  pub one_back : (cache : Suite (Plain V K)) (old new : CachePass (Plain V K)) (receipt : ReceiptOf V K) → AreRising old.receipts → IsLater old new → turns new ≡ turns old
      → new.receipts ≡ without_hold (hold_of receipt) old.receipts → AreGivenBack cache (receipt ∷ []) old new
  one_back cache old new receipt rising later same left = λ front back between.
      let h : Hold = hold_of receipt in
      let holds : old.receipts ≡ front ++ h ∷ back = between.holds ∙ append_assoc front (h ∷ []) back in
      record {
        later = later;
        turns_are = same;
        receipts = left ∙ ap (without_hold h) holds ∙ without_mid h front back (subst AreRising holds rising);
      }

  -- no receipt
  pub none_back : (cache : Suite (Plain V K)) (pass : CachePass (Plain V K)) → AreGivenBack cache [] pass pass
  none_back cache pass = λ front back between. record {
    later = record { id = refl; origin = refl; number = refl; made = refl; joined = refl };
    turns_are = refl;
    receipts = between.holds ∙ ap (λ l. l ++ back) (append-nil front);
  }

  -- ---- the last ones first

  -- these receipts are left of all that were open when a call began
  pub record AreLeft (cache : Suite (Plain V K)) (entry now : CachePass (Plain V K)) (all left : List (ReceiptOf V K)) : Type 0 where
    pub own : IsOf cache now
    pub locks : All (λ receipt. receipt.lock ≡ cache.lock) left
    pub passes : All (λ receipt. receipt.pass ≡ now.number) left
    pub kept : (front back : List Hold) → AreOpenBetween cache entry front all back → Leaves entry (front ++ map hold_of left ++ back) now

  pub all_left : (cache : Suite (Plain V K)) (entry : CachePass (Plain V K)) (all : List (ReceiptOf V K)) → IsOf cache entry → AreOpenHere cache entry all → AreLeft cache entry entry all all
  all_left cache entry all own is = record {
    own = own;
    locks = is.between.locks;
    passes = is.between.passes;
    kept = λ front back between. record {
      later = record { id = refl; origin = refl; number = refl; made = refl; joined = refl };
      turns_are = refl;
      receipts = between.holds;
    };
  }

  -- the last ones of a list, in its place
  last_ones : (front : List Hold) (rest ones : List (ReceiptOf V K)) (back : List Hold)
      → front ++ map hold_of (rest ++ ones) ++ back ≡ front ++ map hold_of rest ++ map hold_of ones ++ back
  last_ones front rest ones back =
      ap (λ l. l ++ back) (ap (λ l. front ++ l) (map-append hold_of rest ones) ∙ sym (append_assoc front (map hold_of rest) (map hold_of ones)))

  module _ (cache : Suite (Plain V K)) (entry now : CachePass (Plain V K)) (all left rest ones : List (ReceiptOf V K)) (split : left ≡ rest ++ ones) (are : AreLeft cache entry now all left) where
    between_last : (front back : List Hold) → AreOpenBetween cache entry front all back → AreOpenBetween cache now (front ++ map hold_of rest) ones back
    between_last front back between = record {
      locks = back_all (λ (r : ReceiptOf V K). r.lock ≡ cache.lock) rest ones (subst (All (λ (r : ReceiptOf V K). r.lock ≡ cache.lock)) split are.locks);
      passes = back_all (λ (r : ReceiptOf V K). r.pass ≡ now.number) rest ones (subst (All (λ (r : ReceiptOf V K). r.pass ≡ now.number)) split are.passes);
      holds = (are.kept front back between).receipts ∙ ap (λ (l : List (ReceiptOf V K)). front ++ map hold_of l ++ back) split ∙ last_ones front rest ones back;
    }

    pub last_open : AreOpenHere cache entry all → AreOpenHere cache now ones
    last_open is = record { front = is.front ++ map hold_of rest; back = is.back; between = between_last is.front is.back is.between }

    -- once the last ones were given back, the rest is left
    pub less_left : (new : CachePass (Plain V K)) → AreOpenHere cache entry all → AreGivenBack cache ones now new → AreLeft cache entry new all rest
    less_left new is given =
        let later : IsLater now new = (given (is.front ++ map hold_of rest) is.back (between_last is.front is.back is.between)).later in
        record {
          own = later_own cache now new are.own later;
          locks = front_all (λ (r : ReceiptOf V K). r.lock ≡ cache.lock) rest ones (subst (All (λ (r : ReceiptOf V K). r.lock ≡ cache.lock)) split are.locks);
          passes = subst (λ (n : ℕ). All (λ (r : ReceiptOf V K). r.pass ≡ n) rest) (sym later.number)
              (front_all (λ (r : ReceiptOf V K). r.pass ≡ now.number) rest ones (subst (All (λ (r : ReceiptOf V K). r.pass ≡ now.number)) split are.passes));
          kept = λ front back between.
              let before = are.kept front back between in
              let after = given (front ++ map hold_of rest) back (between_last front back between) in
              record {
                later = later_trans entry now new before.later after.later;
                turns_are = after.turns_are ∙ before.turns_are;
                receipts = after.receipts;
              };
        }

  pub none_left : (cache : Suite (Plain V K)) (entry now : CachePass (Plain V K)) (all left : List (ReceiptOf V K)) → left ≡ [] → AreLeft cache entry now all left → AreGivenBack cache all entry now
  none_left cache entry now all left none are = λ front back between.
      let leaves = are.kept front back between in
      record {
        later = leaves.later;
        turns_are = leaves.turns_are;
        receipts = leaves.receipts ∙ ap (λ (l : List (ReceiptOf V K)). front ++ map hold_of l ++ back) none ∙ ap (λ l. l ++ back) (append-nil front);
      }

-- ---- receipts among pixels

pub last_of : {most : ℕ} {K : Type 0} (pairs rest : List (ℕ × Pixels most K)) (id : ℕ) (pixels : Pixels most K) → pairs ≡ rest ++ (id, pixels) ∷ [] → receipts_of pairs ≡ receipts_of rest ++ receipt_of pixels
last_of pairs rest id pixels split =
    ap receipts_of split ∙ flat_map-append (λ p. receipt_of p.1) rest ((id, pixels) ∷ []) ∙ ap (λ l. receipts_of rest ++ l) (append-nil (receipt_of pixels))
