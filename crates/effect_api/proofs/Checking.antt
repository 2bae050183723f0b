-- Pairs that are put, taken and looked up.
use Rattle.std.proofs.Common.{◌≡◌, ◌≢◌, ℕ, ◌<◌, true, false, Bool, nat_eq, List, [], ◌∷◌, ◌++◌, length, Option, Some, None, if◌then◌else◌, refl, sym, ◌∙◌, subst, arith, MatchOption, Bor}
use Rattle.std.specs.List.{All}
use Rattle.std.specs.Option.{option_copied, option_to_list}
use Rattle.std.proofs.lemmas.List.{append-nil}
use Rattle.std.proofs.lemmas.List.Elements.{All-push, All-head, All-tail, All-nil, All-cons}
use Rattle.effect_api.specs.declared.checkouts.PixelsOf.TheVariants.{Drawn, Shared}
use Rattle.effect_api.specs.declared.checkouts.Value.{Value}
use Rattle.effect_api.specs.declared.checkouts.Value.TheVariants as value
use Rattle.argb_world.specs.Picture.{Picture}
use Rattle.effect_api.specs.Checked.{Pairs, Pixels, IsChecked, IsNew, HaveDistinctIds, HasWorld, IsPlaneValue, plane_in, world_in, world_with}

-- a fact on all of a list is one on all but its last
All-front : {X : Type 0} (P : X → Type 0) (xs : List X) (x : X) → All P (xs ++ x ∷ []) → All P xs
All-front P [] x h = All-nil P
All-front P (y ∷ ys) x h = All-cons P y ys (All-head P y (ys ++ x ∷ []) h) (All-front P ys x (All-tail P y (ys ++ x ∷ []) h))

-- a test of two numbers
true_false : (a b : ℕ) → a ≡ b → nat_eq a b ≡ false → ⊥
true_false a b h e = grind (arith, h, e)

true_same : (a b : ℕ) → nat_eq a b ≡ true → a ≡ b
true_same a b e = grind (arith, e)

unchanged : {A B : Type 0} {X : Type 0} (o : Option X) → MatchOption o A (λ _. ¬ A) → (A → B) → (B → A) → MatchOption o B (λ _. ¬ B)
unchanged None m to back = to m
unchanged (Some x) m to back = λ b. m (back b)

there_value : {most : ℕ} {A : Type 0} (v : Value most) → IsPlaneValue v → ¬ A → MatchOption (plane_in v) A (λ _. ¬ A)
there_value (value.Plane world) has no_one = no_one
there_value (value.Sums sums) has no_one = elim has [ ]

module _ {most : ℕ} {K : Type 0} where
  put_distinct : (pairs : List (ℕ × Pixels most K)) (pair : ℕ × Pixels most K) → HaveDistinctIds pairs → IsNew pair.0 pairs → HaveDistinctIds (pairs ++ pair ∷ [])
  put_distinct [] pair ids fresh = (fresh, tt)
  put_distinct (p ∷ ps) pair ids fresh =
      let other : p.0 ≢ pair.0 = All-head (λ (q : ℕ × Pixels most K). q.0 ≢ pair.0) p ps fresh in
      let rest = All-tail (λ (q : ℕ × Pixels most K). q.0 ≢ pair.0) p ps fresh in
      (All-push (λ (q : ℕ × Pixels most K). q.0 ≢ p.0) ps pair ids.0 (λ e. other (sym e)), put_distinct ps pair ids.1 rest)

  front_distinct : (ps : List (ℕ × Pixels most K)) (p : ℕ × Pixels most K) → HaveDistinctIds (ps ++ p ∷ []) → HaveDistinctIds ps
  front_distinct [] p ids = tt
  front_distinct (q ∷ ps) p ids = (All-front (λ (other : ℕ × Pixels most K). other.0 ≢ q.0) ps p ids.0, front_distinct ps p ids.1)

  -- a pair that is put
  pub put_keeps : (old new : Pairs Picture K (Value most)) (pair : ℕ × Pixels most K) → IsChecked IsPlaneValue old → length old.pairs < old.room → IsNew pair.0 old.pairs → HasWorld pair.1
      → new.pairs ≡ old.pairs ++ pair ∷ [] → new.room ≡ old.room → IsChecked IsPlaneValue new
  put_keeps old new pair checked room fresh world pairs_are room_is = record {
    ids = subst HaveDistinctIds (sym pairs_are) (put_distinct old.pairs pair checked.ids fresh);
    worlds = subst (All (λ (p : ℕ × Pixels most K). HasWorld p.1)) (sym pairs_are) (All-push (λ (p : ℕ × Pixels most K). HasWorld p.1) old.pairs pair checked.worlds world);
  }

  -- the last one is taken, if there is one
  pub take_keeps : (old new : Pairs Picture K (Value most)) (taken : Option (ℕ × Pixels most K)) → IsChecked IsPlaneValue old → old.pairs ≡ new.pairs ++ option_to_list taken → new.room ≡ old.room → IsChecked IsPlaneValue new
  take_keeps old new None checked pairs_are room_is =
      let same : new.pairs ≡ old.pairs = sym (pairs_are ∙ append-nil new.pairs) in
      record {
        ids = subst HaveDistinctIds (sym same) checked.ids;
        worlds = subst (All (λ (p : ℕ × Pixels most K). HasWorld p.1)) (sym same) checked.worlds;
      }
  take_keeps old new (Some pair) checked pairs_are room_is = record {
    ids = front_distinct new.pairs pair (subst HaveDistinctIds pairs_are checked.ids);
    worlds = All-front (λ (p : ℕ × Pixels most K). HasWorld p.1) new.pairs pair (subst (All (λ (p : ℕ × Pixels most K). HasWorld p.1)) pairs_are checked.worlds);
  }

  there : {A : Type 0} (pixels : Pixels most K) → HasWorld pixels → ¬ A → MatchOption (world_in pixels) A (λ _. ¬ A)
  there (Drawn world) has no_one = no_one
  there (Shared receipt) has no_one = there_value receipt.value has no_one

  -- a world is found exactly where some pair has the id
  with_or_new : (id : ℕ) (pairs : List (ℕ × Pixels most K)) → All (λ (p : ℕ × Pixels most K). HasWorld p.1) pairs
      → MatchOption (world_with id pairs) (IsNew id pairs) (λ _. ¬ IsNew id pairs)
  with_or_new id [] worlds = All-nil _
  with_or_new id (pair ∷ rest) worlds = by (nat_eq pair.0 id) refl (with_or_new id rest (All-tail (λ (p : ℕ × Pixels most K). HasWorld p.1) pair rest worlds))
    where
      New : ℕ × Pixels most K → Type 0
      New p = p.0 ≢ id

      by : (t : Bool) → nat_eq pair.0 id ≡ t → MatchOption (world_with id rest) (IsNew id rest) (λ _. ¬ IsNew id rest)
          → MatchOption (if t then world_in pair.1 else world_with id rest) (IsNew id (pair ∷ rest)) (λ _. ¬ IsNew id (pair ∷ rest))
      by true e later =
          there pair.1 (All-head (λ (p : ℕ × Pixels most K). HasWorld p.1) pair rest worlds)
          (λ new. All-head (λ (p : ℕ × Pixels most K). p.0 ≢ id) pair rest new (true_same pair.0 id e))
      by false e later =
          unchanged (world_with id rest) later
          (λ new. All-cons (λ (p : ℕ × Pixels most K). p.0 ≢ id) pair rest (λ same. absurd (true_false pair.0 id same e)) new)
          (λ new. All-tail (λ (p : ℕ × Pixels most K). p.0 ≢ id) pair rest new)

  pub found_or_new : (id : ℕ) (pairs : List (ℕ × Pixels most K)) (found : Option (Bor Picture)) → All (λ (p : ℕ × Pixels most K). HasWorld p.1) pairs
      → option_copied found ≡ world_with id pairs → MatchOption found (IsNew id pairs) (λ _. ¬ IsNew id pairs)
  found_or_new id pairs None worlds e = subst (λ (o : Option Picture). MatchOption o (IsNew id pairs) (λ _. ¬ IsNew id pairs)) (sym e) (with_or_new id pairs worlds)
  found_or_new id pairs (Some world) worlds e = subst (λ (o : Option Picture). MatchOption o (IsNew id pairs) (λ _. ¬ IsNew id pairs)) (sym e) (with_or_new id pairs worlds)
