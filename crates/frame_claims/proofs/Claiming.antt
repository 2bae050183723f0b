-- What a claim promises, from what its steps tell.
use Rattle.std.proofs.Common.{◌≡◌, ℕ, true, ◌+◌, ◌<◌, ◌≤◌, List, [], ◌∷◌, ◌++◌, length, length-append, refl, sym, ap, ap₂, ◌∙◌, subst, subst₂, arith}
use Rattle.std.specs.Prelude.{Some, None, All, min, IsPermutation}
use Rattle.std.specs.List.{range_with_len}
use Rattle.std.proofs.Math.Nat.{min-eq_left, min-eq_right}
use Rattle.std.proofs.lemmas.Bool.{cond_below, cond_above}
use Rattle.std.proofs.lemmas.List.Elements.{All-push, All-weaker}
use Rattle.atomic_table.specs.Seated.{TableId}
use Rattle.atomic_table.specs.Table.{Me}
use Rattle.frame_claims.specs.Claims.{Claims, Seat, IsOf, IsAlone, AreIn, AreOnce, AreAll, next_after}
use Rattle.frame_claims.specs.Seen.{shown}
use Rattle.frame_claims.specs.Told.{TellsOf, marked, at_end, with_draw}
use Rattle.frame_claims.specs.declared.view.View.{View}
use Rattle.frame_claims.proofs.Numbers.{once_more, range_counted}

-- what a claim promises where it answers `None`, and where it answers a number, of the draws after it
pub record Ends (claims : Claims) (seat : Seat) (draws : List ℕ) : Type 0 where
  pub once : AreOnce draws
  pub few : length draws ≤ claims.count
  pub next : IsAlone seat → None ≡ next_after claims (length seat.draws)
  pub all : IsAlone seat → AreAll claims draws

pub record Takes (claims : Claims) (seat : Seat) (number : ℕ) (draws : List ℕ) : Type 0 where
  pub numbers : AreIn claims draws
  pub once : AreOnce draws
  pub few : length draws ≤ claims.count
  pub next : IsAlone seat → Some number ≡ next_after claims (length seat.draws)

-- a mark does not show
pub shown_marked : (id id' : TableId) (v : View) (me : Me Unit View) (seat : Seat) → id' ≡ id → me ≡ (marked v, []) → shown id v ≡ seat → shown id' me.0 ≡ seat
shown_marked id id' v me seat same after is = ap₂ (λ i (m : Me Unit View). shown i m.0) same after ∙ is

module _ (claims : Claims) (id : TableId) (v : View) (seat : Seat) (is : shown id v ≡ seat) (own : IsOf claims seat) (found : ℕ) (told : TellsOf found v) where
  first_is : v.first ≡ claims.first
  first_is = ap (λ (x : Seat). x.first) is ∙ own.first

  pub count_is : v.count ≡ claims.count
  count_is = ap (λ (x : Seat). x.count) is ∙ own.count

  draws_are : v.draws ≡ seat.draws
  draws_are = ap (λ (x : Seat). x.draws) is

  drawn_once : AreOnce seat.draws
  drawn_once = subst AreOnce draws_are told.once

  drawn_few : length seat.draws ≤ min found v.count
  drawn_few = subst (λ l. length l ≤ min found v.count) draws_are told.few

  -- where the seat is alone, it drew all numbers that the word has passed
  alone_drew : (n : ℕ) → min found v.count ≡ n → IsAlone seat → IsPermutation (range_with_len claims.first n) seat.draws
  alone_drew n passed alone =
      let opening : v.opening ≡ true = ap (λ (x : Seat). x.opening) is ∙ alone.opening in
      let last : v.made ≡ v.joined + 1 = subst (λ (x : Seat). x.made ≡ x.joined + 1) (sym is) alone.last in
      subst₂ (λ a l. IsPermutation (range_with_len a n) l) first_is draws_are (subst (λ m. IsPermutation (range_with_len v.first m) v.draws) passed (told.alone opening last))

  module _ (end : v.count ≤ found) where
    all_passed : min found v.count ≡ claims.count
    all_passed = min-eq_right end ∙ count_is

    end_next : IsAlone seat → None ≡ next_after claims (length seat.draws)
    end_next alone =
        let many : length seat.draws ≡ claims.count = range_counted claims.first claims.count seat.draws (alone_drew claims.count all_passed alone) in
        cond_above (length seat.draws) claims.count (Some (claims.first + length seat.draws)) None None (omega (arith, many)) refl

    end_all : IsAlone seat → AreAll claims seat.draws
    end_all alone =
        let each = alone_drew claims.count all_passed alone in
        record { each_once = each; length_is = range_counted claims.first claims.count seat.draws each }

    pub ends : (me : Me Unit View) → (v.count ≤ found → me ≡ (at_end v, [])) → Ends claims seat me.0.draws
    ends me after =
        let same : me.0.draws ≡ seat.draws = ap (λ (m : Me Unit View). m.0.draws) (after end) ∙ draws_are in record {
          once = subst AreOnce (sym same) drawn_once;
          few = omega (arith, ap length same, drawn_few, all_passed);
          next = end_next;
          all = λ alone. subst (AreAll claims) (sym same) (end_all alone);
        }

  module _ (left : found < v.count) where
    passed_is : min found v.count ≡ found
    passed_is = min-eq_left (omega (arith, left))

    draw_next : IsAlone seat → Some (claims.first + found) ≡ next_after claims (length seat.draws)
    draw_next alone =
        let many : length seat.draws ≡ found = range_counted claims.first found seat.draws (alone_drew found passed_is alone) in
        ap (λ n. Some (claims.first + n)) (sym many) ∙ cond_below (length seat.draws) claims.count (Some (claims.first + length seat.draws)) None (omega (arith, many, left, count_is))

    drawn_before : All (λ number. (claims.first ≤ number) × (number < claims.first + found)) seat.draws
    drawn_before =
        subst₂ (λ a l. All (λ number. (a ≤ number) × (number < a + found)) l) first_is draws_are
        (subst (λ m. All (λ number. (v.first ≤ number) × (number < v.first + m)) v.draws) passed_is told.within)

    draw_in : AreIn claims (seat.draws ++ (claims.first + found) ∷ [])
    draw_in =
        let below : found < claims.count = omega (arith, left, count_is) in
        All-push (λ number. (claims.first ≤ number) × (number < claims.first + claims.count)) seat.draws (claims.first + found)
        (All-weaker (λ number. (claims.first ≤ number) × (number < claims.first + found)) (λ number. (claims.first ≤ number) × (number < claims.first + claims.count))
        (λ number t. let low = t.0 in let high = t.1 in (low, omega (arith, high, below))) seat.draws drawn_before)
        (omega arith, omega (arith, below))

    draw_once : AreOnce (seat.draws ++ (claims.first + found) ∷ [])
    draw_once = once_more seat.draws (claims.first + found) drawn_once
        (All-weaker (λ number. (claims.first ≤ number) × (number < claims.first + found)) (λ number. number < claims.first + found) (λ number t. t.1) seat.draws drawn_before)

    pub takes : (me : Me Unit View) (number : ℕ) → (found < v.count → me ≡ (with_draw found v, [])) → number ≡ claims.first + found → Takes claims seat number me.0.draws
    takes me number after is_number =
        let same : me.0.draws ≡ seat.draws ++ (claims.first + found) ∷ [] =
        ap (λ (m : Me Unit View). m.0.draws) (after left) ∙ ap₂ (λ l n. l ++ (n + found) ∷ []) draws_are first_is in record {
          numbers = subst (AreIn claims) (sym same) draw_in;
          once = subst AreOnce (sym same) draw_once;
          few = omega (arith, ap length same, length-append seat.draws ((claims.first + found) ∷ []), drawn_few, passed_is, left, count_is);
          next = λ alone. ap Some is_number ∙ draw_next alone;
        }
