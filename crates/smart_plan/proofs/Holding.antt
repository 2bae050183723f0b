-- Checkouts whose requests are held to the extents, one after another.
use Rattle.std.proofs.Common.{◌≡◌, ◌≢◌, ℕ, zero, suc, ◌+◌, ◌<◌, ◌≤◌, ℤ, List, [], ◌∷◌, ◌++◌, length, set, take, get_or, slice_get, Some, ◌↔◌, IsTrue, Bool, refl, sym, subst, ap, ◌∙◌, arith, ◌⊎◌, inl, inr}
use Rattle.std.proofs.lemmas.Bool.{cases_lt}
use Rattle.std.proofs.lemmas.List.{take_more}
use Rattle.std.proofs.lemmas.Slice.Zip.{all_zipped_more}
use Rattle.std.proofs.lemmas.Option.{slice_get_within}
use Rattle.geom_rect.specs.declared.rect.Rect.{Rect}
use Rattle.geom_rect.specs.Rect.{Has, meet_of}
use Rattle.geom_rect.proofs.Points.{Has-meet_of}
use Rattle.effect_api.specs.declared.moment.Moment.{Moment}
use Rattle.effect_api.specs.declared.pre_render.Checkout.{Checkout}
use Rattle.effect_api.specs.Planes.{HasSides, extent_at}
use Rattle.smart_plan.specs.Plan.{trimmed}
use Rattle.smart_plan.specs.Held.{IsHeld, AreHeld, AreMarks}
use Rattle.smart_plan.proofs.Trimming.{Has-trimmed, trimmed_near}

-- the checkout with another request
abbrev pub with_request : Checkout → Rect → Checkout
with_request checkout request = record { id = checkout.id; want = checkout.want; request = request }

-- all of the extent is requested
pub held_whole : (at : Moment) (extent : Rect) (checkout : Checkout) → HasSides extent → IsHeld at extent checkout (with_request checkout extent)
held_whole at extent checkout near = record {
  same_id = refl;
  same_want = refl;
  request = record { inside = λ x y h. h; near = near; whole = λ other. refl };
  enough = λ x y asked there. there;
}

-- what was requested of it is
pub held_part : (at : Moment) (extent : Rect) (checkout : Checkout) → HasSides extent → ¬ (checkout.want.tick ≢ at.tick)
    → IsHeld at extent checkout (with_request checkout (trimmed (meet_of checkout.request extent)))
held_part at extent checkout near here = record {
  same_id = refl;
  same_want = refl;
  request = record {
    inside = λ x y h. (met x y ((Has-trimmed both x y).0 h)).1;
    near = trimmed_near both extent (λ x y h. (met x y h).1) near;
    whole = λ other. absurd (here other);
  };
  enough = λ x y asked there. (Has-trimmed both x y).1 ((Has-meet_of checkout.request extent x y).1 (asked, there));
}
  where
    both : Rect
    both = meet_of checkout.request extent

    met : (x y : ℤ) → Has both x y → Has checkout.request x y × Has extent x y
    met x y = (Has-meet_of checkout.request extent x y).0

-- an element that is set, and those beside it
set_here : {A : Type 0} (xs : List A) (k : ℕ) (x y : A) → slice_get xs k ≡ Some x → slice_get (set xs k y) k ≡ Some y
set_here [] k x y h = absurd (omega (arith, slice_get_within [] k x h))
set_here (z ∷ zs) zero x y h = refl
set_here (z ∷ zs) (suc k) x y h = set_here zs k x y h

set_beside : {A : Type 0} (xs : List A) (k i : ℕ) (y : A) → i ≢ k → slice_get (set xs k y) i ≡ slice_get xs i
set_beside [] k i y differ = refl
set_beside (z ∷ zs) zero zero y differ = absurd (differ refl)
set_beside (z ∷ zs) zero (suc i) y differ = refl
set_beside (z ∷ zs) (suc k) zero y differ = refl
set_beside (z ∷ zs) (suc k) (suc i) y differ = set_beside zs k i y (λ e. differ (ap suc e))

-- those before a place are held, and the others are as they were
pub record IsHeldTo (at : Moment) (extents : List Rect) (olds news : List Checkout) (k : ℕ) : Type 0 where
  pub held : (i : ℕ) (old new : Checkout) → i < k → slice_get olds i ≡ Some old → slice_get news i ≡ Some new → IsHeld at (extent_at extents i) old new
  pub rest : (i : ℕ) → k ≤ i → slice_get news i ≡ slice_get olds i

pub held_none : (at : Moment) (extents : List Rect) (olds : List Checkout) → IsHeldTo at extents olds olds 0
held_none at extents olds = record { held = λ i old new low. absurd (omega (arith, low)); rest = λ i high. refl }

pub held_more : (at : Moment) (extents : List Rect) (olds news : List Checkout) (k : ℕ) (here new : Checkout) → IsHeldTo at extents olds news k
    → slice_get news k ≡ Some here → IsHeld at (extent_at extents k) here new → IsHeldTo at extents olds (set news k new) (k + 1)
held_more at extents olds news k here new so_far there held = record {
  held = λ i old other low was now. by i old other was now (cases_lt i k) low;
  rest = λ i high. set_beside news k i new (omega (arith, high)) ∙ so_far.rest i (omega (arith, high));
}
  where
    taken : (a b : Checkout) → Some a ≡ Some b → a ≡ b
    taken a b e = cc

    by : (i : ℕ) (old other : Checkout) → slice_get olds i ≡ Some old → slice_get (set news k new) i ≡ Some other → (i < k) ⊎ (k ≤ i) → i < k + 1
        → IsHeld at (extent_at extents i) old other
    by i old other was now (inl low) near = so_far.held i old other low was (sym (set_beside news k i new (omega (arith, low))) ∙ now)
    by i old other was now (inr high) near =
        let same : i ≡ k = omega (arith, high, near) in
        let old_is : here ≡ old = taken here old (sym there ∙ so_far.rest k (omega arith) ∙ ap (slice_get olds) (sym same) ∙ was) in
        let new_is : new ≡ other = taken new other (sym (set_here news k here new there) ∙ ap (slice_get (set news k new)) (sym same) ∙ now) in
        subst (λ (n : ℕ). IsHeld at (extent_at extents n) old other) (sym same)
        (subst (λ (o : Checkout). IsHeld at (extent_at extents k) o other) old_is (subst (IsHeld at (extent_at extents k) here) new_is held))

-- all are held
pub held_all : (at : Moment) (extents : List Rect) (olds news : List Checkout) (k : ℕ) → length news ≡ length olds → length olds ≤ k → IsHeldTo at extents olds news k
    → AreHeld at extents olds news
held_all at extents olds news k long all so_far i old new was now =
    so_far.held i old new (omega (arith, all, slice_get_within olds i old was)) was now

-- one more is marked
pub marks_more : (at : Moment) (checkouts : List Checkout) (marks : List Bool) (k : ℕ) (d : Checkout) (mark : Bool) → k < length checkouts
    → AreMarks at (take k checkouts) marks → (IsTrue mark ↔ ((get_or checkouts k d).want.tick ≢ at.tick)) → AreMarks at (take (k + 1) checkouts) (marks ++ mark ∷ [])
marks_more at checkouts marks k d mark low so_far marked =
    subst (λ (cs : List Checkout). AreMarks at cs (marks ++ mark ∷ [])) (sym (take_more checkouts k d low))
    (all_zipped_more (λ (checkout : Checkout) (mark : Bool). IsTrue mark ↔ (checkout.want.tick ≢ at.tick)) (take k checkouts) marks (get_or checkouts k d) mark so_far marked)
