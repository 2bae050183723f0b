-- Pixels of two planes at one tick.
use Rattle.std.proofs.Common.{◌≡◌, ℕ, zero, suc, ◌+◌, ◌-◌, ◌*◌, ◌≤◌, Bool, true, false, slice_index_or, if◌then◌else◌, ℤ, pos, negsuc, neg_ℤ, ◌+ℤ◌, ◌*ℤ◌, ◌≤ℤ◌, List, [], ◌∷◌, ◌++◌, length, map, slice_get, Option, Some, None, refl, ap, sym, subst, ◌∙◌, arith}
use Rattle.std.specs.List.{All}
use Rattle.std.specs.Option.{unwrap_or}
use Rattle.std.proofs.lemmas.Int.{ints, clamps}
use Rattle.std.proofs.lemmas.Option.{get_or_from_slice_get, slice_get_within}
use Rattle.std.proofs.lemmas.List.Elements.{All-nil, All-cons}
use Rattle.std.proofs.lemmas.List.FromFn.{get_or-map-range_with_len}
use Rattle.std.specs.Prelude.{int_lt}
use Rattle.param_stream.specs.Curve.{Curve, value_at, key_tick}
use Rattle.param_stream.specs.declared.key.Keyframe.{Keyframe}
use Rattle.param_stream.specs.declared.key.Ease.TheVariants.{Hold}
use Rattle.effect_tests.specs.Uses.{AreConstants}
use Rattle.rational_time.specs.declared.time.Tick.{Tick}
use Rattle.rational_time.specs.Times.{held_of}
use Rattle.rational_time.proofs.Numbers.{negated-product}
use Rattle.argb_world.specs.Picture.{Picture}
use Rattle.project_model.specs.Effects.{Use}
use Rattle.effect_api.specs.declared.moment.Moment.{Moment}
use Rattle.effect_api.specs.declared.moment.Want.{Want}
use Rattle.effect_api.specs.declared.checkouts.PixelsOf.TheVariants.{Drawn}
use Rattle.effect_api.specs.Planes.{HasSides}
use Rattle.effect_api.specs.Checked.{Pixels, AreChecked, IsShared, world_of}
use Rattle.fx_color.specs.Color.{amount_of}
use Rattle.fx_time.specs.declared.kind.TimeKind.{TimeKind}
use Rattle.fx_time.specs.declared.kind.TimeKind.TheVariants.{Echo, PosterizeTime, FrameDifference, TimeMean}
use Rattle.fx_time.specs.Time.{want_count, want_of, time_wants}
use Rattle.fx_time.specs.Laws.{wants_length}

pub none_left : {X : Type 0} (xs : List X) → length xs ≡ 0 → xs ≡ []
none_left [] e = refl
none_left (x ∷ xs) e = absurd (omega (arith, e))

-- what lies before the first tick is held to it
before : (n m : ℕ) → (neg_ℤ (pos n) *ℤ pos m) ≤ℤ pos 0
before n m = subst (λ (z : ℤ). z ≤ℤ pos 0) (sym (negated-product n m)) (omega (arith, ints))

held_first : (base n : ℕ) (t f : ℤ) → t ≡ neg_ℤ (pos (36000 * base)) → pos 1 ≤ℤ f → held_of base (t +ℤ (neg_ℤ (pos n) *ℤ f)) ≡ t
held_first base n t (pos m) low some = omega (arith, ints, clamps, low, before n m)
held_first base n t (negsuc m) low some = absurd (omega (arith, ints, some))

pub want_first : (kind : TimeKind) (fx : Use) (at : Moment) (k : ℕ) → at.tick.0 ≡ neg_ℤ (pos (36000 * at.base.ticks)) → pos 1 ≤ℤ at.frame → want_count kind fx at ≡ 2
    → (want_of kind fx at k).tick.0 ≡ at.tick.0
want_first Echo fx at k low some two = held_first at.base.ticks (k * amount_of fx 1 at) at.tick.0 at.frame low some
want_first PosterizeTime fx at k low some two = absurd (omega (arith, two))
want_first FrameDifference fx at k low some two = held_first at.base.ticks (k * amount_of fx 0 at) at.tick.0 at.frame low some
want_first TimeMean fx at k low some two = absurd (omega (arith, two))

-- ticks with the same number
same_tick : (s t : Tick) → s.0 ≡ t.0 → s ≡ t
same_tick s t e = ap (λ (z : ℤ). let u : Tick = record { 0 = z } in u) e

module _ {most : ℕ} {K : Type 0} where
  -- two pairs that are put
  pub two_put : (none one two : List (ℕ × Pixels most K)) (p q : ℕ × Pixels most K) → none ≡ [] → one ≡ none ++ p ∷ [] → two ≡ one ++ q ∷ [] → two ≡ p ∷ q ∷ []
  two_put none one two p q e f h =
      h ∙ ap (λ (ps : List (ℕ × Pixels most K)). ps ++ q ∷ []) (f ∙ ap (λ (ps : List (ℕ × Pixels most K)). ps ++ p ∷ []) e)

  pub not_shared : (first second : Picture) (pairs : List (ℕ × Pixels most K)) → pairs ≡ (0, Drawn first) ∷ (1, Drawn second) ∷ [] → All (λ (pair : ℕ × Pixels most K). ¬ IsShared pair.1) pairs
  not_shared first second pairs is =
      subst (All (λ (pair : ℕ × Pixels most K). ¬ IsShared pair.1)) (sym is)
      (All-cons (λ (pair : ℕ × Pixels most K). ¬ IsShared pair.1) (0, Drawn first) ((1, Drawn second) ∷ []) (λ h. elim h [ ])
      (All-cons (λ (pair : ℕ × Pixels most K). ¬ IsShared pair.1) (1, Drawn second) [] (λ h. elim h [ ]) (All-nil _)))

  pub two_checked : (kind : TimeKind) (fx : Use) (at : Moment) (first second : Picture) (pairs : List (ℕ × Pixels most K)) → pairs ≡ (0, Drawn first) ∷ (1, Drawn second) ∷ []
      → at.tick.0 ≡ neg_ℤ (pos (36000 * at.base.ticks)) → pos 1 ≤ℤ at.frame → want_count kind fx at ≡ 2 → HasSides first.extent → HasSides second.extent
      → AreChecked (time_wants kind fx at) at pairs
  two_checked kind fx at first second pairs is low some two near also = record {
    one_each = ap length is ∙ sym (wants_length kind fx at ∙ two);
    id_is = λ i pair e. id i pair (subst (λ (ps : List (ℕ × Pixels most K)). slice_get ps i ≡ Some pair) is e);
    shared = λ i want pair e f differs. absurd (differs (same i want e));
    near = subst (All (λ (pair : ℕ × Pixels most K). HasSides (world_of pair.1).extent)) (sym is)
        (All-cons (λ (pair : ℕ × Pixels most K). HasSides (world_of pair.1).extent) (0, Drawn first) ((1, Drawn second) ∷ []) near
        (All-cons (λ (pair : ℕ × Pixels most K). HasSides (world_of pair.1).extent) (1, Drawn second) [] also (All-nil _)));
  }
    where
      id : (i : ℕ) (pair : ℕ × Pixels most K) → slice_get ((0, Drawn first) ∷ (1, Drawn second) ∷ []) i ≡ Some pair → pair.0 ≡ i
      id zero pair e = ap (λ (o : Option (ℕ × Pixels most K)). (unwrap_or o pair).0) (sym e)
      id (suc zero) pair e = ap (λ (o : Option (ℕ × Pixels most K)). (unwrap_or o pair).0) (sym e)
      id (suc (suc i)) pair e = absurd (nothing e)
        where
          nothing : None ≡ Some pair → ⊥
          nothing h = cc

      same : (i : ℕ) (want : Want) → slice_get (time_wants kind fx at) i ≡ Some want → want.tick ≡ at.tick
      same i want e =
          let l = slice_get_within (time_wants kind fx at) i want e in
          let found = get_or_from_slice_get (time_wants kind fx at) i want want e in
          let is_want = get_or-map-range_with_len (want_of kind fx at) 0 (want_count kind fx at) i i want (omega (arith, l, wants_length kind fx at)) (omega arith) in
          ap (λ (w : Want). w.tick) (sym found ∙ is_want) ∙ same_tick (want_of kind fx at i).tick at.tick (want_first kind fx at i low some two)

-- a stream of one value has it at all times
pub first_value : (base : ℕ) (tick : ℤ) (value : ℤ) (values : List ℤ) (curves : List Curve) → AreConstants (value ∷ values) curves
    → value_at base (slice_index_or (map (λ (c : Curve). c.keys) curves) 0 []) tick ≡ value
first_value base tick value values [] are = elim are [ ]
first_value base tick value values (c ∷ cs) are =
    ap (λ (keys : List Keyframe). value_at base keys tick) are.0.keys ∙ either (int_lt tick (key_tick base record { time = record { value = pos 0; scale = 1 }; value = value; kind = Hold }))
  where
    either : (b : Bool) → (if b then value else value) ≡ value
    either true = refl
    either false = refl
