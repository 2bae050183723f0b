-- The steps by which a pass takes the state, looks, and gives the state back.
use Rattle.std.proofs.Common.{◌≡◌, ◌≢◌, ℕ, ◌+◌, ◌*◌, ◌<◌, Bool, true, false, List, [], ◌∷◌, ◌++◌, length, set, refl, sym, ap, ◌∙◌, subst, subst₂, inl, inr, arith, eqb, eq-eqb, ne_eqb, true≢false}
use Rattle.std.specs.Prelude.{Option, Some, None, slice_index}
use mathlib.Core.Logic.{dite}
use mathlib.Core.Option.{none, some}
use native.Mathlib.Decide.{ℕ_discrete}
use lib.ListN.{get_elem?}
use prog.Atomic.{either}
use Rattle.atomic_table.specs.Table.{State, Act, Allows, Valid, stepped, carried_after, step, keeps, takes, gives}
use Rattle.atomic_table.proofs.Lists.{set_again, set_here}
use Rattle.cache_core.specs.declared.entry.Entry.{Entry}
use Rattle.cache_core.specs.History.{IsLegal, history_limit}
use Rattle.turn_lock.specs.Entries.{Begins, entries_of, AreOf, IsClear}
use Rattle.turn_lock.specs.Rule.{is_live, is_live_stage, held_bit, is_holder, FitsStage, Kept}
use Rattle.turn_lock.specs.Told.{rested, Heard, in_stage, looked, IsState, took, put_view, released}
use Rattle.turn_lock.specs.declared.view.Stage.{Stage}
use Rattle.turn_lock.specs.declared.view.Stage.TheVariants.{Spent, Free, Holds, Joined}
use Rattle.turn_lock.specs.declared.view.View.{View}
use Rattle.turn_lock.proofs.Histories.{begins-refl, begins-trans, entries-more_other}
use Rattle.turn_lock.proofs.Lists.{there}
use Rattle.turn_lock.proofs.Rebuilt.{one_holder, knows_held, moved, rebuilt}

-- an even word says that no seat holds
no_holder : (holder : Option ℕ) (n m : ℕ) → 2 * n + held_bit holder ≡ 2 * m → holder ≡ None
no_holder None n m e = refl
no_holder (Some seat) n m e = absurd (omega arith)

-- a stage after a look
rested_live : (stage : Stage) → is_live_stage (rested stage) ≡ is_live_stage stage
rested_live Spent = refl
rested_live Free = refl
rested_live (Holds taken) = refl
rested_live (Joined before other number mine) = refl

rested_fits : (history : List Entry) (holds : Bool) (seen : List Entry) (stage : Stage) → FitsStage history holds seen stage → FitsStage history holds seen (rested stage) × Heard seen stage
rested_fits history holds seen Spent fits = (tt, tt)
rested_fits history holds seen Free fits = (fits, tt)
rested_fits history holds seen (Holds taken) fits = (fits, tt)
rested_fits history holds seen (Joined before other number mine) fits = (fits.0, (fits.1, fits.2, fits.3))

-- a stage of a seat that does not hold fits any history
fits_free : (history new : List Entry) (seen : List Entry) (stage : Stage) → FitsStage history false seen stage → FitsStage new false seen stage
fits_free history new seen Spent fits = tt
fits_free history new seen Free fits = fits
fits_free history new seen (Holds taken) fits = absurd (true≢false (sym fits.0))
fits_free history new seen (Joined before other number mine) fits = fits

pub some_is : {X : Type 0} (x y : X) → Some x ≡ Some y → x ≡ y
some_is x y e = cc

some_none : {X : Type 0} (x : X) → Some x ≡ None → ⊥
some_none x e = cc

abbrev hand : {X : Type 0} → X → List (ℕ × Option X)
hand x = (0, Some x) ∷ []

abbrev first_in : {X : Type 0} → List (ℕ × Option X) → Option X
first_in [] = None
first_in (x ∷ xs) = x.1

hand_is : {X : Type 0} (x y : X) → hand x ≡ hand y → x ≡ y
hand_is x y e = some_is x y (ap first_in e)

set_same : (words : List ℕ) (n : ℕ) → words ≡ n ∷ [] → set words 0 (slice_index words 0) ≡ words
set_same words n e = ap (λ l. set l 0 (slice_index l 0)) e ∙ sym e

module _ {S N : Type 0} (budget : S → ℕ) (log : S → List Entry) (name : S → N) (origin : S) where
  abbrev pub Rule : State (Option S) (View S) → Type 0
  Rule = Kept (IsLegal (budget origin)) IsClear (IsState budget log name origin) origin

  -- what a try to take the state may come to
  abbrev TakeGoal : (id m : ℕ) (v : View S) (s : State (Option S) (View S)) → Type 0
  TakeGoal id m v s = (w : View S) × (a : Act (Option S)) × Valid s.homes [] a
      × Rule (stepped s 0 (either (eqb (slice_index s.words 0) (2 * m)) (2 * m + 1) (slice_index s.words 0)) id [] w a)
      × took budget log name (step 1 0 (2 * m) (2 * m + 1) none) (v, []) (slice_index s.words 0) (w, carried_after [] a)

  take_hit : (id m : ℕ) (v : View S) → v.stage ≡ Free → (s : State (Option S) (View S)) → Rule s → get_elem? s.views id ≡ some v → slice_index s.words 0 ≡ 2 * m → TakeGoal id m v s
  take_hit id m v free s h at e =
      let word : slice_index s.words 0 ≡ 2 * length h.history + held_bit h.holder = ap (λ l. slice_index l 0) h.word in
      let free_lock : h.holder ≡ None = no_holder h.holder (length h.history) m (sym word ∙ e) in
      let home = h.home free_lock in
      let state = home.0 in
      let is = home.2 in
      let w : View S = in_stage (Holds (log state)) v in
      let live : is_live v ≡ true = ap is_live_stage free in
      let k = h.each id v at live in
      let no_bit : held_bit h.holder ≡ 0 = ap held_bit free_lock in
      let new : either (eqb (slice_index s.words 0) (2 * m)) (2 * m + 1) (slice_index s.words 0) ≡ 2 * length h.history + 1 =
      ap (λ b. either b (2 * m + 1) (slice_index s.words 0)) (eq-eqb (slice_index s.words 0) (2 * m) e) ∙ omega (arith, word, e, no_bit) in (
        w,
        takes 0 (Some state),
        home.1,
        rebuilt (IsLegal (budget origin)) IsClear (IsState budget log name origin) origin s h id v w
            (set s.words 0 (either (eqb (slice_index s.words 0) (2 * m)) (2 * m + 1) (slice_index s.words 0))) (set s.homes 0 none) h.history (Some id)
            (record {
              at = at;
              live_before = live;
              live_after = refl;
              number = refl;
              word = ap (λ l. set l 0 (either (eqb (slice_index s.words 0) (2 * m)) (2 * m + 1) (slice_index s.words 0))) h.word ∙ ap (λ (n : ℕ). n ∷ []) new;
              few = h.few;
              legal_is = h.legal_is;
              own = record {
                of = k.of;
                begins = k.begins;
                own = k.own;
                all = k.all;
                stage = (eq-eqb id id refl, is.same_log);
                below = k.below;
                counts = k.counts;
              };
              rest = λ seat view differs other known. knows_held origin h.history h.holder (Some id) h.made h.joined seat view
                  (ap (λ o. is_holder o seat) free_lock ∙ sym (ne_eqb id seat (λ e. differs (sym e)))) known;
              longest = moved s.views id v w at (λ (view : View S). view.seen ≡ h.history) (λ e. e) refl h.longest;
              held = λ seat e. inl (sym (some_is id seat e));
              home = λ e. absurd (some_none id e);
              same = λ number differs. refl;
            }),
        (
          λ found. (
            state,
            refl,
            record {
              of = λ o e. (
                is.same_budget ∙ ap budget (some_is origin o (sym k.of ∙ e)),
                is.same_name ∙ ap name (some_is origin o (sym k.of ∙ e)),
                subst₂ (λ a b. IsLegal (budget a) b) (some_is origin o (sym k.of ∙ e)) (sym is.same_log) h.legal_is,
              );
              begins = subst (Begins v.seen) (sym is.same_log) k.begins;
              own = ap (entries_of v.number) is.same_log ∙ k.all;
            },
          ),
          λ differs. absurd (differs e),
        ),
      )

  take_miss : (id m : ℕ) (v : View S) (s : State (Option S) (View S)) → Rule s → get_elem? s.views id ≡ some v → slice_index s.words 0 ≢ 2 * m → TakeGoal id m v s
  take_miss id m v s h at differs =
      let same : either (eqb (slice_index s.words 0) (2 * m)) (2 * m + 1) (slice_index s.words 0) ≡ slice_index s.words 0 =
      ap (λ b. either b (2 * m + 1) (slice_index s.words 0)) (ne_eqb (slice_index s.words 0) (2 * m) differs) in
      let words : set s.words 0 (either (eqb (slice_index s.words 0) (2 * m)) (2 * m + 1) (slice_index s.words 0)) ≡ s.words =
      ap (set s.words 0) same ∙ set_same s.words (2 * length h.history + held_bit h.holder) h.word in (
        v,
        keeps,
        tt,
        subst₂ (λ a b. Rule (record { words = a; homes = s.homes; views = b })) (sym words) (sym (set_again s.views id v at)) h,
        (λ e. absurd (differs e), λ _. refl),
      )

  -- a view that is free may take the state where the word is even
  pub takes_turn : (id m : ℕ) (v : View S) → v.stage ≡ Free
      → Allows Rule 1 id (v, []) 0 (λ n. either (eqb n (2 * m)) (2 * m + 1) n) (took budget log name (step 1 0 (2 * m) (2 * m + 1) none) (v, []))
  takes_turn id m v free s h wide at fits = dite (ℕ_discrete (slice_index s.words 0) (2 * m)) (take_hit id m v free s h at) (take_miss id m v s h at)

  -- a live view with no slot in hand may look
  pub looks : (id : ℕ) (v : View S) → is_live v ≡ true → Allows Rule 1 id (v, []) 0 (λ n. n) (looked (step 1 0 0 0 none) (v, []))
  looks id v live s h wide at fits =
      let k = h.each id v at live in
      let fit = rested_fits h.history (is_holder h.holder id) v.seen v.stage k.stage in
      let w : View S = in_stage (rested v.stage) v in
      let lives : is_live w ≡ true = rested_live v.stage ∙ live in (
        w,
        keeps,
        tt,
        rebuilt (IsLegal (budget origin)) IsClear (IsState budget log name origin) origin s h id v w (set s.words 0 (slice_index s.words 0)) s.homes h.history h.holder
            (record {
              at = at;
              live_before = live;
              live_after = lives;
              number = refl;
              word = set_same s.words (2 * length h.history + held_bit h.holder) h.word ∙ h.word;
              few = h.few;
              legal_is = h.legal_is;
              own = record {
                of = k.of;
                begins = k.begins;
                own = k.own;
                all = k.all;
                stage = fit.0;
                below = k.below;
                counts = k.counts;
              };
              rest = λ seat view differs other known. known;
              longest = moved s.views id v w at (λ (view : View S). view.seen ≡ h.history) (λ e. e) lives h.longest;
              held = λ seat e. inr e;
              home = h.home;
              same = λ number differs. refl;
            }),
        (refl, k.own, fit.1),
      )

  -- a view that holds may give back a state with more entries of its own
  pub releases : (id : ℕ) (v : View S) (state : S) (taken added : List Entry) → v.stage ≡ Holds taken → log state ≡ taken ++ added → AreOf v.number added
      → budget state ≡ budget origin → name state ≡ name origin → IsLegal (budget origin) (log state) → length (log state) < history_limit
      → Allows Rule 1 id (v, (0, Some state) ∷ []) 0 (λ _. 2 * length (log state)) (λ _. released budget log name (step 1 0 (2 * length (log state)) 0 none) (v, (0, Some state) ∷ []) (2 * length (log state)))
  releases id v state taken added holds more of_own same_budget same_name legal few s h wide at fits =
      let live : is_live v ≡ true = ap is_live_stage holds in
      let k = h.each id v at live in
      let stage : (is_holder h.holder id ≡ true) × (taken ≡ h.history) = subst (FitsStage h.history (is_holder h.holder id) v.seen) holds k.stage in
      let grown : log state ≡ h.history ++ added = more ∙ ap (λ l. l ++ added) stage.1 in
      let w : View S = put_view budget log name state v in (
        w,
        gives,
        tt,
        rebuilt (IsLegal (budget origin)) IsClear (IsState budget log name origin) origin s h id v w (set s.words 0 (2 * length (log state))) (set s.homes 0 (some (Some state))) (log state) None
            (record {
              at = at;
              live_before = live;
              live_after = refl;
              number = refl;
              word = ap (λ l. set l 0 (2 * length (log state))) h.word ∙ ap (λ (n : ℕ). n ∷ []) (omega arith);
              few = few;
              legal_is = legal;
              own = record {
                of = k.of;
                begins = begins-refl (log state);
                own = refl;
                all = refl;
                stage = refl;
                below = k.below;
                counts = k.counts;
              };
              rest = λ seat view differs other known. record {
                of = known.of;
                begins = begins-trans view.seen h.history (log state) known.begins (added, grown);
                own = known.own;
                all = entries-more_other view.number v.number h.history added (log state) grown of_own other ∙ known.all;
                stage = fits_free h.history (log state) view.seen view.stage
                    (subst (λ b. FitsStage h.history b view.seen view.stage) (one_holder h.holder id seat stage.0 differs) known.stage);
                below = known.below;
                counts = known.counts;
              };
              longest = (id, w, there s.views id v w at, refl, refl);
              held = λ seat e. absurd (some_none seat (sym e));
              home = λ _. (state, set_here s.homes 0 (some (Some state)) (omega (arith, wide)), record { same_log = refl; same_budget = same_budget; same_name = same_name });
              same = λ number differs. entries-more_other number v.number h.history added (log state) grown of_own differs;
            }),
        λ other e. ap (λ x. (put_view budget log name x v, [])) (hand_is state other e),
      )
