-- A turn of a pass at the lock of a cache.
use Rattle.std.proofs.Common.{◌≡◌, ℕ, true, false, Bool, List, [], ◌∷◌, ◌++◌, refl, sym, ap, ap₂, ◌∙◌, subst, append-nil, eqb-true, ◌&&◌, length}
use Rattle.std.specs.Prelude.{Option, Some, None, Result, Ok, Err, IfOk, OnErr}
use Rattle.std.specs.List.{AllByRecursion}
use Rattle.cache_core.specs.Rows.{is_running, is_held_by, is_live}
use Rattle.cache_core.specs.Core.{is_in}
use Rattle.cache_core.specs.History.{replay_of}
use Rattle.cache_core.specs.Laws.{Leaves}
use Rattle.cache_core.specs.declared.entry.Act.{Act}
use Rattle.cache_core.specs.declared.entry.Entry.{Entry}
use Rattle.cache_core.specs.declared.row.State.{State}
use Rattle.cache_core.specs.declared.row.State.TheVariants.{Running, Live}
use Rattle.cache_table.specs.Cache.{core_of, state_at, IsEvictBy}
use Rattle.turn_lock.specs.Entries.{Begins, AreOf, entries_of, computes}
use Rattle.turn_lock.specs.Lock.{Lock, Pass, IsOf, taking, putting}
use Rattle.turn_lock.proofs.Histories.{begins-refl, begins-trans}
use Rattle.cache_laws.proofs.Running.{turns_are_running}
use Rattle.cache_laws.proofs.Holding.{open_receipt_is_live}
use Rattle.compute_cache.specs.declared.found.Call.{Call}
use Rattle.compute_cache.specs.declared.found.Call.TheVariants.{Begin, Checkout}
use Rattle.compute_cache.specs.declared.found.Found.{Found}
use Rattle.compute_cache.specs.Acts.{act_for, act_of, IsMeant, is_pending, is_any_running}
use Rattle.compute_cache.specs.Asked.{Asked}
use Rattle.compute_cache.specs.State.{Plain, IsSound, Goes, entry_of}
use Rattle.compute_cache.specs.Turned.{Turned, Waiting, IsOpen}

-- evictions of a pass are entries of its own
pub evicts_own : (pass : ℕ) (evicts : List Entry) → AllByRecursion (IsEvictBy pass) evicts → AreOf pass evicts
evicts_own pass [] each = tt
evicts_own pass (e ∷ evicts) each = (each.0.0, evicts_own pass evicts each.1)

module _ {V K : Type 0} where
  -- what a sound state's history leaves
  pub sound_leaves : (budget : ℕ) (state : Plain V K) → IsSound state → state.cache.budget ≡ budget → Leaves budget state.cache.history (core_of state.cache)
  sound_leaves budget state sound same = ap (λ b. replay_of b state.cache.history) (sym same) ∙ sound.kept.legal

  -- what was done in a turn
  pub turned_from : (budget : ℕ) (old mid new : Pass (Plain V K)) (state after : Plain V K) (entries : List Entry)
      → state.cache.budget ≡ budget → Begins old.seen state.cache.history → entries_of old.number state.cache.history ≡ old.mine
      → IsSound after → Goes state after entries → AreOf old.number entries
      → mid ≡ taking state.cache.history old → new ≡ putting after.cache.history mid
      → Turned budget old new state.cache.history entries
  turned_from budget old mid new state after entries same begins own sound goes each took put = record {
    begins = begins;
    own = own;
    each = each;
    settled = (core_of after.cache, ap (replay_of budget) (sym goes.history) ∙ sound_leaves budget after sound (goes.budget ∙ same), sound.settled);
    pass = put ∙ ap₂ putting goes.history took;
  }

  -- nothing was done
  pub turned_none : (budget : ℕ) (old mid new : Pass (Plain V K)) (state : Plain V K)
      → state.cache.budget ≡ budget → Begins old.seen state.cache.history → entries_of old.number state.cache.history ≡ old.mine
      → IsSound state → mid ≡ taking state.cache.history old → new ≡ putting state.cache.history mid
      → Turned budget old new state.cache.history []
  turned_none budget old mid new state same begins own sound took put =
      turned_from budget old mid new state state [] same begins own sound
      (record { job = refl; budget = refl; history = sym (append-nil state.cache.history) }) tt took put

  -- a turn after others in which nothing was done
  pub turned_after : (lock : Lock (Plain V K)) (budget : ℕ) (old mid new : Pass (Plain V K)) (before entries : List Entry)
      → Waiting lock old mid → Turned budget mid new before entries → Turned budget old new before entries
  turned_after lock budget old mid new before entries waiting turned =
      let next = subst (λ m. Turned budget m new before entries) waiting.pass turned in
      record { begins = begins-trans old.seen mid.seen before waiting.begins next.begins; own = next.own; each = next.each; settled = next.settled; pass = next.pass }

  pub waiting_from : (lock : Lock (Plain V K)) (old mid : Pass (Plain V K)) → IsOf lock mid → mid.taken ≡ None → mid ≡ old → Waiting lock old mid
  waiting_from lock old mid own free same = record {
    own = own;
    free = free;
    begins = subst (λ m. Begins old.seen m.seen) (sym same) (begins-refl old.seen);
    pass = same ∙ ap (λ h. record old { seen = h }) (sym (ap (λ (p : Pass (Plain V K)). p.seen) same));
  }

  pub waiting_again : (lock : Lock (Plain V K)) (budget : ℕ) (old mid new : Pass (Plain V K)) (before : List Entry)
      → Waiting lock old mid → old.taken ≡ None → Turned budget mid new before [] → Waiting lock old new
  waiting_again lock budget old mid new before waiting free turned =
      let next = turned_after lock budget old mid new before [] waiting turned in
      let of_mid = waiting.own in
      let quiet : entries_of old.number (before ++ []) ≡ old.mine = ap (entries_of old.number) (append-nil before) ∙ next.own in
      let same : new ≡ record old { seen = before ++ [] } =
      next.pass ∙ ap₂ (λ m t. record old { seen = before ++ []; mine = m; taken = t }) quiet (sym free) in
      let mid_id : mid.id ≡ old.id = ap (λ (p : Pass (Plain V K)). p.id) waiting.pass in
      let mid_origin : mid.origin ≡ old.origin = ap (λ (p : Pass (Plain V K)). p.origin) waiting.pass in
      record {
        own = record {
          same = ap (λ (p : Pass (Plain V K)). p.id) same ∙ sym mid_id ∙ of_mid.same;
          from = ap (λ (p : Pass (Plain V K)). p.origin) same ∙ sym mid_origin ∙ of_mid.from;
        };
        free = ap (λ (p : Pass (Plain V K)). p.taken) same ∙ free;
        begins = subst (λ m. Begins old.seen m.seen) (sym same) (subst (Begins old.seen) (sym (append-nil before)) next.begins);
        pass = same ∙ ap (λ h. record old { seen = h }) (sym (ap (λ (p : Pass (Plain V K)). p.seen) same));
      }

  -- a pass owns the row exactly where it computes the value
  pub owner_is : (budget : ℕ) (old : Pass (Plain V K)) (state : Plain V K) (class key : ℕ)
      → state.cache.budget ≡ budget → entries_of old.number state.cache.history ≡ old.mine → IsSound state
      → is_in (is_running old.number) (state_at class key state.cache) ≡ computes class key false old.mine
  owner_is budget old state class key same own sound =
      let law = turns_are_running budget state.cache.history (core_of state.cache) (sound_leaves budget state sound same) old.number class key in
      by (is_in (is_running old.number) (state_at class key state.cache)) (computes class key false (entries_of old.number state.cache.history)) law.0 law.1
      ∙ ap (computes class key false) own
    where
      by : (a b : Bool) → (b ≡ true → a ≡ true) → (a ≡ true → b ≡ true) → a ≡ b
      by true b to from = sym (from refl)
      by false true to from = to refl
      by false false to from = refl

  -- a pass with an open receipt holds the value
  pub record Holds (number class key serial : ℕ) (state : Plain V K) : Type 0 where
    pub held : is_in (is_held_by number) (state_at class key state.cache) ≡ true
    pub only : (other : ℕ) → is_in (is_live other) (state_at class key state.cache) ≡ true → other ≡ serial

  pub holds_is : (budget : ℕ) (old : Pass (Plain V K)) (state : Plain V K) (class key serial : ℕ)
      → state.cache.budget ≡ budget → entries_of old.number state.cache.history ≡ old.mine → IsSound state → IsOpen class key serial old.mine
      → Holds old.number class key serial state
  holds_is budget old state class key serial same own sound took =
      let law = open_receipt_is_live budget state.cache.history (core_of state.cache) (sound_leaves budget state sound same) old.number class key serial (subst (IsOpen class key serial) (sym own) took) in
      let size = law.0 in
      let holders = law.1 in
      record {
        held = ap (is_in (is_held_by old.number)) law.2 ∙ law.3;
        only = λ other live. sym (eqb-true serial other (sym (ap (is_in (is_live other)) law.2) ∙ live));
      }

-- a call answers Pending exactly where the value is being computed
pub pending_is : (call : Call) (state : Option State) → is_pending (act_for call state) ≡ is_in is_any_running state
pending_is Begin None = refl
pending_is Checkout None = refl
pending_is call (Some (Running owner)) = refl
pending_is call (Some (Live serial size holders)) = refl

not_pending : (wait running : Bool) → (wait && running) ≡ false → wait ≡ true → running ≡ false
not_pending true running e w = e
not_pending false running e w = absurd (cc)

module _ {V K : Type 0} where
  -- a call that found something
  pub asked_from : (job : K) (mean : K → ℕ → ℕ → Option V) (budget : ℕ) (call : Call) (wait : Bool) (class key place number : ℕ) (found : Found V)
      (old mid new : Pass (Plain V K)) (state after : Plain V K)
      → state.cache.budget ≡ budget → state.job ≡ job → Begins old.seen state.cache.history → entries_of old.number state.cache.history ≡ old.mine → IsSound state
      → mid ≡ taking state.cache.history old → new ≡ putting after.cache.history mid → place ≡ length state.cache.history → number ≡ old.number
      → (wait && is_in is_any_running (state_at class key state.cache)) ≡ false
      → Goes state after (entry_of number class key (act_of found) ∷ []) → act_of found ≡ act_for call (state_at class key state.cache)
      → IsMeant (mean state.job class key) found → IsSound after
      → Asked (mean job) budget call wait class key old new place found
  asked_from job mean budget call wait class key place number found old mid new state after same same_job begins own sound took put at own_number waits goes act meant sound_after = record {
    before = state.cache.history;
    turned = turned_from budget old mid new state after (entry_of old.number class key (act_of found) ∷ []) same begins own sound_after
        (subst (λ n. Goes state after (entry_of n class key (act_of found) ∷ [])) own_number goes) (refl, tt) took put;
    at_is = at;
    chosen = (core_of state.cache, sound_leaves budget state sound same, act);
    waits = λ w. ap is_pending act ∙ pending_is call (state_at class key state.cache) ∙ not_pending wait (is_in is_any_running (state_at class key state.cache)) waits w;
    meant = subst (λ j. IsMeant (mean j class key) found) same_job meant;
  }

-- what a call adds to a history: one entry of its pass, or nothing
pub asked_log : {F E V K : Type 0} (r : Result F E) (act : F → Act) (old new : Plain V K) (pass class key : ℕ)
    → IfOk r (λ found. Goes old new (entry_of pass class key (act found) ∷ [])) → OnErr r (Goes old new [])
    → (added : List Entry) × (new.cache.history ≡ old.cache.history ++ added) × AreOf pass added
asked_log (Ok found) act old new pass class key goes err = (entry_of pass class key (act found) ∷ [], goes.history, (refl, tt))
asked_log (Err e) act old new pass class key goes err = ([], err.history, tt)
