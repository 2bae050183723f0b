-- What a call does to the state of a cache.
use Rattle.std.proofs.Common.{◌≡◌, ℕ, true, sym, ap, ap₂, ◌∙◌, subst, eqb-true, inl, inr}
use Rattle.std.specs.Prelude.{Option, Some, None, Result, Err, OnErr}
use Rattle.std.proofs.lemmas.Bool.{and_parts}
use Rattle.cache_core.specs.Rows.{is_live}
use Rattle.cache_core.specs.Core.{is_in, is_settled, step}
use Rattle.cache_core.specs.History.{replay_of}
use Rattle.cache_core.specs.declared.row.State.{State}
use Rattle.cache_core.specs.declared.row.State.TheVariants.{Running, Live}
use Rattle.cache_core.specs.declared.entry.Act.TheVariants.{Hit}
use Rattle.cache_core.proofs.Runs.{replay-push, steps_from}
use Rattle.cache_table.specs.Kept.{HasValue}
use Rattle.cache_table.specs.Cache.{Cache, core_of, state_at, IsKept, IsSame, Adds, HasNoNewValue, HasOneNewValue}
use Rattle.compute_cache.specs.declared.found.Call.{Call}
use Rattle.compute_cache.specs.State.{AreRight, entry_of}
use Rattle.compute_cache.specs.Acts.{act_for}

module _ {V : Type 0} (meaning : ℕ → ℕ → Option V) where
  -- values stay right where none is new
  pub right_on : (old new : Cache V) → AreRight meaning old → HasNoNewValue old new → AreRight meaning new
  right_on old new right none = λ class key serial value has. right class key serial value (none class key serial value has)

  pub right_same : {T E : Type 0} (r : Result T E) (e : E) (old new : Cache V) → r ≡ Err e → AreRight meaning old → OnErr r (IsSame old new) → AreRight meaning new
  right_same r e old new is right same =
      let kept : IsSame old new = subst (λ x. OnErr x (IsSame old new)) is same in
      λ class key serial value has. right class key serial value (subst (λ rows. HasValue class key serial value rows) kept.rows has)

  -- and where the one that is new is
  pub right_one : (old new : Cache V) (class key serial : ℕ) (value : V) → AreRight meaning old → meaning class key ≡ Some value → HasOneNewValue old new class key serial value → AreRight meaning new
  right_one old new class key serial value right meant one = λ c k s v has.
      elim (one c k s v has) [
        | inl before ↦ right c k s v before
        | inr this ↦ ap₂ meaning this.0 this.1 ∙ meant ∙ ap Some (sym this.3)
      ]

-- a Hit that a table adds has the serial of the row
pub hit_serial : {V : Type 0} (old new : Cache V) (pass class key serial : ℕ) → IsKept old → IsKept new → Adds old new (entry_of pass class key (Hit serial)) → is_in (is_live serial) (state_at class key old) ≡ true
hit_serial old new pass class key serial kept after adds =
    let entry = entry_of pass class key (Hit serial) in
    let stepped : step (core_of old) entry ≡ Some (core_of new) =
    sym (replay-push old.budget (core_of old) old.history entry kept.legal) ∙ ap₂ replay_of (sym adds.budget) (sym adds.history) ∙ after.legal in
    let may = (steps_from (core_of old) entry (core_of new) stepped).may in
    (and_parts (is_settled old.budget (core_of old).rows) (is_in (is_live serial) (state_at class key old)) may).1

-- the act of a call that finds a Live row
pub hit_act : (call : Call) (state : Option State) (serial : ℕ) → is_in (is_live serial) state ≡ true → Hit serial ≡ act_for call state
hit_act call None serial live = absurd (cc)
hit_act call (Some (Running owner)) serial live = absurd (cc)
hit_act call (Some (Live own size holders)) serial live = ap Hit (sym (eqb-true own serial live))
