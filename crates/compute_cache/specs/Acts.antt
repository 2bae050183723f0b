-- What a call finds of a class and key, and the entry that it makes there.
use Rattle.std.specs.Prelude.{◌≡◌, Bool, true, false, Option, Some, None, ⊤}
use Rattle.std.specs.Arc.{arc_value}
use Rattle.cache_core.specs.declared.row.State.{State}
use Rattle.cache_core.specs.declared.row.State.TheVariants.{Running, Live}
use Rattle.cache_core.specs.declared.entry.Act.{Act}
use Rattle.cache_core.specs.declared.entry.Act.TheVariants.{Start as IsStart, Hit as IsHit, Pending as IsPending, NotCached as IsNotCached, Finish, Abandon, Give, Evict}
use Rattle.compute_cache.specs.declared.found.Call.{Call}
use Rattle.compute_cache.specs.declared.found.Call.TheVariants.{Begin, Checkout}
use Rattle.compute_cache.specs.declared.found.Found.{Found}
use Rattle.compute_cache.specs.declared.found.Found.TheVariants.{Hit, Start, Pending, NotCached}

-- the act of a call where there is no row
abbrev pub act_of_none : Call → Act
act_of_none Begin = IsStart
act_of_none Checkout = IsNotCached

-- the act of a call, by the state of the row, if there is one
abbrev pub act_for : Call → Option State → Act
act_for call None = act_of_none call
act_for call (Some (Running owner)) = IsPending owner
act_for call (Some (Live serial size holders)) = IsHit serial

-- Running, whoever the owner
abbrev pub is_any_running : State → Bool
is_any_running (Running owner) = true
is_any_running (Live serial size holders) = false

module _ {V : Type 0} where
  -- the act that made this answer
  abbrev pub act_of : Found V → Act
  act_of (Hit serial value) = IsHit serial
  act_of Start = IsStart
  act_of (Pending owner) = IsPending owner
  act_of NotCached = IsNotCached

  -- a value that was found is the one that is meant
  abbrev pub IsMeant : Option V → Found V → Type 0
  IsMeant meaning (Hit serial value) = meaning ≡ Some (arc_value value)
  IsMeant meaning Start = ⊤
  IsMeant meaning (Pending owner) = ⊤
  IsMeant meaning NotCached = ⊤

abbrev pub is_pending : Act → Bool
is_pending IsStart = false
is_pending (IsHit serial) = false
is_pending (IsPending owner) = true
is_pending IsNotCached = false
is_pending (Finish serial size) = false
is_pending Abandon = false
is_pending (Give serial) = false
is_pending (Evict serial) = false
