-- A pass at its start, after a join and at the close.
use Rattle.std.proofs.Common.{◌≡◌, ℕ, Bool, true, false, cond, ◌||◌, List, [], length, refl, sym, ap, ◌∙◌, subst, subst₂, nat_le, arith}
use Rattle.std.specs.Prelude.{Option, Some, None, IsSome}
use Rattle.std.specs.List.{AllByRecursion}
use Rattle.cache_core.specs.Core.{Core, empty_core}
use Rattle.cache_core.specs.Rows.{live_bytes, is_idle}
use Rattle.cache_core.specs.History.{IsLegal, replay_of}
use Rattle.cache_core.specs.Laws.{Leaves}
use Rattle.cache_laws.proofs.Clear.{clear_passes_leave_idle_rows}
use Rattle.cache_core.specs.declared.entry.Entry.{Entry}
use Rattle.turn_lock.specs.Entries.{Begins, entries_of, longer, IsClear}
use Rattle.turn_lock.specs.Lock.{Pass, joining}
use Rattle.compute_cache.specs.State.{Plain}
use Rattle.compute_cache.specs.Kept.{IsKeptPass}
use Rattle.compute_cache.specs.Passes.{AreOpen, turns_of}
use Rattle.compute_cache.specs.Room.{Room}
use Rattle.compute_cache.specs.Turned.{IsSettledHistory}
use Rattle.compute_cache.proofs.TurnsOf.{turns-quiet, turns_grow, none_computes}
use Rattle.compute_cache.proofs.Holdings.{open_quiet, clear_from}

or_true : (b : Bool) → (b || true) ≡ true
or_true true = refl
or_true false = refl

-- no entry leaves a settled core
pub none_settled : (budget : ℕ) → IsSettledHistory budget []
none_settled budget = (empty_core budget, refl, or_true (nat_le (live_bytes []) budget))

none_open : (n : ℕ) (seen : List Entry) → AreOpen n seen [] []
none_open n seen = record { placed = tt; rising = tt; counted = λ class key serial. refl }

pub longer_either : (P : List Entry → Type 0) (a b : List Entry) → P a → P b → P (longer a b)
longer_either P a b pa pb = by (nat_le (length b) (length a))
  where
    by : (t : Bool) → P (cond t a b)
    by true = pa
    by false = pb

module _ {V K : Type 0} where
  -- a pass that has made no entry
  pub fresh_kept : (p : Pass (Plain V K)) (r : Room) → p.taken ≡ None → entries_of p.number p.seen ≡ [] → p.mine ≡ []
      → ((origin : Plain V K) → p.origin ≡ Some origin → IsSettledHistory origin.cache.budget p.seen) → r.holds ≡ [] → IsKeptPass p r
  fresh_kept p r free none mine settled holds =
      let quiet : turns_of p.number p.seen ≡ [] = turns-quiet p.number 0 [] p.seen none in
      record {
        free = free;
        own = none ∙ sym mine;
        settled = settled;
        open_are = subst₂ (λ m hs. AreOpen p.number p.seen m hs) (sym mine) (sym holds) (none_open p.number p.seen);
        owed = omega (arith, ap length quiet);
      }

  -- the opening pass after it took in another
  pub joined_kept : (p other p' : Pass (Plain V K)) (r ro : Room) → IsKeptPass p r → IsKeptPass other ro → p.origin ≡ other.origin
      → p' ≡ joining other p → Begins p.seen p'.seen → entries_of p'.number p'.seen ≡ p'.mine → IsKeptPass p' r
  joined_kept p other p' r ro kept other_kept same joined begins own =
      let seen = longer p.seen other.seen in
      let begins_seen : Begins p.seen seen = subst (λ (x : Pass (Plain V K)). Begins p.seen x.seen) joined begins in
      let own_seen : entries_of p.number seen ≡ p.mine = subst (λ (x : Pass (Plain V K)). entries_of x.number x.seen ≡ x.mine) joined own in
      let grown : turns_of p.number seen ≡ turns_of p.number p.seen = turns_grow p.number p.seen seen p.mine begins_seen kept.own own_seen in
      let are = open_quiet p.number p.seen p.mine begins_seen.0 p.mine r.holds kept.open_are (λ c k s. refl) (λ c k s. refl) in
      let next : IsKeptPass (joining other p) r = record {
        free = kept.free;
        own = own_seen;
        settled = λ origin is. longer_either (IsSettledHistory origin.cache.budget) p.seen other.seen (kept.settled origin is) (other_kept.settled origin (sym same ∙ is));
        open_are = subst (λ l. AreOpen p.number l p.mine r.holds) (sym begins_seen.1) are;
        owed = omega (arith, ap length grown, kept.owed);
      } in
      subst (λ (x : Pass (Plain V K)). IsKeptPass x r) (sym joined) next

  -- its turns are as they were
  pub joined_turns : (p other p' : Pass (Plain V K)) (r : Room) → IsKeptPass p r → p' ≡ joining other p → Begins p.seen p'.seen → entries_of p'.number p'.seen ≡ p'.mine
      → turns_of p'.number p'.seen ≡ turns_of p.number p.seen
  joined_turns p other p' r kept joined begins own =
      let seen = longer p.seen other.seen in
      ap (λ (x : Pass (Plain V K)). turns_of x.number x.seen) joined
      ∙ turns_grow p.number p.seen seen p.mine (subst (λ (x : Pass (Plain V K)). Begins p.seen x.seen) joined begins) kept.own
      (subst (λ (x : Pass (Plain V K)). entries_of x.number x.seen ≡ x.mine) joined own)

  -- a pass without turns and receipts is clear
  pub clear_pass : (p : Pass (Plain V K)) (r : Room) → IsKeptPass p r → turns_of p.number p.seen ≡ [] → r.holds ≡ [] → IsClear p.mine
  clear_pass p r kept turns holds =
      clear_from p.number p.seen p.mine r.holds kept.open_are holds (λ class key. none_computes p.number class key p.seen p.mine kept.own turns)

-- a history that every pass left clear leaves idle rows
legal_core : (o : Option Core) → IsSome o → (core : Core) × (o ≡ Some core)
legal_core None some = absurd (cc (some))
legal_core (Some core) some = (core, refl)

pub closed_idle : (budget : ℕ) (history : List Entry) → IsLegal budget history → ((number : ℕ) → IsClear (entries_of number history))
    → (core : Core) × Leaves budget history core × AllByRecursion (λ row. is_idle row.state ≡ true) core.rows
closed_idle budget history legal clear =
    let left = legal_core (replay_of budget history) legal in
    (left.0, left.1, clear_passes_leave_idle_rows budget history left.0 left.1 clear)
