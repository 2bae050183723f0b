-- A pass after its calls.
use Rattle.std.proofs.Common.{◌≡◌, ℕ, ◌+◌, ◌≤◌, Bool, true, false, ◌&&◌, List, [], ◌∷◌, ◌++◌, length, refl, sym, ap, ◌∙◌, subst, nat_eq, arith, eq-eqb, append_assoc, append-nil, length-append}
use Rattle.std.specs.Prelude.{Option, Some}
use Rattle.std.specs.List.{AllByRecursion}
use Rattle.cache_core.specs.declared.entry.Entry.{Entry}
use Rattle.cache_core.specs.declared.entry.Act.{Act}
use Rattle.cache_core.specs.declared.entry.Act.TheVariants.{Start as IsStart, Hit as IsHit, Pending as IsPending, NotCached as IsNotCached, Finish, Abandon, Give}
use Rattle.cache_table.specs.Cache.{IsEvictBy}
use Rattle.turn_lock.specs.Entries.{entries_of, computes, holds_taken, holds_given, takes_hold}
use Rattle.turn_lock.specs.Lock.{Lock, Pass}
use Rattle.turn_lock.proofs.Histories.{entries-more_own, begins-refl}
use Rattle.turn_lock.proofs.Lists.{bit}
use Rattle.cache_laws.proofs.Adding.{start_adds, hit_adds, finish_adds, abandon_adds, give_adds, pending_adds, not_cached_adds, evicts_after, evicts_of}
use Rattle.compute_cache.specs.declared.hold.Hold.{Hold}
use Rattle.compute_cache.specs.declared.found.Call.{Call}
use Rattle.compute_cache.specs.declared.found.Found.{Found}
use Rattle.compute_cache.specs.declared.found.Found.TheVariants.{Hit, Start, Pending, NotCached}
use Rattle.compute_cache.specs.State.{Plain, entry_of}
use Rattle.compute_cache.specs.Acts.{act_of}
use Rattle.compute_cache.specs.Asked.{Asked}
use Rattle.compute_cache.specs.Found.{holds_by, turns_by, FoundAt, Refused}
use Rattle.compute_cache.specs.Kept.{pass_of, IsKeptPass}
use Rattle.compute_cache.specs.Passes.{Started, held_at, has_turn, is_held, without_hold, without_turn, turns, turns_of, turns_after, IsPlaced, AreOpen, IsOfLock, Called, CalledAndEvicted}
use Rattle.compute_cache.specs.Room.{Room}
use Rattle.compute_cache.specs.Suite.{ReceiptsAreLive}
use Rattle.cache_laws.proofs.Holding.{open_receipt_is_live}
use Rattle.compute_cache.specs.Turned.{Turned, Evicting, IsOpen, IsSettledHistory}
use Rattle.compute_cache.proofs.TurnsOf.{turns_grow, turns_more, computes_is, one_fewer}
use Rattle.compute_cache.proofs.Holdings.{placed_grow, open_quiet, open_more, open_less, held_open}

some_same : {A : Type 0} (x y : A) → Some x ≡ Some y → x ≡ y
some_same x y e = cc

module _ {V K : Type 0} (lock : Lock (Plain V K)) (p p' : Pass (Plain V K)) (r r' : Room) (before entries : List Entry)
    (kept : IsKeptPass p r) (of : IsOfLock lock (pass_of p r)) (turned : Turned lock.origin.cache.budget p p' before entries) where
  pub mine_more : entries_of p.number (before ++ entries) ≡ p.mine ++ entries
  mine_more = entries-more_own p.number before entries (before ++ entries) p.mine refl turned.each turned.own

  pub called_from : Called lock.origin.cache.budget (pass_of p r) (pass_of p' r') before entries
  called_from = record {
    later = record {
      id = ap (λ (x : Pass (Plain V K)). x.id) turned.pass;
      origin = ap (λ (x : Pass (Plain V K)). x.origin) turned.pass;
      number = ap (λ (x : Pass (Plain V K)). x.number) turned.pass;
      made = ap (λ (x : Pass (Plain V K)). x.made) turned.pass;
      joined = ap (λ (x : Pass (Plain V K)). x.joined) turned.pass;
    };
    begins = turned.begins;
    seen = ap (λ (x : Pass (Plain V K)). x.seen) turned.pass;
    mine = ap (λ (x : Pass (Plain V K)). x.mine) turned.pass ∙ mine_more;
    own = subst (λ (x : Pass (Plain V K)). entries_of x.number x.seen ≡ x.mine) (sym turned.pass) refl;
    settled = subst (λ (x : Pass (Plain V K)). IsSettledHistory lock.origin.cache.budget x.seen) (sym turned.pass) turned.settled;
  }

  pub of_from : IsOfLock lock (pass_of p' r')
  of_from = record {
    same = ap (λ (x : Pass (Plain V K)). x.id) turned.pass ∙ of.same;
    from = ap (λ (x : Pass (Plain V K)). x.origin) turned.pass ∙ of.from;
  }

  pub kept_from : AreOpen p.number (before ++ entries) (entries_of p.number (before ++ entries)) r'.holds → length (turns_of p.number (before ++ entries)) ≤ r'.owed → IsKeptPass p' r'
  kept_from are owed = record {
    free = ap (λ (x : Pass (Plain V K)). x.taken) turned.pass;
    own = subst (λ (x : Pass (Plain V K)). entries_of x.number x.seen ≡ x.mine) (sym turned.pass) refl;
    settled = λ origin is.
        let same : lock.origin ≡ origin = some_same lock.origin origin (sym of.from ∙ sym (ap (λ (x : Pass (Plain V K)). x.origin) turned.pass) ∙ is) in
        subst (λ (o : Plain V K). IsSettledHistory o.cache.budget p'.seen) same (subst (λ (x : Pass (Plain V K)). IsSettledHistory lock.origin.cache.budget x.seen) (sym turned.pass) turned.settled);
    open_are = subst (λ (x : Pass (Plain V K)). AreOpen x.number x.seen x.mine r'.holds) (sym turned.pass) are;
    owed = subst (λ (x : Pass (Plain V K)). length (turns_of x.number x.seen) ≤ r'.owed) (sym turned.pass) owed;
  }

  -- what was taken and given
  taken_is : ((c k s : ℕ) (n : ℕ) → holds_taken c k s (p.mine ++ entries) ≡ n → holds_taken c k s (entries_of p.number (before ++ entries)) ≡ n)
  taken_is c k s n e = ap (holds_taken c k s) mine_more ∙ e

  given_is : ((c k s : ℕ) (n : ℕ) → holds_given c k s (p.mine ++ entries) ≡ n → holds_given c k s (entries_of p.number (before ++ entries)) ≡ n)
  given_is c k s n e = ap (holds_given c k s) mine_more ∙ e

  whole : p.seen ++ (turned.begins.0 ++ entries) ≡ before ++ entries
  whole = sym (append_assoc p.seen turned.begins.0 entries) ∙ ap (λ l. l ++ entries) (sym turned.begins.1)

  pub open_same : ((c k s : ℕ) → holds_taken c k s (p.mine ++ entries) ≡ holds_taken c k s p.mine) → ((c k s : ℕ) → holds_given c k s (p.mine ++ entries) ≡ holds_given c k s p.mine)
      → AreOpen p.number (before ++ entries) (entries_of p.number (before ++ entries)) r.holds
  open_same taken given =
      subst (λ l. AreOpen p.number l (entries_of p.number (before ++ entries)) r.holds) whole
      (open_quiet p.number p.seen p.mine (turned.begins.0 ++ entries) (entries_of p.number (before ++ entries)) r.holds kept.open_are
      (λ c k s. taken_is c k s (holds_taken c k s p.mine) (taken c k s)) (λ c k s. given_is c k s (holds_given c k s p.mine) (given c k s)))

  pub open_given : (h : Hold) → is_held h r.holds ≡ true → ((c k s : ℕ) → holds_taken c k s (p.mine ++ entries) ≡ holds_taken c k s p.mine)
      → ((c k s : ℕ) → holds_given c k s (p.mine ++ entries) ≡ holds_given c k s p.mine + bit ((nat_eq h.class c && nat_eq h.key k) && nat_eq h.serial s))
      → AreOpen p.number (before ++ entries) (entries_of p.number (before ++ entries)) (without_hold h r.holds)
  open_given h held taken given =
      subst (λ l. AreOpen p.number l (entries_of p.number (before ++ entries)) (without_hold h r.holds)) whole
      (open_less p.number p.seen p.mine (turned.begins.0 ++ entries) (entries_of p.number (before ++ entries)) r.holds h kept.open_are held
      (λ c k s. taken_is c k s (holds_taken c k s p.mine) (taken c k s)) (λ c k s. given_is c k s (holds_given c k s p.mine + bit ((nat_eq h.class c && nat_eq h.key k) && nat_eq h.serial s)) (given c k s)))

  pub open_taken : (class key serial : ℕ) (act : Act) (rest : List Entry) → entries ≡ entry_of p.number class key act ∷ rest → takes_hold serial act ≡ true
      → ((c k s : ℕ) → holds_taken c k s (p.mine ++ entries) ≡ holds_taken c k s p.mine + bit ((nat_eq class c && nat_eq key k) && nat_eq serial s))
      → ((c k s : ℕ) → holds_given c k s (p.mine ++ entries) ≡ holds_given c k s p.mine)
      → AreOpen p.number (before ++ entries) (entries_of p.number (before ++ entries)) (r.holds ++ held_at (length before) class key serial ∷ [])
  open_taken class key serial act rest are takes taken given =
      let mine = entries_of p.number (before ++ entries) in
      let longer : length p.seen ≤ length before = omega (arith, ap length turned.begins.1, length-append p.seen turned.begins.0) in
      let placed : AllByRecursion (IsPlaced p.number before) r.holds = subst (λ l. AllByRecursion (IsPlaced p.number l) r.holds) (sym turned.begins.1) (placed_grow p.number p.seen turned.begins.0 r.holds kept.open_are.placed) in
      subst (λ es. AreOpen p.number (before ++ es) mine (r.holds ++ held_at (length before) class key serial ∷ [])) (sym are)
      (open_more p.number p.seen p.mine before rest mine r.holds class key serial act kept.open_are longer placed takes
      (λ c k s. taken_is c k s (holds_taken c k s p.mine + bit ((nat_eq class c && nat_eq key k) && nat_eq serial s)) (taken c k s)) (λ c k s. given_is c k s (holds_given c k s p.mine) (given c k s)))

-- a pass that made no entry
pub record Idle {V K : Type 0} (lock : Lock (Plain V K)) (p p' : Pass (Plain V K)) (r r' : Room) : Type 0 where
  pub kept : IsKeptPass p' r'
  pub of : IsOfLock lock (pass_of p' r')
  pub refused : Refused lock.origin.cache.budget (pass_of p r) (pass_of p' r')

pub idle_from : {V K : Type 0} (lock : Lock (Plain V K)) (p p' : Pass (Plain V K)) (r r' : Room) (before : List Entry) → IsKeptPass p r → IsOfLock lock (pass_of p r)
    → Turned lock.origin.cache.budget p p' before [] → r'.holds ≡ r.holds → r.owed ≤ r'.owed → Idle lock p p' r r'
idle_from lock p p' r r' before kept of turned same owed =
    let mine = p.mine in
    let nil : mine ++ [] ≡ mine = append-nil mine in
    let are = open_same lock p p' r r' before [] kept of turned (λ c k s. ap (holds_taken c k s) nil) (λ c k s. ap (holds_given c k s) nil) in
    let grown : turns_of p.number (before ++ []) ≡ turns_of p.number p.seen = ap (turns_of p.number) (append-nil before) ∙ turns_grow p.number p.seen before p.mine turned.begins kept.own turned.own in
    record {
      kept = kept_from lock p p' r r' before [] kept of turned (subst (λ hs. AreOpen p.number (before ++ []) (entries_of p.number (before ++ [])) hs) (sym same) are)
          (omega (arith, ap length grown, kept.owed, owed));
      of = of_from lock p p' r r' before [] kept of turned;
      refused = record {
        before = before;
        called = called_from lock p p' r r' before [] kept of turned;
        receipts = same;
        turns_are = ap (λ (x : Pass _). turns_of x.number x.seen) turned.pass ∙ grown;
      };
    }

-- a pass that found something
open_found : {V K : Type 0} (lock : Lock (Plain V K)) (p p' : Pass (Plain V K)) (r r' : Room) (class key : ℕ) (found : Found V) (before : List Entry)
    → IsKeptPass p r → IsOfLock lock (pass_of p r) → Turned lock.origin.cache.budget p p' before (entry_of p.number class key (act_of found) ∷ [])
    → AreOpen p.number (before ++ entry_of p.number class key (act_of found) ∷ []) (entries_of p.number (before ++ entry_of p.number class key (act_of found) ∷ [])) (r.holds ++ holds_by (length before) class key found)
open_found lock p p' r r' class key (Hit serial value) before kept of turned =
    let e = entry_of p.number class key (IsHit serial) in
    let adds = hit_adds serial p.mine e refl in
    open_taken lock p p' r r' before (e ∷ []) kept of turned class key serial (IsHit serial) [] refl (eq-eqb serial serial refl) adds.taken adds.given
open_found lock p p' r r' class key Start before kept of turned =
    let e = entry_of p.number class key IsStart in
    let adds = start_adds p.mine e refl in
    subst (AreOpen p.number (before ++ e ∷ []) (entries_of p.number (before ++ e ∷ []))) (sym (append-nil r.holds)) (open_same lock p p' r r' before (e ∷ []) kept of turned adds.taken adds.given)
open_found lock p p' r r' class key (Pending owner) before kept of turned =
    let e = entry_of p.number class key (IsPending owner) in
    let adds = pending_adds owner p.mine e refl in
    subst (AreOpen p.number (before ++ e ∷ []) (entries_of p.number (before ++ e ∷ []))) (sym (append-nil r.holds)) (open_same lock p p' r r' before (e ∷ []) kept of turned adds.taken adds.given)
open_found lock p p' r r' class key NotCached before kept of turned =
    let e = entry_of p.number class key IsNotCached in
    let adds = not_cached_adds p.mine e refl in
    subst (AreOpen p.number (before ++ e ∷ []) (entries_of p.number (before ++ e ∷ []))) (sym (append-nil r.holds)) (open_same lock p p' r r' before (e ∷ []) kept of turned adds.taken adds.given)

turns_found : {V : Type 0} (at class key : ℕ) (found : Found V) (ts : List Started) → turns_after at class key (act_of found) ts ≡ ts ++ turns_by at class key found
turns_found at class key (Hit serial value) ts = sym (append-nil ts)
turns_found at class key Start ts = refl
turns_found at class key (Pending owner) ts = sym (append-nil ts)
turns_found at class key NotCached ts = sym (append-nil ts)

pub record Finds {V K : Type 0} (lock : Lock (Plain V K)) (meaning : ℕ → ℕ → Option V) (call : Call) (wait : Bool) (class key at : ℕ) (found : Found V) (p p' : Pass (Plain V K)) (r r' : Room) : Type 0 where
  pub kept : IsKeptPass p' r'
  pub of : IsOfLock lock (pass_of p' r')
  pub finds : FoundAt meaning lock.origin.cache.budget call wait class key (pass_of p r) (pass_of p' r') at found

pub found_from : {V K : Type 0} (lock : Lock (Plain V K)) (meaning : ℕ → ℕ → Option V) (call : Call) (wait : Bool) (class key at : ℕ) (found : Found V) (p p' : Pass (Plain V K)) (r r' : Room)
    → IsKeptPass p r → IsOfLock lock (pass_of p r) → Asked meaning lock.origin.cache.budget call wait class key p p' at found
    → r'.holds ≡ r.holds ++ holds_by at class key found → r'.owed ≡ r.owed + length (turns_by at class key found)
    → Finds lock meaning call wait class key at found p p' r r'
found_from lock meaning call wait class key at found p p' r r' kept of asked holds owed =
    let before = asked.before in
    let turned = asked.turned in
    let e = entry_of p.number class key (act_of found) in
    let more : turns_of p.number (before ++ e ∷ []) ≡ turns_of p.number p.seen ++ turns_by at class key found =
    turns_more p.number p.seen before p.mine e [] turned.begins kept.own turned.own refl tt
    ∙ ap (λ k. turns_after k class key (act_of found) (turns_of p.number p.seen)) (sym asked.at_is)
    ∙ turns_found at class key found (turns_of p.number p.seen) in
    let are = open_found lock p p' r r' class key found before kept of turned in
    let held : r.holds ++ holds_by (length before) class key found ≡ r'.holds = ap (λ k. r.holds ++ holds_by k class key found) (sym asked.at_is) ∙ sym holds in
    record {
      kept = kept_from lock p p' r r' before (e ∷ []) kept of turned (subst (AreOpen p.number (before ++ e ∷ []) (entries_of p.number (before ++ e ∷ []))) held are)
          (omega (arith, ap length more, length-append (turns_of p.number p.seen) (turns_by at class key found), kept.owed, owed));
      of = of_from lock p p' r r' before (e ∷ []) kept of turned;
      finds = record {
        before = before;
        called = called_from lock p p' r r' before (e ∷ []) kept of turned;
        at_is = asked.at_is;
        chosen = asked.chosen;
        waits = asked.waits;
        meant = asked.meant;
        receipts = holds;
        turns_are = ap (λ (x : Pass _). turns_of x.number x.seen) turned.pass ∙ more;
      };
    }

-- a pass that ended a turn, or gave a value back
pub record Ends {V K : Type 0} (lock : Lock (Plain V K)) (p p' : Pass (Plain V K)) (r r' : Room) (before : List Entry) (entry : Entry) (left : List Started) : Type 0 where
  pub kept : IsKeptPass p' r'
  pub of : IsOfLock lock (pass_of p' r')
  pub called : CalledAndEvicted lock.origin.cache.budget (pass_of p r) (pass_of p' r') before entry
  pub turns_are : turns (pass_of p' r') ≡ left

ends_from : {V K : Type 0} (lock : Lock (Plain V K)) (p p' : Pass (Plain V K)) (r r' : Room) (before evicts : List Entry) (class key : ℕ) (act : Act)
    → IsKeptPass p r → IsOfLock lock (pass_of p r) → AllByRecursion (IsEvictBy p.number) evicts → Turned lock.origin.cache.budget p p' before (entry_of p.number class key act ∷ evicts)
    → AreOpen p.number (before ++ entry_of p.number class key act ∷ evicts) (entries_of p.number (before ++ entry_of p.number class key act ∷ evicts)) r'.holds
    → length (turns_after (length before) class key act (turns_of p.number p.seen)) ≤ r'.owed
    → Ends lock p p' r r' before (entry_of p.number class key act) (turns_after (length before) class key act (turns_of p.number p.seen))
ends_from lock p p' r r' before evicts class key act kept of each turned are owed =
    let e = entry_of p.number class key act in
    let more : turns_of p.number (before ++ e ∷ evicts) ≡ turns_after (length before) class key act (turns_of p.number p.seen) =
    turns_more p.number p.seen before p.mine e evicts turned.begins kept.own turned.own refl each in
    record {
      kept = kept_from lock p p' r r' before (e ∷ evicts) kept of turned are (omega (arith, ap length more, owed));
      of = of_from lock p p' r r' before (e ∷ evicts) kept of turned;
      called = record { evicts = evicts; each = each; called = called_from lock p p' r r' before (e ∷ evicts) kept of turned };
      turns_are = ap (λ (x : Pass _). turns_of x.number x.seen) turned.pass ∙ more;
    }

pub finish_from : {V K : Type 0} (lock : Lock (Plain V K)) (p p' : Pass (Plain V K)) (r r' : Room) (before : List Entry) (class key serial size : ℕ)
    → IsKeptPass p r → IsOfLock lock (pass_of p r) → Evicting lock.origin.cache.budget p p' before (entry_of p.number class key (Finish serial size)) → serial ≡ length before
    → has_turn class key (turns_of p.number p.seen) ≡ true → r'.holds ≡ r.holds ++ held_at serial class key serial ∷ [] → r'.owed + 1 ≡ r.owed
    → Ends lock p p' r r' before (entry_of p.number class key (Finish serial size)) (without_turn class key (turns_of p.number p.seen))
finish_from lock p p' r r' before class key serial size kept of evicting at has holds owed =
    let e = entry_of p.number class key (Finish serial size) in
    let adds = finish_adds serial size p.mine e refl in
    let alike = evicts_after p.mine e evicting.evicts (evicts_of p.number evicting.evicts evicting.each).1 in
    let are = open_taken lock p p' r r' before (e ∷ evicting.evicts) kept of evicting.turned class key serial (Finish serial size) evicting.evicts refl (eq-eqb serial serial refl)
    (λ c k s. alike.taken c k s ∙ adds.taken c k s) (λ c k s. alike.given c k s ∙ adds.given c k s) in
    let held : r.holds ++ held_at (length before) class key serial ∷ [] ≡ r'.holds = ap (λ k. r.holds ++ held_at k class key serial ∷ []) (sym at) ∙ sym holds in
    ends_from lock p p' r r' before evicting.evicts class key (Finish serial size) kept of evicting.each evicting.turned
    (subst (AreOpen p.number (before ++ e ∷ evicting.evicts) (entries_of p.number (before ++ e ∷ evicting.evicts))) held are)
    (omega (arith, one_fewer class key (turns_of p.number p.seen) has, kept.owed, owed))

pub abandon_from : {V K : Type 0} (lock : Lock (Plain V K)) (p p' : Pass (Plain V K)) (r r' : Room) (before : List Entry) (class key : ℕ)
    → IsKeptPass p r → IsOfLock lock (pass_of p r) → Turned lock.origin.cache.budget p p' before (entry_of p.number class key Abandon ∷ [])
    → has_turn class key (turns_of p.number p.seen) ≡ true → r'.holds ≡ r.holds → r'.owed + 1 ≡ r.owed
    → Ends lock p p' r r' before (entry_of p.number class key Abandon) (without_turn class key (turns_of p.number p.seen))
abandon_from lock p p' r r' before class key kept of turned has holds owed =
    let e = entry_of p.number class key Abandon in
    let adds = abandon_adds p.mine e refl in
    let are = open_same lock p p' r r' before (e ∷ []) kept of turned adds.taken adds.given in
    ends_from lock p p' r r' before [] class key Abandon kept of tt turned
    (subst (AreOpen p.number (before ++ e ∷ []) (entries_of p.number (before ++ e ∷ []))) (sym holds) are)
    (omega (arith, one_fewer class key (turns_of p.number p.seen) has, kept.owed, owed))

pub give_from : {V K : Type 0} (lock : Lock (Plain V K)) (p p' : Pass (Plain V K)) (r r' : Room) (before : List Entry) (h : Hold)
    → IsKeptPass p r → IsOfLock lock (pass_of p r) → Evicting lock.origin.cache.budget p p' before (entry_of p.number h.class h.key (Give h.serial))
    → is_held h r.holds ≡ true → r'.holds ≡ without_hold h r.holds → r'.owed ≡ r.owed
    → Ends lock p p' r r' before (entry_of p.number h.class h.key (Give h.serial)) (turns_of p.number p.seen)
give_from lock p p' r r' before h kept of evicting held holds owed =
    let e = entry_of p.number h.class h.key (Give h.serial) in
    let adds = give_adds h.serial p.mine e refl in
    let alike = evicts_after p.mine e evicting.evicts (evicts_of p.number evicting.evicts evicting.each).1 in
    let are = open_given lock p p' r r' before (e ∷ evicting.evicts) kept of evicting.turned h held
    (λ c k s. alike.taken c k s ∙ adds.taken c k s) (λ c k s. alike.given c k s ∙ adds.given c k s) in
    ends_from lock p p' r r' before evicting.evicts h.class h.key (Give h.serial) kept of evicting.each evicting.turned
    (subst (AreOpen p.number (before ++ e ∷ evicting.evicts) (entries_of p.number (before ++ e ∷ evicting.evicts))) (sym holds) are)
    (omega (arith, kept.owed, owed))

-- a pass computes a value exactly where it has a turn, and a receipt that it lists is open
pub turn_computes : {V K : Type 0} (p : Pass (Plain V K)) (r : Room) (class key : ℕ) → IsKeptPass p r → computes class key false p.mine ≡ has_turn class key (turns_of p.number p.seen)
turn_computes p r class key kept = computes_is p.number class key p.seen p.mine kept.own

pub hold_open : {V K : Type 0} (p : Pass (Plain V K)) (r : Room) (h : Hold) → IsKeptPass p r → is_held h r.holds ≡ true → IsOpen h.class h.key h.serial p.mine
hold_open p r h kept held = held_open p.number p.seen p.mine r.holds h kept.open_are held

-- a pass as it was
pub refused_none : {V K : Type 0} (lock : Lock (Plain V K)) (p : Pass (Plain V K)) (r r' : Room) → IsKeptPass p r → IsOfLock lock (pass_of p r) → r' ≡ r → Refused lock.origin.cache.budget (pass_of p r) (pass_of p r')
refused_none lock p r r' kept of same = record {
  before = p.seen;
  called = record {
    later = record { id = refl; origin = refl; number = refl; made = refl; joined = refl };
    begins = begins-refl p.seen;
    seen = sym (append-nil p.seen);
    mine = sym (append-nil p.mine);
    own = kept.own;
    settled = kept.settled lock.origin of.from;
  };
  receipts = ap (λ (x : Room). x.holds) same;
  turns_are = refl;
}

-- an open receipt is live in every legal history with the pass's own entries
pub receipts_live : {V K : Type 0} (p : Pass (Plain V K)) (r : Room) → IsKeptPass p r → ReceiptsAreLive (pass_of p r)
receipts_live p r kept = λ hold held budget history core leaves own.
    open_receipt_is_live budget history core leaves p.number hold.class hold.key hold.serial (subst (IsOpen hold.class hold.key hold.serial) (sym own) (hold_open p r hold kept held))
