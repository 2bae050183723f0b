-- Rows that are chained in the slots of a slab, and what writes of their links and phases make of them.
use Rattle.std.proofs.Common.{◌≡◌, ◌≢◌, ℕ, zero, suc, ◌+◌, Bool, true, cond, List, [], ◌∷◌, ◌++◌, length, set, refl, sym, ap, ap₂, ◌∙◌, subst, inl, inr, arith, length-append}
use Rattle.std.specs.Prelude.{Option, Some, None, IsSome, is_some, map, option_map, slice_get, remove}
use Rattle.std.specs.Option.{option_map_or}
use Rattle.std.proofs.lemmas.Bool.{cases_eq}
use Rattle.std.proofs.lemmas.List.Sums.{sum_by-set}
use Rattle.slab.specs.Slab.{Slab, get, slab_len, ContainsKey, Updates, with_value}
use Rattle.slab.proofs.SlabLemmas.{ContainsKey-within, Updates-with_value}
use Rattle.cache_table.specs.Kept.{Kept}
use Rattle.cache_table.specs.Slots.{first_in, last_in, IsFree, IsChain, end_beside, changed_item, last_item, kept_at, links_at, links_of, after_at, walk, order_of, chained, IsLinked, Relinks, StandsAt, on_kept}
use Rattle.cache_table.specs.declared.chain.Link.{Link}
use Rattle.cache_table.proofs.Slotted.{some_from, slice_get-map, remove-map, map-append}
use Rattle.cache_table.proofs.Links.{free-append, chain-stays, chain-end, chain-append, chain-split, apart-front, apart-rest, apart-one, chain-joined, first-closed, last-closed, first-pushed, last-append, last-differs_any, about}

-- a change of one item, where the items have names
pub set-at : {X Y : Type 0} (f : X → Y) (xs : List X) (i : ℕ) (x : X) → slice_get xs i ≡ Some x → set (map f xs) i (f x) ≡ map f xs
set-at f [] i x at = absurd (cc)
set-at f (y ∷ xs) zero x at = ap (λ z. f z ∷ map f xs) (sym (some_from at))
set-at f (y ∷ xs) (suc i) x at = ap (λ l. f y ∷ l) (set-at f xs i x at)

chain-at : (links : ℕ → Option (Option ℕ × Option ℕ)) (before after : Option ℕ) (order : List ℕ) (place slot : ℕ) → IsChain links before order after → slice_get order place ≡ Some slot → IsSome (links slot)
chain-at links before after [] place slot chain at = absurd (cc)
chain-at links before after (x ∷ order) zero slot chain at = ap (λ s. is_some (links s)) (sym (some_from at)) ∙ ap is_some chain.0
chain-at links before after (x ∷ order) (suc place) slot chain at = chain-at links (Some x) after order place slot chain.2 at

-- a slot is linked after the last
pub linked_last : (L M N : ℕ → Option (Option ℕ × Option ℕ)) (order : List ℕ) (slot : ℕ) → IsChain L None order None → IsFree slot order
    → ((s : ℕ) → last_in order None ≡ Some s → M s ≡ option_map (λ links. (links.0, Some slot)) (L s)) → ((s : ℕ) → last_in order None ≢ Some s → M s ≡ L s)
    → ((s : ℕ) → s ≢ slot → N s ≡ M s) → N slot ≡ Some (last_in order None, None)
    → IsChain N None (order ++ slot ∷ []) None
linked_last L M N order slot chain free here others same last =
    chain-append N None None order (slot ∷ []) (apart-one slot order free)
    (chain-stays M N None (Some slot) order (λ s not. same s (λ e. not (subst (λ k. IsFree k order) (sym e) free))) (by order here others chain))
    (last, tt, tt)
  where
    by : (order : List ℕ) → ((s : ℕ) → last_in order None ≡ Some s → M s ≡ option_map (λ links. (links.0, Some slot)) (L s)) → ((s : ℕ) → last_in order None ≢ Some s → M s ≡ L s)
        → IsChain L None order None → IsChain M None order (Some slot)
    by [] here others chain = tt
    by (x ∷ order) here others chain = chain-end L M None None (Some slot) x order here others chain

-- two links, and a count of one
abbrev both : Option ℕ → Option ℕ → Option (Option ℕ × Option ℕ)
both before after = Some (before, after)

abbrev weight : Bool → ℕ
weight b = cond b 1 0

module _ {V : Type 0} where
  walk_is : (slots : Slab (Link V)) (before : Option ℕ) (order : List ℕ) → IsChain (links_of slots) before order None → walk (length order) slots (first_in order None) ≡ order
  walk_is slots before [] chain = refl
  walk_is slots before (x ∷ order) chain = ap (λ l. x ∷ l) (ap (walk (length order) slots) (next (get slots x) chain.0) ∙ walk_is slots (Some x) order chain.2)
    where
      next : (o : Option (Link V)) → links_at o ≡ Some (before, first_in order None) → after_at o ≡ first_in order None
      next None e = absurd (cc)
      next (Some link) e = ap (λ p. p.1) (some_from e)

  -- the slots that are linked are those of the walk
  pub ordered : (slots : Slab (Link V)) (first last : Option ℕ) (order : List ℕ) → IsLinked slots first last order → order_of slots first ≡ order
  ordered slots first last order linked = ap₂ (λ n o. walk n slots o) linked.all linked.first_is ∙ walk_is slots None order linked.chain

  pub closed : (slots : Slab (Link V)) (first last : Option ℕ) (order : List ℕ) → IsLinked slots first last order → IsLinked slots first last (order_of slots first)
  closed slots first last order linked = subst (IsLinked slots first last) (sym (ordered slots first last order linked)) linked

  pub shown : (slots : Slab (Link V)) (first last : Option ℕ) (order : List ℕ) → IsLinked slots first last order → chained slots (order_of slots first) ≡ chained slots order
  shown slots first last order linked = ap (chained slots) (ordered slots first last order linked)

  -- rows none of which is changed
  pub chained-free : (old new : Slab (Link V)) (slot : ℕ) → ((s : ℕ) → s ≢ slot → kept_at (get new s) ≡ kept_at (get old s)) → (order : List ℕ) → IsFree slot order → chained new order ≡ chained old order
  chained-free old new slot same [] free = refl
  chained-free old new slot same (x ∷ order) free = ap₂ (λ k l. (x, k) ∷ l) (same x free.0) (chained-free old new slot same order free.1)

  pub chained-same : (old new : Slab (Link V)) → ((s : ℕ) → kept_at (get new s) ≡ kept_at (get old s)) → (order : List ℕ) → chained new order ≡ chained old order
  chained-same old new same [] = refl
  chained-same old new same (x ∷ order) = ap₂ (λ k l. (x, k) ∷ l) (same x) (chained-same old new same order)

  -- the slot at a place
  pub slot_there : (slots : Slab (Link V)) (order : List ℕ) (place slot : ℕ) → StandsAt slot place (chained slots order) → slice_get order place ≡ Some slot
  slot_there slots order place slot stands = by (slice_get order place) (ap (option_map (λ (row : ℕ × Kept V). row.0)) (sym (slice_get-map (λ s. (s, kept_at (get slots s))) order place)) ∙ stands)
    where
      by : (o : Option ℕ) → option_map (λ (row : ℕ × Kept V). row.0) (option_map (λ s. (s, kept_at (get slots s))) o) ≡ Some slot → o ≡ Some slot
      by None e = absurd (cc)
      by (Some s) e = e

  -- the row at a place
  pub row_there : (slots : Slab (Link V)) (order : List ℕ) (place slot : ℕ) → slice_get order place ≡ Some slot → slice_get (chained slots order) place ≡ Some (slot, kept_at (get slots slot))
  row_there slots order place slot at = slice_get-map (λ s. (s, kept_at (get slots s))) order place ∙ ap (option_map (λ s. (s, kept_at (get slots s)))) at

  pub has_links : (o : Option (Link V)) → is_some (links_at o) ≡ is_some o
  has_links None = refl
  has_links (Some link) = refl

  -- there is a row in a slot of the chain
  pub occupied : (slots : Slab (Link V)) (first last : Option ℕ) (order : List ℕ) (place slot : ℕ) → IsLinked slots first last order → slice_get order place ≡ Some slot → IsSome (get slots slot)
  occupied slots first last order place slot linked at = sym (has_links (get slots slot)) ∙ chain-at (links_of slots) None None order place slot linked.chain at

  -- a slot with no row is not in the chain
  pub vacant_is_free : (slots : Slab (Link V)) (before after : Option ℕ) (order : List ℕ) (slot : ℕ) → IsChain (links_of slots) before order after → get slots slot ≡ None → IsFree slot order
  vacant_is_free slots before after [] slot chain none = tt
  vacant_is_free slots before after (x ∷ order) slot chain none =
      ((λ e. absurd (cc (sym chain.0 ∙ ap (links_of slots) e ∙ ap links_at none))), vacant_is_free slots (Some x) after order slot chain.2 none)

  slab_len-with_value : (slots : Slab (Link V)) (slot : ℕ) (link : Link V) → ContainsKey slots slot → slab_len (with_value slots slot link) ≡ slab_len slots
  slab_len-with_value slots slot link present =
      let sums = sum_by-set (λ (o : Option (Link V)). cond (is_some o) 1 0) slots.slots slot (Some link) None (ContainsKey-within slots slot present) in
      let one : weight (is_some (get slots slot)) ≡ weight true = ap weight present in
      omega (arith, sums, one)

  -- the rows beside one are linked to each other
  pub record IsBridged (old new : Slab (Link V)) (first last : Option ℕ) (order : List ℕ) (place slot : ℕ) : Type 0 where
    pub first_is : first ≡ first_in (remove order place) None
    pub last_is : last ≡ last_in (remove order place) None
    pub chain : IsChain (links_of new) None (remove order place) None
    pub free : IsFree slot (remove order place)
    pub count : length (remove order place) + 1 ≡ length order
    pub same : links_of new slot ≡ links_of old slot
    pub rows : (s : ℕ) → kept_at (get new s) ≡ kept_at (get old s)
    pub len : slab_len new ≡ slab_len old

  pub bridged : (s0 s1 s2 : Slab (Link V)) (first last first1 last2 before after : Option ℕ) (order : List ℕ) (place slot : ℕ)
      → IsLinked s0 first last order → slice_get order place ≡ Some slot → links_of s0 slot ≡ Some (before, after)
      → Relinks s0 s1 before (λ links. (links.0, after)) → first1 ≡ end_beside before after first
      → Relinks s1 s2 after (λ links. (before, links.1)) → last2 ≡ end_beside after before last
      → IsBridged s0 s2 first1 last2 order place slot
  bridged s0 s1 s2 first last first1 last2 before after order place slot linked at links a first_is b last_is =
      let it = about order place slot at in
      let front = it.front in
      let back = it.back in
      let chain : IsChain (links_of s0) None (front ++ slot ∷ back) None = subst (λ l. IsChain (links_of s0) None l None) it.is linked.chain in
      let split = chain-split (links_of s0) None None front (slot ∷ back) chain in
      let ends : (before, after) ≡ (last_in front None, first_in back None) = some_from (sym links ∙ split.back.0) in
      let before_is : before ≡ last_in front None = ap (λ p. p.0) ends in
      let after_is : after ≡ first_in back None = ap (λ p. p.1) ends in
      let apart = apart-rest slot front back split.apart in
      let free = free-append slot front back (apart-front slot front back split.apart) split.back.1 in
      let joined = chain-joined (links_of s0) (links_of s1) (links_of s2) (Some slot) (Some slot) front back apart split.front split.back.2
      (λ s e. a.here s (before_is ∙ e) ∙ ap (λ o. option_map (λ links. (links.0, o)) (links_of s0 s)) after_is) (λ s e. a.others s (λ w. e (sym before_is ∙ w)))
      (λ s e. b.here s (after_is ∙ e) ∙ ap (λ o. option_map (λ links. (o, links.1)) (links_of s1 s)) before_is) (λ s e. b.others s (λ w. e (sym after_is ∙ w))) in
      record {
        first_is = first_is ∙ ap (end_beside before after) (linked.first_is ∙ ap (λ l. first_in l None) it.is)
            ∙ ap₂ (λ p q. end_beside p q (first_in (front ++ slot ∷ back) None)) before_is after_is
            ∙ first-closed front back slot ∙ ap (λ l. first_in l None) (sym it.rest);
        last_is = last_is ∙ ap (end_beside after before) (linked.last_is ∙ ap (λ l. last_in l None) it.is)
            ∙ ap₂ (λ p q. end_beside p q (last_in (front ++ slot ∷ back) None)) after_is before_is
            ∙ last-closed front back slot ∙ ap (λ l. last_in l None) (sym it.rest);
        chain = subst (λ l. IsChain (links_of s2) None l None) (sym it.rest) joined;
        free = subst (IsFree slot) (sym it.rest) free;
        count = omega (arith, ap length it.rest, ap length it.is, length-append front back, length-append front (slot ∷ back));
        same = b.others slot (λ e. first_no back split.back.1 (sym after_is ∙ e)) ∙ a.others slot (λ e. last-differs_any slot front (apart-front slot front back split.apart) (sym before_is ∙ e));
        rows = λ s. b.rows s ∙ a.rows s;
        len = b.len ∙ a.len;
      }
    where
      first_no : (xs : List ℕ) → IsFree slot xs → first_in xs None ≢ Some slot
      first_no [] free e = absurd (cc)
      first_no (x ∷ xs) free e = free.0 (some_from e)

  -- the row at a place, linked last
  pub record Moved (old new : Slab (Link V)) (first last : Option ℕ) (order : List ℕ) (place slot : ℕ) : Type 0 where
    pub linked : IsLinked new first last (remove order place ++ slot ∷ [])
    pub rows : chained new (remove order place ++ slot ∷ []) ≡ last_item place (chained old order)

  pub moved : (s0 s2 s3 s4 : Slab (Link V)) (first1 first3 last2 : Option ℕ) (order : List ℕ) (place slot : ℕ)
      → IsSome (get s0 slot) → slab_len s0 ≡ length order → slice_get order place ≡ Some slot
      → IsBridged s0 s2 first1 last2 order place slot
      → Relinks s2 s3 last2 (λ links. (links.0, Some slot)) → first3 ≡ end_beside last2 (Some slot) first1
      → Relinks s3 s4 (Some slot) (λ _. (last2, None))
      → Moved s0 s4 first3 (Some slot) order place slot
  moved s0 s2 s3 s4 first1 first3 last2 order place slot present all at bridge c first_is d =
      let rest = remove order place in
      let row : ℕ → ℕ × Kept V = λ s. (s, kept_at (get s0 s)) in
      let three : links_of s3 slot ≡ links_of s2 slot = c.others slot (λ e. last-differs_any slot rest bridge.free (sym bridge.last_is ∙ e)) in
      let four : links_of s4 slot ≡ Some (last2, None) = d.here slot refl ∙ some_map (links_of s3 slot) (ap is_some (three ∙ bridge.same) ∙ has_links (get s0 slot) ∙ present) in
      let chain = linked_last (links_of s2) (links_of s3) (links_of s4) rest slot bridge.chain bridge.free
      (λ s e. c.here s (bridge.last_is ∙ e)) (λ s e. c.others s (λ w. e (sym bridge.last_is ∙ w)))
      (λ s e. d.others s (λ w. e (sym (some_from w)))) (four ∙ ap (λ o. both o None) bridge.last_is) in
      record {
        linked = record {
          first_is = first_is ∙ ap₂ (λ p q. end_beside p (Some slot) q) bridge.last_is bridge.first_is ∙ first-pushed rest slot;
          last_is = sym (last-append rest (slot ∷ []) None);
          chain = chain;
          all = omega (arith, d.len, c.len, bridge.len, all, bridge.count, length-append rest (slot ∷ []));
        };
        rows = chained-same s0 s4 (λ s. d.rows s ∙ c.rows s ∙ bridge.rows s) (rest ++ slot ∷ []) ∙ map-append row rest (slot ∷ [])
            ∙ ap (λ l. l ++ row slot ∷ []) (sym (remove-map row order place))
            ∙ sym (ap (λ o. option_map_or (λ r. remove (chained s0 order) place ++ r ∷ []) o (chained s0 order)) (row_there s0 order place slot at));
      }
    where
      some_map : (o : Option (Option ℕ × Option ℕ)) → IsSome o → option_map {U = Option ℕ × Option ℕ} (λ _. (last2, None)) o ≡ Some (last2, None)
      some_map None is = absurd (cc)
      some_map (Some links) is = refl

  -- the row at a place, out of the slab
  pub record TakenOut (old new : Slab (Link V)) (first last : Option ℕ) (order : List ℕ) (place : ℕ) : Type 0 where
    pub linked : IsLinked new first last (remove order place)
    pub rows : chained new (remove order place) ≡ remove (chained old order) place

  pub taken_out : (s0 s2 s3 : Slab (Link V)) (first1 last2 : Option ℕ) (order : List ℕ) (place slot : ℕ)
      → slab_len s0 ≡ length order → IsBridged s0 s2 first1 last2 order place slot
      → Updates s2 s3 slot None → slab_len s3 + 1 ≡ slab_len s2
      → TakenOut s0 s3 first1 last2 order place
  taken_out s0 s2 s3 first1 last2 order place slot all bridge updates len =
      let rest = remove order place in
      record {
        linked = record {
          first_is = bridge.first_is;
          last_is = bridge.last_is;
          chain = chain-stays (links_of s2) (links_of s3) None None rest (λ s not. ap links_at (updates.others s (λ e. not (subst (λ k. IsFree k rest) (sym e) bridge.free)))) bridge.chain;
          all = omega (arith, len, bridge.len, all, bridge.count);
        };
        rows = chained-free s0 s3 slot (λ s differs. ap kept_at (updates.others s differs) ∙ bridge.rows s) rest bridge.free
            ∙ sym (remove-map (λ s. (s, kept_at (get s0 s))) order place);
      }

  -- a row more, linked last
  pub record Pushed (old new : Slab (Link V)) (first last : Option ℕ) (order : List ℕ) (slot : ℕ) (link : Link V) : Type 0 where
    pub linked : IsLinked new first last (order ++ slot ∷ [])
    pub rows : chained new (order ++ slot ∷ []) ≡ chained old order ++ (slot, kept_at (Some link)) ∷ []

  pub pushed : (s0 s1 s2 : Slab (Link V)) (first last first1 : Option ℕ) (order : List ℕ) (slot : ℕ) (link : Link V)
      → IsLinked s0 first last order → get s0 slot ≡ None → Updates s0 s1 slot (Some link) → slab_len s1 ≡ slab_len s0 + 1
      → link.before ≡ last → link.after ≡ None
      → Relinks s1 s2 last (λ links. (links.0, Some slot)) → first1 ≡ end_beside last (Some slot) first
      → Pushed s0 s2 first1 (Some slot) order slot link
  pushed s0 s1 s2 first last first1 order slot link linked none updates len before_is after_is c first_is =
      let row : ℕ → ℕ × Kept V = λ s. (s, kept_at (get s2 s)) in
      let free = vacant_is_free s0 None None order slot linked.chain none in
      let one : links_of s1 slot ≡ Some (last, None) = ap links_at updates.changed ∙ ap₂ both before_is after_is in
      let two : links_of s2 slot ≡ links_of s1 slot = c.others slot (λ e. last-differs_any slot order free (sym linked.last_is ∙ e)) in
      let before = chain-stays (links_of s0) (links_of s1) None None order (λ s not. ap links_at (updates.others s (λ e. not (subst (λ k. IsFree k order) (sym e) free)))) linked.chain in
      record {
        linked = record {
          first_is = first_is ∙ ap₂ (λ p q. end_beside p (Some slot) q) linked.last_is linked.first_is ∙ first-pushed order slot;
          last_is = sym (last-append order (slot ∷ []) None);
          chain = linked_last (links_of s1) (links_of s2) (links_of s2) order slot before free
              (λ s e. c.here s (linked.last_is ∙ e)) (λ s e. c.others s (λ w. e (sym linked.last_is ∙ w)))
              (λ s e. refl) (two ∙ one ∙ ap (λ o. both o None) linked.last_is);
          all = omega (arith, c.len, len, linked.all, length-append order (slot ∷ []));
        };
        rows = map-append row order (slot ∷ [])
            ∙ ap₂ (λ l k. l ++ (slot, k) ∷ []) (chained-free s0 s2 slot (λ s differs. c.rows s ∙ ap kept_at (updates.others s differs)) order free) (c.rows slot ∙ ap kept_at updates.changed);
      }

  -- a row whose phase is changed, and its links stay
  pub record Rephased (old new : Slab (Link V)) (first last : Option ℕ) (order : List ℕ) (place : ℕ) (change : Kept V → Kept V) : Type 0 where
    pub linked : IsLinked new first last order
    pub rows : chained new order ≡ changed_item (on_kept change) place (chained old order)

  pub rephased : (old new : Slab (Link V)) (first last : Option ℕ) (order : List ℕ) (place slot : ℕ) (was link : Link V) (change : Kept V → Kept V)
      → IsLinked old first last order → slice_get order place ≡ Some slot → get old slot ≡ Some was
      → ((s : ℕ) → s ≢ slot → get new s ≡ get old s) → get new slot ≡ Some link → slab_len new ≡ slab_len old
      → link.before ≡ was.before → link.after ≡ was.after → kept_at (Some link) ≡ change (kept_at (Some was))
      → Rephased old new first last order place change
  rephased old new first last order place slot was link change linked at is others here len before_is after_is row =
      let all : (s : ℕ) → links_of new s ≡ links_of old s =
      λ s. elim (cases_eq s slot) [
        | inl same ↦ ap (links_of new) same ∙ ap links_at here ∙ ap₂ both before_is after_is ∙ sym (ap links_at is) ∙ sym (ap (links_of old) same)
        | inr differs ↦ ap links_at (others s differs)
      ] in
      record {
        linked = record {
          first_is = linked.first_is;
          last_is = linked.last_is;
          chain = chain-stays (links_of old) (links_of new) None None order (λ s not. all s) linked.chain;
          all = len ∙ linked.all;
        };
        rows = rows None order place linked.chain at
            ∙ sym (ap (λ o. option_map_or (λ r. set (chained old order) place (on_kept change r)) o (chained old order)) (row_there old order place slot at));
      }
    where
      rows : (before : Option ℕ) (order : List ℕ) (place : ℕ) → IsChain (links_of old) before order None → slice_get order place ≡ Some slot
          → chained new order ≡ set (chained old order) place (on_kept change (slot, kept_at (get old slot)))
      rows before [] place chain at = absurd (cc)
      rows before (x ∷ order) zero chain at =
          let same : x ≡ slot = some_from at in
          ap₂ (λ r l. r ∷ l) (ap (λ s. (s, kept_at (get new s))) same ∙ ap (λ k. (slot, k)) (ap kept_at here ∙ row ∙ ap (λ o. change (kept_at o)) (sym is)))
          (chained-free old new slot (λ s differs. ap kept_at (others s differs)) order (subst (λ k. IsFree k order) same chain.1))
      rows before (x ∷ order) (suc place) chain at =
          let differs : x ≢ slot = differs_at x order place chain.1 at in
          ap₂ (λ k l. (x, k) ∷ l) (ap kept_at (others x differs)) (rows (Some x) order place chain.2 at)
        where
          differs_at : (x : ℕ) (xs : List ℕ) (i : ℕ) → IsFree x xs → slice_get xs i ≡ Some slot → x ≢ slot
          differs_at x [] i free at e = absurd (cc)
          differs_at x (y ∷ xs) zero free at e = free.0 (some_from at ∙ sym e)
          differs_at x (y ∷ xs) (suc i) free at e = differs_at x xs i free.1 at e

  -- the place of a row in the chain, from its place among the rows
  pub standing : (slots : Slab (Link V)) (order : List ℕ) (rows : List (ℕ × Kept V)) (place slot : ℕ) → chained slots order ≡ rows → StandsAt slot place rows → slice_get order place ≡ Some slot
  standing slots order rows place slot shows stands = slot_there slots order place slot (subst (StandsAt slot place) (sym shows) stands)

  -- all writes by which a row goes last
  pub moved_last_of : (s0 s1 s2 s3 s4 : Slab (Link V)) (first last first1 last2 first3 before after : Option ℕ) (order : List ℕ) (place slot : ℕ)
      → IsLinked s0 first last order → slice_get order place ≡ Some slot → links_of s0 slot ≡ Some (before, after)
      → Relinks s0 s1 before (λ links. (links.0, after)) → first1 ≡ end_beside before after first
      → Relinks s1 s2 after (λ links. (before, links.1)) → last2 ≡ end_beside after before last
      → Relinks s2 s3 last2 (λ links. (links.0, Some slot)) → first3 ≡ end_beside last2 (Some slot) first1
      → Relinks s3 s4 (Some slot) (λ _. (last2, None))
      → Moved s0 s4 first3 (Some slot) order place slot
  moved_last_of s0 s1 s2 s3 s4 first last first1 last2 first3 before after order place slot linked at links a first1_is b last2_is c first3_is d =
      moved s0 s2 s3 s4 first1 first3 last2 order place slot (occupied s0 first last order place slot linked at) linked.all at
      (bridged s0 s1 s2 first last first1 last2 before after order place slot linked at links a first1_is b last2_is) c first3_is d

  -- more capacity changes nothing
  pub linked-capacity : (slots new : Slab (Link V)) (first last : Option ℕ) (order : List ℕ) (capacity : ℕ) → new ≡ record slots { capacity = capacity } → IsLinked slots first last order → IsLinked new first last order
  linked-capacity slots new first last order capacity same linked = subst (λ s. IsLinked s first last order) (sym same) (record { first_is = linked.first_is; last_is = linked.last_is; chain = linked.chain; all = linked.all })

  pub chained-capacity : (slots new : Slab (Link V)) (order : List ℕ) (capacity : ℕ) → new ≡ record slots { capacity = capacity } → chained new order ≡ chained slots order
  chained-capacity slots new order capacity same = ap (λ s. chained s order) same

  -- a write of one row in its slot
  pub rewritten : (slots : Slab (Link V)) (first last : Option ℕ) (order : List ℕ) (place slot : ℕ) (was link : Link V) (change : Kept V → Kept V)
      → IsLinked slots first last order → slice_get order place ≡ Some slot → get slots slot ≡ Some was
      → link.before ≡ was.before → link.after ≡ was.after → kept_at (Some link) ≡ change (kept_at (Some was))
      → Rephased slots (with_value slots slot link) first last order place change
  rewritten slots first last order place slot was link change linked at is before_is after_is row =
      let present : ContainsKey slots slot = ap is_some is in
      let updates = Updates-with_value slots slot link present in
      rephased slots (with_value slots slot link) first last order place slot was link change linked at is updates.others updates.changed (slab_len-with_value slots slot link present) before_is after_is row

  -- a row that is written as it was
  pub changed-same : (rows : List (ℕ × Kept V)) (place : ℕ) → changed_item (on_kept (λ kept. kept)) place rows ≡ rows
  changed-same rows place = by (slice_get rows place) refl
    where
      same : (rows : List (ℕ × Kept V)) (place : ℕ) (row : ℕ × Kept V) → slice_get rows place ≡ Some row → set rows place row ≡ rows
      same [] place row at = absurd (cc)
      same (x ∷ rows) zero row at = ap (λ y. y ∷ rows) (sym (some_from at))
      same (x ∷ rows) (suc place) row at = ap (λ l. x ∷ l) (same rows place row at)

      by : (o : Option (ℕ × Kept V)) → slice_get rows place ≡ o → changed_item (on_kept (λ kept. kept)) place rows ≡ rows
      by None e = ap (λ o. option_map_or (λ row. set rows place (on_kept (λ kept. kept) row)) o rows) e
      by (Some row) e = ap (λ o. option_map_or (λ row. set rows place (on_kept (λ kept. kept) row)) o rows) e ∙ same rows place row e
