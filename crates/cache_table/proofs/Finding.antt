-- Rows of the chain, found by the map from classes and keys to slots.
use Rattle.std.proofs.Common.{◌≡◌, ℕ, true, cond, List, [], ◌∷◌, ◌++◌, set, refl, sym, ap, ap₂, ◌∙◌}
use Rattle.std.specs.Prelude.{Option, Some, None, IsSome, is_some, find, map, option_map, position, remove, slice_get}
use Rattle.std.specs.Option.{option_map_or}
use Rattle.std.specs.Map.{lookup}
use Rattle.cache_core.proofs.Firsts.{place_from_position, none_from_position}
use Rattle.cache_core.specs.Rows.{state_of}
use Rattle.cache_core.specs.declared.row.State.{State}
use Rattle.cache_table.specs.Kept.{Kept, is_kept, is_kept_idle, changed_at, moved_last}
use Rattle.cache_table.specs.Slots.{changed_item, last_item, on_kept, plain_rows, name_in, named, is_name, IsIndexed, StandsAt}
use Rattle.cache_table.specs.declared.chain.Name.{Name}
use Rattle.cache_table.proofs.Slotted.{some_from, slice_get-map, slice_get-set, remove-map, map-append, position-map, some_at, find-passes}
use Rattle.cache_table.proofs.Named.{found_at, not_found, map-last, plain-changed, named-changed, indexed-touched, indexed-removed, indexed-pushed, indexed-same}
use Rattle.cache_table.proofs.Keeping.{state_found}

-- a test of what is known of an item
pub known : {X Y Z : Type 0} (g : Y → Z) (f : X → Y) (o : Option X) (y : Y) (z : Z) → option_map f o ≡ Some y → option_map (λ x. g (f x)) o ≡ Some z → g y ≡ z
known g f None y z e h = absurd (cc)
known g f (Some x) y z e h = ap g (sym (some_from e)) ∙ some_from h

-- where a map gives nothing
pub none_is : {X : Type 0} (o : Option X) → is_some o ≡ true → o ≡ None → ⊥
none_is None is e = absurd (cc)
none_is (Some x) is e = absurd (cc)

module _ {V : Type 0} where
  -- what is known of the row at a place, with and without its slot
  pub at_plain : {Y : Type 0} (h : Kept V → Y) (chain : List (ℕ × Kept V)) (rows : List (Kept V)) (place : ℕ) → plain_rows chain ≡ rows → option_map h (slice_get rows place) ≡ option_map (λ row. h row.1) (slice_get chain place)
  at_plain h chain rows place shows =
      ap (λ l. option_map h (slice_get l place)) (sym shows) ∙ ap (option_map h) (slice_get-map (λ (row : ℕ × Kept V). row.1) chain place) ∙ by (slice_get chain place)
    where
      by : (o : Option (ℕ × Kept V)) → option_map h (option_map (λ row. row.1) o) ≡ option_map (λ row. h row.1) o
      by None = refl
      by (Some row) = refl

  -- the slot that the map has is that of the row at the place of a class and key
  pub stands_found : (class key slot place : ℕ) (entries : List (Name × ℕ)) (chain : List (ℕ × Kept V)) → IsIndexed entries (named chain)
      → lookup (is_name (record { class = class; key = key })) entries ≡ Some slot → position (is_kept class key) (plain_rows chain) ≡ Some place → StandsAt slot place chain
  stands_found class key slot place entries chain indexed found at =
      let there = found_at class key place chain at in
      ap (option_map (λ (row : ℕ × Kept V). row.0)) there.at
      ∙ sym there.found ∙ sym (indexed.finds (record { class = class; key = key })) ∙ found

  -- the map has a slot where there is a row
  pub has_slot : (class key place : ℕ) (entries : List (Name × ℕ)) (chain : List (ℕ × Kept V)) → IsIndexed entries (named chain)
      → position (is_kept class key) (plain_rows chain) ≡ Some place → IsSome (lookup (is_name (record { class = class; key = key })) entries)
  has_slot class key place entries chain indexed at =
      let there = found_at class key place chain at in
      ap is_some (indexed.finds (record { class = class; key = key }) ∙ there.found)

  -- where the map has no slot there is no row
  pub no_row : (class key : ℕ) (entries : List (Name × ℕ)) (chain : List (ℕ × Kept V)) → IsIndexed entries (named chain)
      → lookup (is_name (record { class = class; key = key })) entries ≡ None → position (is_kept class key) (plain_rows chain) ≡ None
  no_row class key entries chain indexed none = by (position (is_kept class key) (plain_rows chain)) refl
    where
      by : (o : Option ℕ) → position (is_kept class key) (plain_rows chain) ≡ o → o ≡ None
      by None e = refl
      by (Some place) e = absurd (none_is (lookup (is_name (record { class = class; key = key })) entries) (has_slot class key place entries chain indexed e) none)

  -- where the map has a slot there is a row
  pub some_row : (class key slot : ℕ) (entries : List (Name × ℕ)) (chain : List (ℕ × Kept V)) → IsIndexed entries (named chain)
      → lookup (is_name (record { class = class; key = key })) entries ≡ Some slot → (place : ℕ) × (position (is_kept class key) (plain_rows chain) ≡ Some place)
  some_row class key slot entries chain indexed found = by (position (is_kept class key) (plain_rows chain)) refl
    where
      by : (o : Option ℕ) → position (is_kept class key) (plain_rows chain) ≡ o → (place : ℕ) × (o ≡ Some place)
      by None e = absurd (cc (sym found ∙ indexed.finds (record { class = class; key = key }) ∙ not_found class key chain e))
      by (Some place) e = (place, refl)

  -- the state of the row of a class and key
  pub state_there_is : (class key place : ℕ) (chain : List (ℕ × Kept V)) (state : State) → position (is_kept class key) (plain_rows chain) ≡ Some place
      → option_map (λ row. row.1.row.state) (slice_get chain place) ≡ Some state → Some state ≡ state_of class key (map (λ kept. kept.row) (plain_rows chain))
  state_there_is class key place chain state at e =
      let there = found_at class key place chain at in
      let item : slice_get (plain_rows chain) place ≡ Some there.kept = slice_get-map (λ (row : ℕ × Kept V). row.1) chain place ∙ ap (option_map (λ (row : ℕ × Kept V). row.1)) there.at in
      sym e ∙ ap (option_map (λ (row : ℕ × Kept V). row.1.row.state)) there.at
      ∙ sym (state_found class key (plain_rows chain) place there.kept (record { place = at; item = item }))

  stands_item : (slot place : ℕ) (chain : List (ℕ × Kept V)) → StandsAt slot place chain → (kept : Kept V) × (slice_get chain place ≡ Some (slot, kept))
  stands_item slot place chain stands = by (slice_get chain place) stands
    where
      by : (o : Option (ℕ × Kept V)) → option_map (λ row. row.0) o ≡ Some slot → (kept : Kept V) × (o ≡ Some (slot, kept))
      by None e = absurd (cc)
      by (Some row) e = (row.1, ap (λ s. Some (s, row.1)) (some_from e))

  -- a row that is changed keeps its slot
  pub stands_changed : (slot place : ℕ) (chain new : List (ℕ × Kept V)) (change : Kept V → Kept V) → StandsAt slot place chain → new ≡ changed_item (on_kept change) place chain → StandsAt slot place new
  stands_changed slot place chain new change stands made =
      let item = stands_item slot place chain stands in
      ap (λ l. option_map (λ (row : ℕ × Kept V). row.0) (slice_get l place)) (made ∙ ap (λ o. option_map_or (λ row. set chain place (on_kept change row)) o chain) item.1)
      ∙ ap (option_map (λ (row : ℕ × Kept V). row.0)) (slice_get-set chain place (slot, item.0) (slot, change item.0) item.1)

  -- a row that was changed and went last
  pub record Touched (entries : List (Name × ℕ)) (chain new : List (ℕ × Kept V)) (place : ℕ) (change : Kept V → Kept V) : Type 0 where
    pub indexed : IsIndexed entries (named new)
    pub rows : plain_rows new ≡ moved_last place (changed_at change place (plain_rows chain))

  pub touched : (entries : List (Name × ℕ)) (chain middle new : List (ℕ × Kept V)) (slot place : ℕ) (change : Kept V → Kept V) → IsIndexed entries (named chain) → StandsAt slot place chain
      → middle ≡ changed_item (on_kept change) place chain → new ≡ last_item place middle
      → ((k : Kept V) → (change k).row.class ≡ k.row.class) → ((k : Kept V) → (change k).row.key ≡ k.row.key)
      → Touched entries chain new place change
  touched entries chain middle new slot place change indexed stands changed last class key =
      let item = stands_item slot place chain stands in
      let names : named new ≡ last_item place (named chain) = ap named last ∙ map-last name_in middle place ∙ ap (last_item place) (ap named changed ∙ named-changed change chain place class key) in
      record {
        indexed = indexed-same entries (last_item place (named chain)) (named new) names
            (indexed-touched entries (named chain) place (name_in (slot, item.0)) indexed (slice_get-map name_in chain place ∙ ap (option_map name_in) item.1));
        rows = ap plain_rows last ∙ map-last (λ (row : ℕ × Kept V). row.1) middle place ∙ ap (moved_last place) (ap plain_rows changed ∙ plain-changed change chain place);
      }

  -- a row that went
  pub record Removed (entries : List (Name × ℕ)) (chain new : List (ℕ × Kept V)) (place : ℕ) : Type 0 where
    pub indexed : IsIndexed entries (named new)
    pub rows : plain_rows new ≡ remove (plain_rows chain) place

  pub removed : (entries entries' : List (Name × ℕ)) (chain new : List (ℕ × Kept V)) (slot place : ℕ) (name : Name) → IsIndexed entries (named chain) → StandsAt slot place chain
      → option_map (λ row. row.1.row.class) (slice_get chain place) ≡ Some name.class → option_map (λ row. row.1.row.key) (slice_get chain place) ≡ Some name.key
      → ((other : Name) → lookup (is_name other) entries' ≡ cond (is_name name other) None (lookup (is_name other) entries))
      → new ≡ remove chain place → Removed entries' chain new place
  removed entries entries' chain new slot place name indexed stands class_is key_is updates made =
      let item = stands_item slot place chain stands in
      let class : item.0.row.class ≡ name.class = some_from (sym (ap (option_map (λ (row : ℕ × Kept V). row.1.row.class)) item.1) ∙ class_is) in
      let key : item.0.row.key ≡ name.key = some_from (sym (ap (option_map (λ (row : ℕ × Kept V). row.1.row.key)) item.1) ∙ key_is) in
      let at : slice_get (named chain) place ≡ Some (name, slot) =
      slice_get-map name_in chain place ∙ ap (option_map name_in) item.1 ∙ ap₂ (λ (c k : ℕ). let n : Name = record { class = c; key = k } in Some (n, slot)) class key in
      record {
        indexed = indexed-same entries' (remove (named chain) place) (named new) (ap named made ∙ sym (remove-map name_in chain place))
            (indexed-removed entries entries' (named chain) place (name, slot) indexed at updates);
        rows = ap plain_rows made ∙ sym (remove-map (λ (row : ℕ × Kept V). row.1) chain place);
      }

  -- a row more
  pub record Added (entries : List (Name × ℕ)) (chain new : List (ℕ × Kept V)) (kept : Kept V) : Type 0 where
    pub indexed : IsIndexed entries (named new)
    pub rows : plain_rows new ≡ plain_rows chain ++ kept ∷ []

  pub added : (entries entries' : List (Name × ℕ)) (chain new : List (ℕ × Kept V)) (slot : ℕ) (kept : Kept V) → IsIndexed entries (named chain)
      → position (is_kept kept.row.class kept.row.key) (plain_rows chain) ≡ None
      → ((other : Name) → lookup (is_name other) entries' ≡ cond (is_name (record { class = kept.row.class; key = kept.row.key }) other) (Some slot) (lookup (is_name other) entries))
      → new ≡ chain ++ (slot, kept) ∷ [] → Added entries' chain new kept
  added entries entries' chain new slot kept indexed absent updates made =
      let name : Name = record { class = kept.row.class; key = kept.row.key } in
      record {
        indexed = indexed-same entries' (named chain ++ (name, slot) ∷ []) (named new) (ap named made ∙ map-append name_in chain ((slot, kept) ∷ []))
            (indexed-pushed entries entries' (named chain) (name, slot) indexed (not_found kept.row.class kept.row.key chain absent) updates);
        rows = ap plain_rows made ∙ map-append (λ (row : ℕ × Kept V). row.1) chain ((slot, kept) ∷ []);
      }

  idle_place_same : (chain : List (ℕ × Kept V)) → position is_kept_idle (plain_rows chain) ≡ position (λ row. is_kept_idle row.1) chain
  idle_place_same chain = position-map (λ (row : ℕ × Kept V). row.1) is_kept_idle (λ row. is_kept_idle row.1) (λ row. refl) chain

  -- the first idle row
  pub idle_found : (slot : ℕ) (chain : List (ℕ × Kept V)) → Some slot ≡ option_map (λ row. row.0) (find (λ row. is_kept_idle row.1) chain)
      → (place : ℕ) × (position is_kept_idle (plain_rows chain) ≡ Some place) × StandsAt slot place chain × (option_map (λ row. is_kept_idle row.1) (slice_get chain place) ≡ Some true)
  idle_found slot chain found = by (position is_kept_idle (plain_rows chain)) refl
    where
      by : (o : Option ℕ) → position is_kept_idle (plain_rows chain) ≡ o
          → (place : ℕ) × (o ≡ Some place) × StandsAt slot place chain × (option_map (λ row. is_kept_idle row.1) (slice_get chain place) ≡ Some true)
      by None e = absurd (cc (found ∙ ap (option_map (λ (row : ℕ × Kept V). row.0)) (none_from_position (λ (row : ℕ × Kept V). is_kept_idle row.1) chain (sym (idle_place_same chain) ∙ e)).0))
      by (Some place) e =
          let at = place_from_position (λ (row : ℕ × Kept V). is_kept_idle row.1) chain place (sym (idle_place_same chain) ∙ e) in
          let item = some_at chain place at.within in (
            place,
            refl,
            ap (option_map (λ (row : ℕ × Kept V). row.0)) (sym at.found) ∙ sym found,
            ap (option_map (λ (row : ℕ × Kept V). is_kept_idle row.1)) item.1 ∙ ap Some (find-passes (λ (row : ℕ × Kept V). is_kept_idle row.1) chain item.0 (at.found ∙ item.1)),
          )

  pub idle_none : (chain : List (ℕ × Kept V)) → None ≡ option_map (λ row. row.0) (find (λ row. is_kept_idle row.1) chain) → position is_kept_idle (plain_rows chain) ≡ None
  idle_none chain none = by (position is_kept_idle (plain_rows chain)) refl
    where
      by : (o : Option ℕ) → position is_kept_idle (plain_rows chain) ≡ o → o ≡ None
      by None e = refl
      by (Some place) e =
          let at = place_from_position (λ (row : ℕ × Kept V). is_kept_idle row.1) chain place (sym (idle_place_same chain) ∙ e) in
          let item = some_at chain place at.within in
          absurd (cc (none ∙ ap (option_map (λ (row : ℕ × Kept V). row.0)) (at.found ∙ item.1)))

  -- the place of a class and key among the rows with their slots
  pub at_inside : (class key place : ℕ) (chain : List (ℕ × Kept V)) (rows : List (Kept V)) → plain_rows chain ≡ rows → position (is_kept class key) rows ≡ Some place → position (is_kept class key) (plain_rows chain) ≡ Some place
  at_inside class key place chain rows shows at = ap (position (is_kept class key)) shows ∙ at

  -- the row of a class and key went
  pub removed_found : (class key slot place : ℕ) (entries entries' : List (Name × ℕ)) (chain new : List (ℕ × Kept V)) → IsIndexed entries (named chain) → StandsAt slot place chain
      → position (is_kept class key) (plain_rows chain) ≡ Some place
      → ((other : Name) → lookup (is_name other) entries' ≡ cond (is_name (record { class = class; key = key }) other) None (lookup (is_name other) entries))
      → new ≡ remove chain place → Removed entries' chain new place
  removed_found class key slot place entries entries' chain new indexed stands at updates made =
      let there = found_at class key place chain at in
      removed entries entries' chain new slot place (record { class = class; key = key }) indexed stands
      (ap (option_map (λ (row : ℕ × Kept V). row.1.row.class)) there.at ∙ ap Some there.class_is)
      (ap (option_map (λ (row : ℕ × Kept V). row.1.row.key)) there.at ∙ ap Some there.key_is) updates made
