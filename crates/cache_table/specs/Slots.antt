-- How rows are kept: each in a slot of a slab, linked to the row before and to the row after. A map finds their slots.
use Rattle.std.specs.Prelude.{ℕ, zero, suc, ◌≡◌, ◌≢◌, ◌&&◌, Bool, List, [], ◌∷◌, ◌++◌, length, Option, Some, None, map, nat_eq, option_map, slice_get, slice_set, remove, ⊤}
use Rattle.std.specs.List.{AllByRecursion}
use Rattle.std.specs.Option.{option_map_or}
use Rattle.std.specs.Map.{lookup}
use Rattle.slab.specs.Slab.{Slab, get, slab_len}
use Rattle.cache_core.specs.Rows.{row_in}
use Rattle.cache_core.specs.declared.row.State.{State}
use Rattle.cache_core.specs.declared.row.State.TheVariants.{Running as IsRunning, Live as IsLive}
use Rattle.cache_table.specs.Kept.{Kept}
use Rattle.cache_table.specs.declared.chain.Name.{Name}
use Rattle.cache_table.specs.declared.chain.Link.{Link}
use Rattle.cache_table.specs.declared.phase.Phase.{Phase}
use Rattle.cache_table.specs.declared.phase.Phase.TheVariants.{Running, Live}

-- the first of these slots, or else the other
abbrev pub first_in : List ℕ → Option ℕ → Option ℕ
first_in [] other = other
first_in (slot ∷ order) other = Some slot

-- the last of these slots, or else the other
abbrev pub last_in : List ℕ → Option ℕ → Option ℕ
last_in [] other = other
last_in (slot ∷ order) other = last_in order (Some slot)

-- none of these slots is this one
abbrev pub IsFree : ℕ → List ℕ → Type 0
IsFree slot order = AllByRecursion (λ other. other ≢ slot) order

-- each of these slots is linked to the one before and to the one after, and none comes twice. The first comes after
-- `before`, and the last before `after`
abbrev pub IsChain : (ℕ → Option (Option ℕ × Option ℕ)) → Option ℕ → List ℕ → Option ℕ → Type 0
IsChain links before [] after = ⊤
IsChain links before (slot ∷ order) after = (links slot ≡ Some (before, first_in order after)) × IsFree slot order × IsChain links (Some slot) order after

-- the item at a place is changed
abbrev pub changed_item : {X : Type 0} → (X → X) → ℕ → List X → List X
changed_item change place items = option_map_or (λ item. slice_set items place (change item)) (slice_get items place) items

-- the item at a place goes last
abbrev pub last_item : {X : Type 0} → ℕ → List X → List X
last_item place items = option_map_or (λ item. remove items place ++ item ∷ []) (slice_get items place) items

module _ {V : Type 0} where
  -- the state that a phase stands for
  abbrev pub state_in : Phase V → State
  state_in (Running turn) = IsRunning turn.owner
  state_in (Live serial size holders value) = IsLive serial size holders

  -- the value of a phase
  abbrev pub value_in : Phase V → Option V
  value_in (Running turn) = None
  value_in (Live serial size holders value) = Some value.value

  -- the row of a class and key in this phase
  abbrev pub kept_in : Name → Phase V → Kept V
  kept_in name phase = record { row = row_in name.class name.key (state_in phase); value = value_in phase }

  -- the row in a slot. There is one, by `IsLinked`
  abbrev pub kept_at : Option (Link V) → Kept V
  kept_at None = record { row = row_in 0 0 (IsRunning 0); value = None }
  kept_at (Some link) = kept_in link.name link.phase

  -- the slots before and after that of a row
  abbrev pub links_at : Option (Link V) → Option (Option ℕ × Option ℕ)
  links_at None = None
  links_at (Some link) = Some (link.before, link.after)

  -- the links of a slab
  abbrev pub links_of : Slab (Link V) → ℕ → Option (Option ℕ × Option ℕ)
  links_of slots slot = links_at (get slots slot)

  -- the slot after that of a row
  abbrev pub after_at : Option (Link V) → Option ℕ
  after_at None = None
  after_at (Some link) = link.after

  -- so many slots, from this one on, each the one after the last
  abbrev pub walk : ℕ → Slab (Link V) → Option ℕ → List ℕ
  walk zero slots slot = []
  walk (suc count) slots None = []
  walk (suc count) slots (Some slot) = slot ∷ walk count slots (after_at (get slots slot))

  -- the slots in the order of the links
  abbrev pub order_of : Slab (Link V) → Option ℕ → List ℕ
  order_of slots first = walk (slab_len slots) slots first

  -- the rows in these slots, each with its slot
  abbrev pub chained : Slab (Link V) → List ℕ → List (ℕ × Kept V)
  chained slots order = map (λ slot. (slot, kept_at (get slots slot))) order

  -- these slots are a chain from the first to the last, which goes once through each slot that has a row
  pub record IsLinked (slots : Slab (Link V)) (first last : Option ℕ) (order : List ℕ) : Type 0 where
    pub first_is : first ≡ first_in order None
    pub last_is : last ≡ last_in order None
    pub chain : IsChain (links_of slots) None order None
    pub all : slab_len slots ≡ length order

  -- the links in one slot are changed, or in none
  pub record Relinks (old new : Slab (Link V)) (slot : Option ℕ) (change : Option ℕ × Option ℕ → Option ℕ × Option ℕ) : Type 0 where
    pub here : (s : ℕ) → slot ≡ Some s → links_of new s ≡ option_map change (links_of old s)
    pub others : (s : ℕ) → slot ≢ Some s → links_of new s ≡ links_of old s
    pub rows : (s : ℕ) → kept_at (get new s) ≡ kept_at (get old s)
    pub len : slab_len new ≡ slab_len old

  -- the row with this slot stands at the place
  abbrev pub StandsAt : ℕ → ℕ → List (ℕ × Kept V) → Type 0
  StandsAt slot place rows = option_map (λ row. row.0) (slice_get rows place) ≡ Some slot

  -- a change of a row that leaves its slot
  abbrev pub on_kept : (Kept V → Kept V) → ℕ × Kept V → ℕ × Kept V
  on_kept change row = (row.0, change row.1)

  -- the rows without their slots
  abbrev pub plain_rows : List (ℕ × Kept V) → List (Kept V)
  plain_rows rows = map (λ row. row.1) rows

  -- the class and key of a row, with its slot
  abbrev pub name_in : ℕ × Kept V → Name × ℕ
  name_in row = (record { class = row.1.row.class; key = row.1.row.key }, row.0)

  -- the class and key of each row, with its slot
  abbrev pub named : List (ℕ × Kept V) → List (Name × ℕ)
  named rows = map name_in rows

-- the end of a chain, once `next` is what it has beside `slot`
abbrev pub end_beside : Option ℕ → Option ℕ → Option ℕ → Option ℕ
end_beside None next end = next
end_beside (Some slot) next end = end

-- a class and key are these
abbrev pub is_name : Name → Name → Bool
is_name name other = nat_eq name.class other.class && nat_eq name.key other.key

-- no class and key come twice
abbrev pub AreNamedOnce : List (Name × ℕ) → Type 0
AreNamedOnce [] = ⊤
AreNamedOnce (entry ∷ entries) = (lookup (is_name entry.0) entries ≡ None) × AreNamedOnce entries

-- the entries of a map have the slot of each class and key, and none comes twice
pub record IsIndexed (entries rows : List (Name × ℕ)) : Type 0 where
  pub finds : (name : Name) → lookup (is_name name) entries ≡ lookup (is_name name) rows
  pub once : AreNamedOnce rows
