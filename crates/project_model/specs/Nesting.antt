-- Compositions that nest others, and the ranks of what is drawn.
use Rattle.std.specs.Prelude.{◌≡◌, ◌↔◌, ℕ, zero, suc, ◌+◌, ◌==◌, ◌||◌, max, Bool, false, IsTrue, List, [], ◌∷◌, length, map, fold, slice_get}
use Rattle.std.specs.List.{list_any, range_with_len}
use Rattle.std.specs.Option.{option_map_or}
use Rattle.project_model.specs.declared.item.Item.{Item}
use Rattle.project_model.specs.declared.item.Item.TheVariants.{Solid, Clip, Comp}
use Rattle.project_model.specs.declared.plain.PlainFx.{PlainFx}
use Rattle.project_model.specs.declared.plain.PlainLayer.{PlainLayer}
use Rattle.project_model.specs.declared.plain.PlainProject.{PlainProject}

-- the layers of the composition of this index
abbrev pub layers_in : PlainProject → ℕ → List PlainLayer
layers_in project index = option_map_or (λ comp. comp.layers) (slice_get project.comps index) []

-- the compositions that an item nests
abbrev pub nested_of : Item → List ℕ
nested_of (Solid width height a r g b) = []
nested_of (Clip index) = []
nested_of (Comp index) = index ∷ []

-- the composition nests the other in one of its layers
abbrev pub nests : PlainProject → ℕ → ℕ → Bool
nests project index other = list_any (λ layer. list_any (λ nested. nested == other) (nested_of layer.source)) (layers_in project index)

-- the item nests the other composition, or one that leads to it
abbrev pub nests_or_leads : (ℕ → Bool) → ℕ → Item → Bool
nests_or_leads leads other source = list_any (λ nested. (nested == other) || leads nested) (nested_of source)

-- one of the layers does
abbrev pub lead_to : (ℕ → Bool) → ℕ → List PlainLayer → Bool
lead_to leads other layers = list_any (λ layer. nests_or_leads leads other layer.source) layers

-- the one composition reaches the other through those that are nested, in at most so many steps
abbrev pub reaches_in : ℕ → PlainProject → ℕ → ℕ → Bool
reaches_in zero project index other = false
reaches_in (suc steps) project index other = lead_to (λ nested. reaches_in steps project nested other) other (layers_in project index)

-- as many steps as there are compositions are enough
abbrev pub reaches : PlainProject → ℕ → ℕ → Bool
reaches project index other = reaches_in (length project.comps) project index other

-- each of these compositions nests the next one, and the last nests the other
abbrev pub IsPath : PlainProject → ℕ → List ℕ → ℕ → Type 0
IsPath project index [] other = IsTrue (nests project index other)
IsPath project index (next ∷ rest) other = IsTrue (nests project index next) × IsPath project next rest other

-- one composition reaches another exactly where there is a path
abbrev pub PathsAreFound : Type 0
PathsAreFound =
    (project : PlainProject) (index other : ℕ)
    → (IsTrue (reaches project index other)) ↔ ((path : List ℕ) × IsPath project index path other)

-- no composition reaches itself
abbrev pub IsAcyclic : PlainProject → Type 0
IsAcyclic project = (index : ℕ) → reaches project index index ≡ false

-- ---- ranks

-- the rank of a source, where each stack has this rank
abbrev pub source_rank : (ℕ → ℕ) → Item → ℕ
source_rank stack (Solid width height a r g b) = 0
source_rank stack (Clip index) = 0
source_rank stack (Comp index) = 1 + stack index

-- the rank of the source of the layer of this index, 0 where there is none
abbrev pub source_rank_at : (ℕ → ℕ) → List PlainLayer → ℕ → ℕ
source_rank_at stack layers index = option_map_or (λ layer. source_rank stack layer.source) (slice_get layers index) 0

-- the rank of an effect among these layers: it is drawn from its input, which has this rank, and from the sources of the layers that it names
abbrev pub fx_rank : (ℕ → ℕ) → List PlainLayer → ℕ → PlainFx → ℕ
fx_rank stack layers input fx = 1 + fold (λ greatest index. max greatest (source_rank_at stack layers index)) input fx.layers

-- the ranks of effects, where this is that of the first one's input, and each is the input of the next
abbrev pub fx_ranks : (ℕ → ℕ) → List PlainLayer → ℕ → List PlainFx → List ℕ
fx_ranks stack layers input [] = []
fx_ranks stack layers input (fx ∷ rest) =
    fx_rank stack layers input fx ∷ fx_ranks stack layers (fx_rank stack layers input fx) rest

-- the ranks of a layer's nodes: that of its source, and then of its effects
abbrev pub layer_ranks : (ℕ → ℕ) → List PlainLayer → PlainLayer → List ℕ
layer_ranks stack layers layer =
    source_rank stack layer.source ∷ fx_ranks stack layers (source_rank stack layer.source) layer.effects

-- the rank of the last of them
abbrev pub last_rank : (ℕ → ℕ) → List PlainLayer → PlainLayer → ℕ
last_rank stack layers layer = fold (fx_rank stack layers) (source_rank stack layer.source) layer.effects

-- the rank of the stack of these layers, where each stack has this rank
abbrev pub rank_over : (ℕ → ℕ) → List PlainLayer → ℕ
rank_over stack layers = 1 + fold (λ greatest layer. max greatest (last_rank stack layers layer)) 0 layers

-- the rank of the stack of a composition, in so many turns: each nested composition takes one; without turns it has no layers
abbrev pub stack_rank_in : ℕ → PlainProject → ℕ → ℕ
stack_rank_in zero project index = 1
stack_rank_in (suc turns) project index = rank_over (stack_rank_in turns project) (layers_in project index)

-- as many turns as there are compositions are enough
abbrev pub stack_rank : PlainProject → ℕ → ℕ
stack_rank project index = stack_rank_in (length project.comps) project index

-- the ranks of the stacks, and of the nodes of each layer of each composition: its source's and then its effects'
pub record RankTable : Type 0 where
  pub stacks : List ℕ
  pub nodes : List (List (List ℕ))

-- those of a project
abbrev pub ranks_of : PlainProject → RankTable
ranks_of project = record {
  stacks = map (stack_rank project) (range_with_len 0 (length project.comps));
  nodes = map (λ comp. map (layer_ranks (stack_rank project) comp.layers) comp.layers) project.comps;
}
