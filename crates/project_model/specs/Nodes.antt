-- The nodes of a project, what each is drawn from, and their ranks.
use Rattle.std.specs.Prelude.{◌≡◌, ℕ, zero, suc, ◌+◌, ◌<◌, List, [], ◌∷◌, length, map, Option, Some, None, slice_get, slice_index_or}
use Rattle.std.specs.Option.{option_map_or}
use Rattle.project_model.specs.Nesting.{layers_in, nested_of, IsAcyclic, source_rank, fx_ranks, rank_over, stack_rank, RankTable, ranks_of}
use Rattle.project_model.specs.declared.node.NodeId.{NodeId}
use Rattle.project_model.specs.declared.node.NodeId.TheVariants.{Source, Fx, Stack}
use Rattle.project_model.specs.declared.plain.PlainFx.{PlainFx}
use Rattle.project_model.specs.declared.plain.PlainLayer.{PlainLayer}
use Rattle.project_model.specs.declared.plain.PlainProject.{PlainProject}

-- ---- what a node is drawn from

-- the node behind so many effects of a layer: its source, or the last of them
abbrev pub node_behind : ℕ → ℕ → ℕ → NodeId
node_behind comp layer zero = Source comp layer
node_behind comp layer (suc before) = Fx comp layer before

-- the last nodes of these layers, where they are counted from this index
abbrev pub last_nodes : ℕ → ℕ → List PlainLayer → List NodeId
last_nodes comp at [] = []
last_nodes comp at (layer ∷ rest) = node_behind comp at (length layer.effects) ∷ last_nodes comp (at + 1) rest

-- the layer of these indices
abbrev pub layer_at : PlainProject → ℕ → ℕ → Option PlainLayer
layer_at project comp layer = slice_get (layers_in project comp) layer

-- the effect of these indices
abbrev pub fx_at : PlainProject → ℕ → ℕ → ℕ → Option PlainFx
fx_at project comp layer index = option_map_or (λ here. slice_get here.effects index) (layer_at project comp layer) None

-- The source of a nested composition is drawn from its stack; an effect from its input and from the sources of the layers
-- that it names; a stack from the last nodes of its layers. Layers may be named that are not there, which rule 38 refuses.
abbrev pub drawn_from : PlainProject → NodeId → List NodeId
drawn_from project (Source comp layer) =
    option_map_or (λ here. map Stack (nested_of here.source)) (layer_at project comp layer) []
drawn_from project (Fx comp layer index) =
    option_map_or (λ fx. node_behind comp layer index ∷ map (Source comp) fx.layers) (fx_at project comp layer index) []
drawn_from project (Stack comp) = last_nodes comp 0 (layers_in project comp)

-- ---- ranks

-- the rank of a node of the project, 0 where it is not there
abbrev pub rank_of : PlainProject → NodeId → ℕ
rank_of project (Source comp layer) =
    option_map_or (λ here. source_rank (stack_rank project) here.source) (layer_at project comp layer) 0
rank_of project (Fx comp layer index) =
    option_map_or (λ here. slice_index_or (fx_ranks (stack_rank project) (layers_in project comp) (source_rank (stack_rank project) here.source) here.effects) index 0) (layer_at project comp layer) 0
rank_of project (Stack comp) = option_map_or (λ here. stack_rank project comp) (slice_get project.comps comp) 0

-- Where no composition reaches itself, the ranks of stacks are those over the ranks of what is nested, and the rank of each
-- node is above those of all that it is drawn from.
pub record RanksAreAbove : Type 0 where
  pub stacks : (project : PlainProject) (index : ℕ) → IsAcyclic project → stack_rank project index ≡ rank_over (stack_rank project) (layers_in project index)
  pub nodes : (project : PlainProject) (node other : NodeId) (i : ℕ) → IsAcyclic project → slice_get (drawn_from project node) i ≡ Some other → rank_of project other < rank_of project node

-- the rank that the table has of the node behind so many effects of a layer, 0 where it is not there
abbrev pub node_rank_in : RankTable → ℕ → ℕ → ℕ → ℕ
node_rank_in ranks comp layer before = slice_index_or (slice_index_or (slice_index_or ranks.nodes comp []) layer []) before 0

-- what the table says of a node, 0 where it is not there
abbrev pub rank_in : RankTable → NodeId → ℕ
rank_in ranks (Source comp layer) = node_rank_in ranks comp layer 0
rank_in ranks (Fx comp layer index) = node_rank_in ranks comp layer (suc index)
rank_in ranks (Stack comp) = slice_index_or ranks.stacks comp 0

-- the table of a project has the ranks of its nodes
abbrev pub TableHasRanks : Type 0
TableHasRanks = (project : PlainProject) (node : NodeId) → rank_in (ranks_of project) node ≡ rank_of project node
