-- The keys under which a cache keeps what it has of a scene, and the numbers of the scene's nodes.
use Rattle.std.specs.Prelude.{◌≡◌, ℕ, ◌+◌, ◌*◌, ◌<◌, ◌^◌, ℤ, pos, ◌+ℤ◌, List, [], ◌∷◌, ◌++◌, take, unsigned_abs}
use Rattle.std.specs.Int.{bytes_high_first, to_be_bytes, from_be_bytes, w32, w64, w128}
use Rattle.std.specs.Int.RustNames.{FitsSigned}
use Rattle.project_model.specs.Form.{IsFormed, plain_layer_count}
use Rattle.project_model.specs.declared.node.NodeId.{NodeId}
use Rattle.project_model.specs.declared.node.NodeId.TheVariants.{Source, Fx, Stack}
use Rattle.project_model.specs.declared.plain.PlainProject.{PlainProject}
use Rattle.scene_meaning.specs.Nodes.{HasNode, IsOfLayer}

-- ---- keys

-- what a key spells: a class, the number of a node, the number of an ask, and a tick
pub record IsSpelled (class node ask : ℕ) (t : ℤ) : Type 0 where
  pub class_fits : class < 2 ^ 8
  pub node_fits : node < 2 ^ 32
  pub ask_fits : ask < 2 ^ 24
  pub tick_fits : FitsSigned w64 t

-- the 16 bytes of a key, of each part the higher ones first: one for the class, four for the node, three for the ask, and eight for the
-- tick with 2^63 added
abbrev pub key_bytes : ℕ → ℕ → ℕ → ℤ → List ℕ
key_bytes class node ask t =
    class ∷ [] ++ to_be_bytes w32 node ++ bytes_high_first 3 ask ++ to_be_bytes w64 (unsigned_abs (t +ℤ pos (2 ^ 63)))

-- the number with these bytes
abbrev pub key_in : ℕ → ℕ → ℕ → ℤ → ℕ
key_in class node ask t = from_be_bytes w128 (key_bytes class node ask t)

-- different parts have different keys
abbrev pub KeysDiffer : Type 0
KeysDiffer =
    (class node ask other_class other_node other_ask : ℕ) (t u : ℤ)
    → IsSpelled class node ask t → IsSpelled other_class other_node other_ask u
    → key_in class node ask t ≡ key_in other_class other_node other_ask u
    → (class ≡ other_class) × (node ≡ other_node) × (ask ≡ other_ask) × (t ≡ u)

-- the bytes of the key of class 1, node 9, ask 0 and tick 1001
abbrev pub KeyIsSpelled : Type 0
KeyIsSpelled = to_be_bytes w128 (key_in 1 9 0 (pos 1001)) ≡ 1 ∷ 0 ∷ 0 ∷ 0 ∷ 9 ∷ 0 ∷ 0 ∷ 0 ∷ 128 ∷ 0 ∷ 0 ∷ 0 ∷ 0 ∷ 0 ∷ 3 ∷ 233 ∷ []

-- ---- numbers of nodes

-- the number of a layer, where those of all compositions are counted in order
abbrev pub layer_number : PlainProject → ℕ → ℕ → ℕ
layer_number project comp layer = plain_layer_count (take comp project.comps) + layer

-- The number of a node: nine for each layer, the first of which is its source's, and the others those of its effects, which are at
-- most eight. A stack has none.
abbrev pub node_number : PlainProject → NodeId → ℕ
node_number project (Source comp layer) = 9 * layer_number project comp layer
node_number project (Fx comp layer index) = 9 * layer_number project comp layer + (index + 1)
node_number project (Stack comp) = 0

-- different nodes of a project have different numbers
abbrev pub NodeNumbersDiffer : Type 0
NodeNumbersDiffer =
    (project : PlainProject) (node other : NodeId)
    → IsFormed project → HasNode project node → IsOfLayer node → HasNode project other → IsOfLayer other
    → node_number project node ≡ node_number project other → node ≡ other
