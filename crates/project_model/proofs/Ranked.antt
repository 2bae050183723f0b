-- Ranks, and what the tables of them say.
use Rattle.std.proofs.Common.{◌≡◌, ℕ, zero, suc, ◌+◌, ◌-◌, ◌*◌, ◌<◌, ◌≤◌, ◌^◌, Bool, true, false, List, [], ◌∷◌, length, map, max, inl, inr, refl, sym, ◌∙◌, subst, ap, arith}
use Rattle.std.specs.Prelude.{Option, Some, None, nat_lt, ◌||◌, option_map, slice_get, slice_index_or}
use Rattle.std.specs.List.{All, fold, list_any, range_with_len}
use Rattle.std.specs.Option.{option_map_or}
use Rattle.std.proofs.Math.Nat.{le_trans, le-max_left, le-max_right, max-le}
use Rattle.std.proofs.lemmas.Bool.{cases_lt, lt-ltb, le-ltb}
use Rattle.std.proofs.lemmas.Grind.{same_number_lists}
use Rattle.std.proofs.lemmas.List.{get_or_past}
use Rattle.std.proofs.lemmas.List.Elements.{All-nil, All-head, All-tail}
use Rattle.std.proofs.lemmas.List.FromFn.{get_or-map-range_with_len, length-map-range_with_len}
use Rattle.std.proofs.lemmas.Option.{slice_get-map, slice_get_past}
use Rattle.project_model.specs.Bounds.{most_effects}
use Rattle.project_model.specs.Form.{IsFormed}
use Rattle.project_model.specs.Nesting.{layers_in, nested_of, lead_to, reaches_in, reaches, IsAcyclic, source_rank, source_rank_at, fx_rank, fx_ranks, layer_ranks, last_rank, rank_over, stack_rank_in, stack_rank, RankTable, ranks_of}
use Rattle.project_model.specs.Nodes.{node_behind, last_nodes, layer_at, drawn_from, rank_of, RanksAreAbove, node_rank_in, TableHasRanks}
use Rattle.project_model.specs.declared.item.Item.{Item}
use Rattle.project_model.specs.declared.item.Item.TheVariants.{Solid, Clip, Comp}
use Rattle.project_model.specs.declared.node.NodeId.{NodeId}
use Rattle.project_model.specs.declared.node.NodeId.TheVariants.{Source, Fx, Stack}
use Rattle.project_model.specs.declared.plain.PlainFx.{PlainFx}
use Rattle.project_model.specs.declared.plain.PlainLayer.{PlainLayer}
use Rattle.project_model.specs.declared.plain.PlainComp.{PlainComp}
use Rattle.project_model.specs.declared.plain.PlainProject.{PlainProject}
use Rattle.project_model.proofs.Nesting.{AgreeFor, AgreeOver, IsStep, turns_fixed}

-- ---- ranks are had in as many turns as there are compositions

source_same : (f g : ℕ → ℕ) (item : Item) → AgreeFor f g item → source_rank f item ≡ source_rank g item
source_same f g (Solid width height a r g' b) e = refl
source_same f g (Clip index) e = refl
source_same f g (Comp index) e = ap (λ (n : ℕ). 1 + n) e

-- so are those of the sources of all layers, and of their last nodes
at_same : (f g : ℕ → ℕ) (layers : List PlainLayer) (i : ℕ) → AgreeOver f g layers → source_rank_at f layers i ≡ source_rank_at g layers i
at_same f g [] i e = refl
at_same f g (layer ∷ layers) zero e = source_same f g layer.source e.0
at_same f g (layer ∷ layers) (suc i) e = at_same f g layers i e.1

last_same : (f g : ℕ → ℕ) (all : List PlainLayer) (layer : PlainLayer) → AgreeOver f g all → AgreeFor f g layer.source → last_rank f all layer ≡ last_rank g all layer
last_same f g all layer over here =
    ap (λ (n : ℕ). fold (fx_rank f all) n layer.effects) (source_same f g layer.source here)
    ∙ ap (λ (at : ℕ → ℕ). fold (λ (input : ℕ) (fx : PlainFx). 1 + fold (λ (top i : ℕ). max top (at i)) input fx.layers) (source_rank g layer.source) layer.effects)
    (λ j i. at_same f g all i over j)

fold_same : (f g : ℕ → ℕ) (all : List PlainLayer) → AgreeOver f g all → (greatest : ℕ) (layers : List PlainLayer) → AgreeOver f g layers → fold (λ greatest layer. max greatest (last_rank f all layer)) greatest layers ≡ fold (λ greatest layer. max greatest (last_rank g all layer)) greatest layers
fold_same f g all over greatest [] e = refl
fold_same f g all over greatest (layer ∷ layers) e =
    fold_same f g all over (max greatest (last_rank f all layer)) layers e.1
    ∙ ap (λ (n : ℕ). fold (λ (top : ℕ) (l : PlainLayer). max top (last_rank g all l)) (max greatest n) layers) (last_same f g all layer over e.0)

over_same : (f g : ℕ → ℕ) (layers : List PlainLayer) → AgreeOver f g layers → rank_over f layers ≡ rank_over g layers
over_same f g layers e = ap (λ (n : ℕ). 1 + n) (fold_same f g layers e 0 layers e)

pub layers_absent : (project : PlainProject) (i : ℕ) → length project.comps ≤ i → layers_in project i ≡ []
layers_absent project i out = ap (λ (o : Option PlainComp). option_map_or (λ comp. comp.layers) o []) (slice_get_past project.comps i out)

pub layers_of_comp : (project : PlainProject) (i : ℕ) (comp : PlainComp) → slice_get project.comps i ≡ Some comp → layers_in project i ≡ comp.layers
layers_of_comp project i comp e = ap (λ (o : Option PlainComp). option_map_or (λ c. c.layers) o []) e

rank_step : (project : PlainProject) → IsStep project 1 (λ (f : ℕ → ℕ) (i : ℕ). rank_over f (layers_in project i))
rank_step project = record {
  local = λ f g i e. over_same f g (layers_in project i) e;
  absent = λ f i out. ap (rank_over f) (layers_absent project i out);
}

rank_fixed : (project : PlainProject) → IsAcyclic project → (i : ℕ) → stack_rank project i ≡ rank_over (stack_rank project) (layers_in project i)
rank_fixed project acyclic i =
    turns_fixed project 1 (λ (f : ℕ → ℕ) (j : ℕ). rank_over f (layers_in project j)) (λ (n j : ℕ). stack_rank_in n project j) (rank_step project)
    (record { first = λ j. refl; next = λ n j. refl }) acyclic i

-- ---- the greatest of numbers

pub fold_from : {A : Type 0} (rank : A → ℕ) (greatest : ℕ) (list : List A) → greatest ≤ fold (λ top a. max top (rank a)) greatest list
fold_from rank greatest [] = omega arith
fold_from rank greatest (a ∷ list) = le_trans (le-max_left greatest (rank a)) (fold_from rank (max greatest (rank a)) list)

pub fold_above : {A : Type 0} (rank : A → ℕ) (greatest : ℕ) (list : List A) (i : ℕ) (a : A) → slice_get list i ≡ Some a → rank a ≤ fold (λ top x. max top (rank x)) greatest list
fold_above rank greatest [] i a e = cc
fold_above {A} rank greatest (first ∷ list) zero a e =
    let same : first ≡ a = cc in
    subst (λ (x : A). rank x ≤ fold (λ top y. max top (rank y)) (max greatest (rank first)) list) same
    (le_trans (le-max_right greatest (rank first)) (fold_from rank (max greatest (rank first)) list))
fold_above rank greatest (first ∷ list) (suc i) a e = fold_above rank (max greatest (rank first)) list i a e

pub fold_small : {A : Type 0} (rank : A → ℕ) (most greatest : ℕ) (list : List A) → greatest ≤ most → All (λ a. rank a ≤ most) list → fold (λ top a. max top (rank a)) greatest list ≤ most
fold_small rank most greatest [] few all = few
fold_small rank most greatest (a ∷ list) few all =
    fold_small rank most (max greatest (rank a)) list (max-le few (All-head (λ x. rank x ≤ most) a list all)) (All-tail (λ x. rank x ≤ most) a list all)

-- ---- an effect is above what it is drawn from

input_below : (f : ℕ → ℕ) (layers : List PlainLayer) (input : ℕ) (fx : PlainFx) → input < fx_rank f layers input fx
input_below f layers input fx = let from = fold_from (source_rank_at f layers) input fx.layers in omega (arith, from)

-- the last effect is no less than the input of the first
pub last_from : (f : ℕ → ℕ) (layers : List PlainLayer) (input : ℕ) (effects : List PlainFx) → input ≤ fold (fx_rank f layers) input effects
last_from f layers input [] = omega arith
last_from f layers input (fx ∷ effects) =
    let rest = last_from f layers (fx_rank f layers input fx) effects in
    omega (arith, rest, input_below f layers input fx)

-- the last of a layer's ranks
last_listed : (f : ℕ → ℕ) (layers : List PlainLayer) (input : ℕ) (effects : List PlainFx) → slice_index_or (input ∷ fx_ranks f layers input effects) (length effects) 0 ≡ fold (fx_rank f layers) input effects
last_listed f layers input [] = refl
last_listed f layers input (fx ∷ effects) = last_listed f layers (fx_rank f layers input fx) effects

-- each rank is that of its effect over the one before
fx_listed : (f : ℕ → ℕ) (layers : List PlainLayer) (input : ℕ) (effects : List PlainFx) (i : ℕ) (fx : PlainFx) → slice_get effects i ≡ Some fx → slice_index_or (fx_ranks f layers input effects) i 0 ≡ fx_rank f layers (slice_index_or (input ∷ fx_ranks f layers input effects) i 0) fx
fx_listed f layers input [] i fx e = cc
fx_listed f layers input (first ∷ effects) zero fx e =
    let same : first ≡ fx = cc in ap (fx_rank f layers input) same
fx_listed f layers input (first ∷ effects) (suc i) fx e = fx_listed f layers (fx_rank f layers input first) effects i fx e

-- one of a layer's ranks is above a bound exactly where the last is
absorbed : (m a b : ℕ) → a ≤ b → (nat_lt m a || nat_lt m b) ≡ nat_lt m b
absorbed m a b le =
    elim (cases_lt m a) [
      | inl less ↦ let more : m < b = omega (arith, le, less) in rw (lt-ltb m a less, lt-ltb m b more) refl
      | inr least ↦ rw (le-ltb m a least) refl
    ]

pub any_above : (m : ℕ) (f : ℕ → ℕ) (layers : List PlainLayer) (input : ℕ) (effects : List PlainFx) → list_any (nat_lt m) (input ∷ fx_ranks f layers input effects) ≡ nat_lt m (fold (fx_rank f layers) input effects)
any_above m f layers input [] = alone (nat_lt m input)
  where
    alone : (b : Bool) → (b || false) ≡ b
    alone true = refl
    alone false = refl
any_above m f layers input (fx ∷ effects) =
    ap (λ (b : Bool). nat_lt m input || b) (any_above m f layers (fx_rank f layers input fx) effects)
    ∙ absorbed m input (fold (fx_rank f layers) input (fx ∷ effects)) (last_from f layers input (fx ∷ effects))

-- ---- each node is above those that it is drawn from

-- the ranks of a layer's nodes, by how many effects stand before them
behind_rank : (project : PlainProject) (comp layer before : ℕ) (here : PlainLayer) → layer_at project comp layer ≡ Some here → rank_of project (node_behind comp layer before) ≡ slice_index_or (layer_ranks (stack_rank project) (layers_in project comp) here) before 0
behind_rank project comp layer zero here e =
    ap (λ (o : Option PlainLayer). option_map_or (λ (l : PlainLayer). source_rank (stack_rank project) l.source) o 0) e
behind_rank project comp layer (suc before) here e =
    ap (λ (o : Option PlainLayer). option_map_or (λ (l : PlainLayer). slice_index_or (fx_ranks (stack_rank project) (layers_in project comp) (source_rank (stack_rank project) l.source) l.effects) before 0) o 0) e

stack_at_most : (project : PlainProject) (k : ℕ) → rank_of project (Stack k) ≤ stack_rank project k
stack_at_most project k = by (slice_get project.comps k)
  where
    by : (o : Option PlainComp) → option_map_or (λ here. stack_rank project k) o 0 ≤ stack_rank project k
    by None = omega arith
    by (Some comp) = omega arith

one_stack : (k i : ℕ) (other : NodeId) → slice_get (Stack k ∷ []) i ≡ Some other → other ≡ Stack k
one_stack k zero other e = cc
one_stack k (suc i) other e = cc

source_above : (project : PlainProject) (item : Item) (i : ℕ) (other : NodeId) → slice_get (map Stack (nested_of item)) i ≡ Some other → rank_of project other < source_rank (stack_rank project) item
source_above project (Solid width height a r g b) i other e = cc
source_above project (Clip index) i other e = cc
source_above project (Comp k) i other e =
    let most = stack_at_most project k in
    let same = ap (rank_of project) (one_stack k i other e) in
    omega (arith, most, same)

source_nodes : (project : PlainProject) (comp layer i : ℕ) (other : NodeId) (o : Option PlainLayer) → layer_at project comp layer ≡ o → slice_get (option_map_or (λ here. map Stack (nested_of here.source)) o []) i ≡ Some other → rank_of project other < rank_of project (Source comp layer)
source_nodes project comp layer i other None is e = cc
source_nodes project comp layer i other (Some here) is e =
    let below = source_above project here.source i other e in
    let same = behind_rank project comp layer 0 here is in
    omega (arith, below, same)

fx_nodes : (project : PlainProject) (comp layer index : ℕ) (here : PlainLayer) (fx : PlainFx) (i : ℕ) (other : NodeId) → layer_at project comp layer ≡ Some here → slice_get here.effects index ≡ Some fx → slice_get (node_behind comp layer index ∷ map (Source comp) fx.layers) i ≡ Some other → rank_of project other < rank_of project (Fx comp layer index)
fx_nodes project comp layer index here fx i other is found e = by i e
  where
    stack : ℕ → ℕ
    stack = stack_rank project

    layers : List PlainLayer
    layers = layers_in project comp

    input : ℕ
    input = slice_index_or (layer_ranks stack layers here) index 0

    rank : rank_of project (Fx comp layer index) ≡ fx_rank stack layers input fx
    rank = behind_rank project comp layer (suc index) here is ∙ fx_listed stack layers (source_rank stack here.source) here.effects index fx found

    named : (j : ℕ) (o : Option ℕ) → slice_get fx.layers j ≡ o → option_map (Source comp) o ≡ Some other → rank_of project other < rank_of project (Fx comp layer index)
    named j None at e' = cc
    named j (Some k) at e' =
        let same : Source comp k ≡ other = cc in
        let there : source_rank_at stack layers k ≡ rank_of project other = ap (rank_of project) same in
        let above = fold_above (source_rank_at stack layers) input fx.layers j k at in
        omega (arith, above, rank, there)

    by : (j : ℕ) → slice_get (node_behind comp layer index ∷ map (Source comp) fx.layers) j ≡ Some other → rank_of project other < rank_of project (Fx comp layer index)
    by zero e' =
        let same : node_behind comp layer index ≡ other = cc in
        let there : rank_of project other ≡ input = sym (ap (rank_of project) same) ∙ behind_rank project comp layer index here is in
        omega (arith, input_below stack layers input fx, rank, there)
    by (suc j) e' = named j (slice_get fx.layers j) refl (sym (slice_get-map (Source comp) fx.layers j) ∙ e')

fx_above : (project : PlainProject) (comp layer index i : ℕ) (other : NodeId) (o : Option PlainLayer) → layer_at project comp layer ≡ o → slice_get (option_map_or (λ fx. node_behind comp layer index ∷ map (Source comp) fx.layers) (option_map_or (λ here. slice_get here.effects index) o None) []) i ≡ Some other → rank_of project other < rank_of project (Fx comp layer index)
fx_above project comp layer index i other None is e = cc
fx_above project comp layer index i other (Some here) is e = by (slice_get here.effects index) refl e
  where
    by : (o : Option PlainFx) → slice_get here.effects index ≡ o → slice_get (option_map_or (λ fx. node_behind comp layer index ∷ map (Source comp) fx.layers) o []) i ≡ Some other → rank_of project other < rank_of project (Fx comp layer index)
    by None found e' = cc
    by (Some fx) found e' = fx_nodes project comp layer index here fx i other is found e'

record LastOf (comp at : ℕ) (layers : List PlainLayer) (i : ℕ) (other : NodeId) : Type 0 where
  pub layer : PlainLayer
  pub here : slice_get layers i ≡ Some layer
  pub node : other ≡ node_behind comp (at + i) (length layer.effects)

last_of : (comp at : ℕ) (layers : List PlainLayer) (i : ℕ) (other : NodeId) → slice_get (last_nodes comp at layers) i ≡ Some other → LastOf comp at layers i other
last_of comp at [] i other e = cc
last_of comp at (layer ∷ layers) zero other e =
    let same : node_behind comp at (length layer.effects) ≡ other = cc in
    let place : at ≡ at + 0 = omega arith in
    record { layer = layer; here = refl; node = sym same ∙ ap (λ (n : ℕ). node_behind comp n (length layer.effects)) place }
last_of comp at (layer ∷ layers) (suc i) other e =
    let rest = last_of comp (at + 1) layers i other e in
    let place : at + 1 + i ≡ at + suc i = omega arith in
    record { layer = rest.layer; here = rest.here; node = rest.node ∙ ap (λ (n : ℕ). node_behind comp n (length rest.layer.effects)) place }

-- the last node of each layer is below its composition
pub last_below : (project : PlainProject) (i : ℕ) (comp : PlainComp) (at : ℕ) (layer : PlainLayer) → IsAcyclic project → slice_get project.comps i ≡ Some comp → slice_get comp.layers at ≡ Some layer → last_rank (stack_rank project) comp.layers layer < stack_rank project i
last_below project i comp at layer acyclic there here =
    let fixed = rank_fixed project acyclic i in
    let over = ap (rank_over (stack_rank project)) (layers_of_comp project i comp there) in
    let above = fold_above (last_rank (stack_rank project) comp.layers) 0 comp.layers at layer here in
    omega (arith, fixed, over, above)

stack_above : (project : PlainProject) → IsAcyclic project → (comp i : ℕ) (other : NodeId) (o : Option PlainComp) → slice_get project.comps comp ≡ o → slice_get (last_nodes comp 0 (option_map_or (λ c. c.layers) o [])) i ≡ Some other → rank_of project other < rank_of project (Stack comp)
stack_above project acyclic comp i other None is e = cc
stack_above project acyclic comp i other (Some c) is e =
    let last = last_of comp 0 c.layers i other e in
    let layers = layers_of_comp project comp c is in
    let place : 0 + i ≡ i = omega arith in
    let at : layer_at project comp i ≡ Some last.layer = ap (λ (ls : List PlainLayer). slice_get ls i) layers ∙ last.here in
    let rank : rank_of project other ≡ last_rank (stack_rank project) c.layers last.layer =
    ap (rank_of project) (last.node ∙ ap (λ (n : ℕ). node_behind comp n (length last.layer.effects)) place)
    ∙ behind_rank project comp i (length last.layer.effects) last.layer at
    ∙ last_listed (stack_rank project) (layers_in project comp) (source_rank (stack_rank project) last.layer.source) last.layer.effects
    ∙ ap (λ (ls : List PlainLayer). last_rank (stack_rank project) ls last.layer) layers in
    let stack : rank_of project (Stack comp) ≡ stack_rank project comp = ap (λ (o : Option PlainComp). option_map_or (λ here. stack_rank project comp) o 0) is in
    let below = last_below project comp c i last.layer acyclic is last.here in
    omega (arith, below, rank, stack)

nodes_above : (project : PlainProject) (node other : NodeId) (i : ℕ) → IsAcyclic project → slice_get (drawn_from project node) i ≡ Some other → rank_of project other < rank_of project node
nodes_above project (Source comp layer) other i acyclic e = source_nodes project comp layer i other (layer_at project comp layer) refl e
nodes_above project (Fx comp layer index) other i acyclic e = fx_above project comp layer index i other (layer_at project comp layer) refl e
nodes_above project (Stack comp) other i acyclic e = stack_above project acyclic comp i other (slice_get project.comps comp) refl e

pub ranks_above : RanksAreAbove
ranks_above = record { stacks = λ project index acyclic. rank_fixed project acyclic index; nodes = nodes_above }

-- the source of each layer of a composition is below the composition
pub source_below : (project : PlainProject) (i : ℕ) (comp : PlainComp) (at : ℕ) (layer : PlainLayer) → IsAcyclic project → slice_get project.comps i ≡ Some comp → slice_get comp.layers at ≡ Some layer → source_rank (stack_rank project) layer.source < stack_rank project i
source_below project i comp at layer acyclic there here =
    let below = last_below project i comp at layer acyclic there here in
    let first = last_from (stack_rank project) comp.layers (source_rank (stack_rank project) layer.source) layer.effects in
    omega (arith, below, first)

-- so is a composition that it nests
pub nested_below : (project : PlainProject) (i : ℕ) (comp : PlainComp) (at : ℕ) (layer : PlainLayer) (k : ℕ) → IsAcyclic project → slice_get project.comps i ≡ Some comp → slice_get comp.layers at ≡ Some layer → layer.source ≡ Comp k → stack_rank project k < stack_rank project i
nested_below project i comp at layer k acyclic there here nested =
    let below = source_below project i comp at layer acyclic there here in
    let rank = ap (source_rank (stack_rank project)) nested in
    omega (arith, below, rank)

-- ---- how great a rank may be

source_small : (f : ℕ → ℕ) (most : ℕ) → ((k : ℕ) → f k ≤ most) → (item : Item) → source_rank f item ≤ 1 + most
source_small f most small (Solid width height a r g b) = omega arith
source_small f most small (Clip index) = omega arith
source_small f most small (Comp index) = let few = small index in omega (arith, few)

at_small : (f : ℕ → ℕ) (most : ℕ) → ((k : ℕ) → f k ≤ most) → (layers : List PlainLayer) (i : ℕ) → source_rank_at f layers i ≤ 1 + most
at_small f most small [] i = omega arith
at_small f most small (layer ∷ layers) zero = source_small f most small layer.source
at_small f most small (layer ∷ layers) (suc i) = at_small f most small layers i

-- each effect adds at most one
effects_small : (f : ℕ → ℕ) (layers : List PlainLayer) (most input : ℕ) (effects : List PlainFx) → ((i : ℕ) → source_rank_at f layers i ≤ most) → input ≤ most → fold (fx_rank f layers) input effects ≤ most + length effects
effects_small f layers most input [] at few = omega (arith, few)
effects_small f layers most input (fx ∷ effects) at few =
    let one = fold_small (source_rank_at f layers) most input fx.layers few (λ k d within. at _) in
    let rest = effects_small f layers (1 + most) (fx_rank f layers input fx) effects (λ i. le_trans (at i) (omega arith)) (omega (arith, one)) in
    omega (arith, rest)

-- so the last of few is small where the stacks' ranks are
pub last_small : (f : ℕ → ℕ) → ((k : ℕ) → f k < 2 ^ 16) → (layers : List PlainLayer) (source : Item) (effects : List PlainFx) → length effects ≤ most_effects → fold (fx_rank f layers) (source_rank f source) effects ≤ 2 ^ 17
last_small f small layers source effects few =
    let most : (k : ℕ) → f k ≤ 2 ^ 16 - 1 = λ k. let less = small k in omega (arith, less) in
    let all = effects_small f layers (1 + (2 ^ 16 - 1)) (source_rank f source) effects (at_small f (2 ^ 16 - 1) most layers) (source_small f (2 ^ 16 - 1) most source) in
    omega (arith, all, few)

-- each layer has few effects
abbrev pub HaveFew : List PlainLayer → Type 0
HaveFew layers = All (λ (layer : PlainLayer). length layer.effects ≤ most_effects) layers

over_small : (f : ℕ → ℕ) (most : ℕ) → ((k : ℕ) → f k ≤ most) → (layers : List PlainLayer) → HaveFew layers → rank_over f layers ≤ most + 10
over_small f most small layers few =
    let all = fold_small (last_rank f layers) (9 + most) 0 layers (omega arith)
    (λ k d within.
    let one = effects_small f layers (1 + most) (source_rank f (slice_index_or layers k d).source) (slice_index_or layers k d).effects (at_small f most small layers) (source_small f most small (slice_index_or layers k d).source) in
    let long = few k d within in
    omega (arith, one, long)) in
    omega (arith, all)

few_in : (project : PlainProject) (i : ℕ) → All (λ (comp : PlainComp). HaveFew comp.layers) project.comps → HaveFew (layers_in project i)
few_in project i few = by project.comps i few
  where
    by : (comps : List PlainComp) (at : ℕ) → All (λ (comp : PlainComp). HaveFew comp.layers) comps → HaveFew (option_map_or (λ comp. comp.layers) (slice_get comps at) [])
    by [] at all = All-nil (λ (layer : PlainLayer). length layer.effects ≤ most_effects)
    by (comp ∷ comps) zero all = All-head (λ (c : PlainComp). HaveFew c.layers) comp comps all
    by (comp ∷ comps) (suc at) all = by comps at (All-tail (λ (c : PlainComp). HaveFew c.layers) comp comps all)

rank_small_in : (turns : ℕ) (project : PlainProject) → All (λ (comp : PlainComp). HaveFew comp.layers) project.comps → (i : ℕ) → stack_rank_in turns project i ≤ 1 + 10 * turns
rank_small_in zero project few i = omega arith
rank_small_in (suc turns) project few i =
    let all = over_small (stack_rank_in turns project) (1 + 10 * turns) (rank_small_in turns project few) (layers_in project i) (few_in project i few) in
    omega (arith, all)

-- a formed project has few effects
pub formed_few : (project : PlainProject) → IsFormed project → All (λ (comp : PlainComp). HaveFew comp.layers) project.comps
formed_few project formed k d within k' d' within' = ((formed.comps k d within).layers k' d' within').few_effects

pub rank_small : (turns : ℕ) (project : PlainProject) (i : ℕ) → turns ≤ 64 → IsFormed project → stack_rank_in turns project i < 2 ^ 16
rank_small turns project i few formed = let small = rank_small_in turns project (formed_few project formed) i in omega (arith, small, few)

-- ---- tables

-- a list that has of each composition what its layers give
pub map_tells : {A : Type 0} (f : List PlainLayer → A) (other : A) (comps : List PlainComp) (i : ℕ) → f [] ≡ other → slice_index_or (map (λ comp. f comp.layers) comps) i other ≡ f (option_map_or (λ comp. comp.layers) (slice_get comps i) [])
map_tells f other [] i e = sym e
map_tells f other (comp ∷ comps) zero e = refl
map_tells f other (comp ∷ comps) (suc i) e = map_tells f other comps i e

-- which compositions lead to the other one, a step later
pub leading_more : (project : PlainProject) (step other : ℕ) (leading more : List Bool) → ((i : ℕ) → slice_index_or leading i false ≡ reaches_in step project i other) → more ≡ map (λ comp. lead_to (λ nested. slice_index_or leading nested false) other comp.layers) project.comps → (i : ℕ) → slice_index_or more i false ≡ reaches_in (step + 1) project i other
leading_more project step other leading more told made i =
    let one : suc step ≡ step + 1 = omega arith in
    ap (λ (xs : List Bool). slice_index_or xs i false) made
    ∙ map_tells (lead_to (λ nested. slice_index_or leading nested false) other) false project.comps i refl
    ∙ ap (λ (f : ℕ → Bool). lead_to f other (layers_in project i)) (λ j k. told k j)
    ∙ ap (λ (n : ℕ). reaches_in n project i other) one

-- the ranks of all, a turn later
pub ranks_more : (project : PlainProject) (turn : ℕ) (ranks more : List ℕ) → ((i : ℕ) → slice_index_or ranks i 1 ≡ stack_rank_in turn project i) → more ≡ map (λ comp. rank_over (λ k. slice_index_or ranks k 1) comp.layers) project.comps → (i : ℕ) → slice_index_or more i 1 ≡ stack_rank_in (turn + 1) project i
ranks_more project turn ranks more told made i =
    let one : suc turn ≡ turn + 1 = omega arith in
    ap (λ (xs : List ℕ). slice_index_or xs i 1) made
    ∙ map_tells (rank_over (λ k. slice_index_or ranks k 1)) 1 project.comps i refl
    ∙ ap (λ (f : ℕ → ℕ). rank_over f (layers_in project i)) (λ j k. told k j)
    ∙ ap (λ (n : ℕ). stack_rank_in n project i) one

-- ---- all of them

pub reach_absent : (steps : ℕ) (project : PlainProject) (i other : ℕ) → length project.comps ≤ i → reaches_in steps project i other ≡ false
reach_absent zero project i other out = refl
reach_absent (suc steps) project i other out = ap (lead_to (λ nested. reaches_in steps project nested other) other) (layers_absent project i out)

-- a list of which compositions reach themselves tells it of each index
pub loops_told : (project : PlainProject) (loops : List Bool) (count : ℕ) → loops ≡ map (λ index. reaches project index index) (range_with_len 0 count) → length project.comps ≡ count → (i : ℕ) → slice_index_or loops i false ≡ reaches project i i
loops_told project loops count made all i =
    let f : ℕ → Bool = λ index. reaches project index index in
    ap (λ (xs : List Bool). slice_index_or xs i false) made
    ∙ elim (cases_lt i count) [
      | inl here ↦ get_or-map-range_with_len f 0 count i i false here (omega arith)
      | inr out ↦
          let long = length-map-range_with_len f 0 count in
          get_or_past (map f (range_with_len 0 count)) i false (omega (arith, long, out))
          ∙ sym (reach_absent (length project.comps) project i i (omega (arith, all, out)))
    ]

other_default : (list : List ℕ) (i d e : ℕ) → i < length list → slice_index_or list i d ≡ slice_index_or list i e
other_default [] i d e within = absurd (omega (arith, within))
other_default (x ∷ list) zero d e within = refl
other_default (x ∷ list) (suc i) d e within = other_default list i d e (omega (arith, within))

-- a list that tells the ranks, and is as long as there are compositions, is that of the table
pub ranks_listed : (project : PlainProject) (ranks : List ℕ) (turns : ℕ) → turns ≡ length project.comps → ((i : ℕ) → slice_index_or ranks i 1 ≡ stack_rank_in turns project i) → length ranks ≡ length project.comps → ranks ≡ map (stack_rank project) (range_with_len 0 (length project.comps))
ranks_listed project ranks turns all told long =
    let count : ℕ = length project.comps in
    let same = length-map-range_with_len (stack_rank project) 0 count in
    same_number_lists ranks (map (stack_rank project) (range_with_len 0 count)) (long ∙ sym same)
    (λ k within.
    other_default ranks k 0 1 within
    ∙ told k
    ∙ ap (λ (n : ℕ). stack_rank_in n project k) all
    ∙ sym (get_or-map-range_with_len (stack_rank project) 0 count k k 0 (omega (arith, within, long)) (omega arith)))

-- ---- the table of a project

counted : {A B : Type 0} (f : ℕ → B) (list : List A) (from i : ℕ) (d : B) → slice_index_or (map f (range_with_len from (length list))) i d ≡ option_map_or (λ (a : A). f (from + i)) (slice_get list i) d
counted f [] from i d = refl
counted f (a ∷ list) from zero d = ap f (let same : from ≡ from + 0 = omega arith in same)
counted f (a ∷ list) from (suc i) d =
    let same : from + 1 + i ≡ from + suc i = omega arith in
    counted f list (from + 1) i d ∙ ap (λ (n : ℕ). option_map_or (λ (b : _). f n) (slice_get list i) d) same

listed : {A : Type 0} (ranks : A → List ℕ) (list : List A) (i before : ℕ) → slice_index_or (slice_index_or (map ranks list) i []) before 0 ≡ option_map_or (λ a. slice_index_or (ranks a) before 0) (slice_get list i) 0
listed ranks [] i before = refl
listed ranks (a ∷ list) zero before = refl
listed ranks (a ∷ list) (suc i) before = listed ranks list i before

table_at : (project : PlainProject) (comp layer before : ℕ) → node_rank_in (ranks_of project) comp layer before ≡ option_map_or (λ here. slice_index_or (layer_ranks (stack_rank project) (layers_in project comp) here) before 0) (layer_at project comp layer) 0
table_at project comp layer before =
    ap (λ (rows : List (List ℕ)). slice_index_or (slice_index_or rows layer []) before 0)
    (map_tells (λ (layers : List PlainLayer). map (layer_ranks (stack_rank project) layers) layers) [] project.comps comp refl)
    ∙ listed (layer_ranks (stack_rank project) (layers_in project comp)) (layers_in project comp) layer before

pub table_ranks : TableHasRanks
table_ranks project (Source comp layer) = table_at project comp layer 0
table_ranks project (Fx comp layer index) = table_at project comp layer (suc index)
table_ranks project (Stack comp) =
    let same : 0 + comp ≡ comp = omega arith in
    counted (stack_rank project) project.comps 0 comp 0
    ∙ ap (λ (n : ℕ). option_map_or (λ (here : PlainComp). stack_rank project n) (slice_get project.comps comp) 0) same

-- what is made of the ranks of stacks
pub table_made : (project : PlainProject) (stacks : List ℕ) (ranks : RankTable) → ((i : ℕ) → slice_index_or stacks i 1 ≡ stack_rank project i) → stacks ≡ map (stack_rank project) (range_with_len 0 (length project.comps)) → ranks ≡ record { stacks = stacks; nodes = map (λ comp. map (layer_ranks (λ index. slice_index_or stacks index 1) comp.layers) comp.layers) project.comps } → ranks ≡ ranks_of project
table_made project stacks ranks told listed made =
    let with_ranks : List ℕ → (ℕ → ℕ) → RankTable =
    λ xs f. record { stacks = xs; nodes = map (λ (comp : PlainComp). map (layer_ranks f comp.layers) comp.layers) project.comps } in
    made ∙ ap (with_ranks stacks) (λ j i. told i j) ∙ ap (λ (xs : List ℕ). with_ranks xs (stack_rank project)) listed

-- the ranks that were told are small
pub told_small : (project : PlainProject) (stacks : List ℕ) → IsFormed project → ((i : ℕ) → slice_index_or stacks i 1 ≡ stack_rank project i) → (i : ℕ) → slice_index_or stacks i 1 < 2 ^ 16
told_small project stacks formed told i =
    subst (λ (n : ℕ). n < 2 ^ 16) (sym (told i)) (rank_small (length project.comps) project i formed.few_comps formed)
