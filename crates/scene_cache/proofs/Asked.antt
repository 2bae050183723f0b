-- Values that are asked for by a key of a scene, and turns to compute them.
use Rattle.std.proofs.Common.{◌≡◌, ℕ, zero, suc, ◌+◌, ◌^◌, ◌<◌, ◌≤◌, ℤ, pos, negsuc, Bool, true, false, not, cond, ◌&&◌, ◌||◌, w64, List, [], ◌∷◌, ◌++◌, length, take, refl, sym, ap, ap₂, ◌∙◌, nat_eq, eq-eqb, eqb-true, arith}
use Rattle.std.specs.Prelude.{Some}
use Rattle.std.specs.Int.RustNames.{FitsSigned}
use Rattle.std.proofs.lemmas.Bool.{and_parts}
use Rattle.std.proofs.lemmas.Int.{ints, clamps}
use Rattle.std.proofs.lemmas.List.Folds.{list_any-append}
use Rattle.std.specs.List.{All}
use Rattle.std.proofs.lemmas.List.Elements.{All-nil, All-head, All-tail}
use Rattle.std.specs.Option.{option_map_or}
use Rattle.std.specs.Prelude.{slice_get}
use Rattle.project_model.specs.Bounds.{greatest_base}
use Rattle.project_model.specs.Form.{IsFormed, IsFormedComp, IsFormedLayer, plain_layer_count}
use Rattle.project_model.specs.Plain.{plain_of}
use Rattle.project_model.specs.Sound.{IsSound}
use Rattle.project_model.specs.declared.project.Project.{Project}
use Rattle.project_model.specs.declared.plain.PlainFx.{PlainFx}
use Rattle.project_model.specs.declared.plain.PlainLayer.{PlainLayer}
use Rattle.project_model.specs.declared.node.NodeId.{NodeId}
use Rattle.project_model.specs.declared.node.NodeId.TheVariants.{Source, Fx, Stack}
use Rattle.project_model.specs.declared.plain.PlainComp.{PlainComp}
use Rattle.project_model.specs.declared.plain.PlainProject.{PlainProject}
use Rattle.compute_cache.specs.State.{Plain}
use Rattle.compute_cache.specs.Passes.{CachePass, Started, has_turn, is_among, is_turn_of, turns, without_turn, IsLater}
use Rattle.compute_cache.specs.Suite.{Suite, ReceiptOf, TurnOf, IsAsBefore, IsTurnOf, hold_of, start_of}
use Rattle.compute_cache.proofs.Callers.{among_last}
use Rattle.effect_api.specs.Fits.{IsHeld}
use Rattle.effect_api.specs.declared.checkouts.Value.{Value}
use Rattle.scene_meaning.specs.Keys.{IsSpelled, KeysDiffer, NodeNumbersDiffer, key_in, node_number}
use Rattle.scene_meaning.specs.Nodes.{HasNode, IsOfLayer}
use Rattle.scene_meaning.specs.Right.{NodesAreKept, kept}
use Rattle.scene_meaning.specs.Shown.{PlainScene, base_in}
use Rattle.scene_cache.specs.declared.share.Share.{Share}
use Rattle.scene_cache.specs.Sharing.{IsMine, IsShare, IsSharing, OpensOne, key_of_share, level_in, value_of_share}
use Rattle.scene_cache.proofs.Formed.{sound_formed}
use Rattle.scene_cache.proofs.Sharing.{later_own, later_trans}

-- ---- what a key of a project spells

-- the layers of a composition, and the effects of a layer
abbrev layers_of : List PlainComp → ℕ → List PlainLayer
layers_of comps comp = option_map_or (λ (c : PlainComp). c.layers) (slice_get comps comp) []

abbrev effects_of : List PlainLayer → ℕ → List PlainFx
effects_of layers layer = option_map_or (λ (l : PlainLayer). l.effects) (slice_get layers layer) []

-- a layer is one of those of all compositions
within_all : (comps : List PlainComp) (comp layer : ℕ) → layer < length (layers_of comps comp) → plain_layer_count (take comp comps) + layer < plain_layer_count comps
within_all [] comp layer h = absurd (omega (arith, h))
within_all (c ∷ cs) zero layer h = omega (arith, h)
within_all (c ∷ cs) (suc comp) layer h = omega (arith, within_all cs comp layer h)

-- a layer that has an effect is there, and it has few
there_few : (layers : List PlainLayer) (layer index : ℕ) → All IsFormedLayer layers → index < length (effects_of layers layer) → (layer < length layers) × (index < 8)
there_few [] layer index all h = absurd (omega (arith, h))
there_few (l ∷ ls) zero index all h = (omega arith, omega (arith, h, (All-head IsFormedLayer l ls all).few_effects))
there_few (l ∷ ls) (suc layer) index all h =
    let rest = there_few ls layer index (All-tail IsFormedLayer l ls all) h in
    (omega (arith, rest.0), rest.1)

formed_layers : (comps : List PlainComp) (comp : ℕ) → All IsFormedComp comps → All IsFormedLayer (layers_of comps comp)
formed_layers [] comp all = All-nil IsFormedLayer
formed_layers (c ∷ cs) zero all = (All-head IsFormedComp c cs all).layers
formed_layers (c ∷ cs) (suc comp) all = formed_layers cs comp (All-tail IsFormedComp c cs all)

number_low : (project : PlainProject) (node : NodeId) → IsFormed project → HasNode project node → IsOfLayer node → node_number project node < 2 ^ 32
number_low project (Source comp layer) formed has of = omega (arith, within_all project.comps comp layer has, formed.few_layers)
number_low project (Fx comp layer index) formed has of =
    let there = there_few (layers_of project.comps comp) layer index (formed_layers project.comps comp formed.comps) has in
    omega (arith, within_all project.comps comp layer there.0, there.1, formed.few_layers)
number_low project (Stack comp) formed has of = absurd of

tick_wide : (base : ℕ) (t : ℤ) → base ≤ greatest_base → IsHeld base t → FitsSigned w64 t
tick_wide base (pos n) few held = record { sfits = omega (arith, ints, clamps, few, held) }
tick_wide base (negsuc n) few held = record { sfits = omega (arith, ints, clamps, few, held) }

-- the project has counts that its numbers stand in
pub record IsCounted (project : PlainProject) : Type 0 where
  pub formed : IsFormed project
  pub base : base_in project ≤ greatest_base

pub counted : (project : Project) → IsSound project → IsCounted (plain_of project)
counted project is = record { formed = sound_formed project is; base = omega (arith, is.base, is.base_bound) }

spelled : (project : PlainProject) (class ask : ℕ) (node : NodeId) (t : ℤ) → IsCounted project → class < 2 ^ 8 → ask < 16777216 → HasNode project node → IsOfLayer node → IsHeld (base_in project) t
    → IsSpelled class (node_number project node) ask t
spelled project class ask node t counted class_low ask_low has of held = record {
  class_fits = class_low;
  node_fits = number_low project node counted.formed has of;
  ask_fits = ask_low;
  tick_fits = tick_wide (base_in project) t counted.base held;
}

share_spelled : (project : PlainProject) (classes : ℕ) (share : Share) → IsCounted project → classes ≤ 255 → IsShare project classes share → IsSpelled share.class (node_number project share.node) share.ask share.tick.0
share_spelled project classes share counted few is =
    spelled project share.class share.ask share.node share.tick.0 counted (omega (arith, few, is.class_is)) is.ask_is is.node is.of_layer is.held

-- ---- values

-- under the key of what is shared the value is kept
module _ {most : ℕ} (scene : PlainScene) (classes : ℕ) (share : Share) (nodes : NodesAreKept) (is_counted : IsCounted scene.project) (few : classes ≤ 255) (is : IsShare scene.project classes share) where
  kept_share : (class key : ℕ) → class ≡ share.class → key ≡ key_of_share scene.project share → kept most scene class key ≡ value_of_share scene share
  kept_share class key class_is key_is =
      ap₂ (kept most scene) class_is key_is
      ∙ nodes most scene share.class share.ask share.node share.tick.0 is_counted.formed is.node is.of_layer (share_spelled scene.project classes share is_counted few is) is.held

  pub shared_by : (class key : ℕ) (v : Value most) → class ≡ share.class → key ≡ key_of_share scene.project share → kept most scene class key ≡ Some v → value_of_share scene share ≡ Some v
  shared_by class key v class_is key_is right = sym (kept_share class key class_is key_is) ∙ right

  pub kept_by : (class key : ℕ) (v : Value most) → class ≡ share.class → key ≡ key_of_share scene.project share → value_of_share scene share ≡ Some v → kept most scene class key ≡ Some v
  kept_by class key v class_is key_is right = kept_share class key class_is key_is ∙ right

-- ---- turns

other_turn : (class key c k : ℕ) → (c ≡ class → k ≡ key → ⊥) → ((nat_eq c class && nat_eq k key) || false) ≡ false
other_turn class key c k other = by (nat_eq c class && nat_eq k key) refl
  where
    by : (b : Bool) → (nat_eq c class && nat_eq k key) ≡ b → (b || false) ≡ false
    by true e =
        let parts = and_parts (nat_eq c class) (nat_eq k key) e in
        absurd (other (eqb-true c class parts.0) (eqb-true k key parts.1))
    by false e = refl

-- without the turn that was last there are those before it
without_last : (t : Started) (ts : List Started) → has_turn t.class t.key ts ≡ false → without_turn t.class t.key (ts ++ t ∷ []) ≡ ts
without_last t [] none = ap (λ b. cond (not b) (t ∷ []) []) (ap₂ (λ a b. a && b) (eq-eqb t.class t.class refl) (eq-eqb t.key t.key refl))
without_last t (x ∷ ts) none = by (is_turn_of t.class t.key x) none (without_last t ts)
  where
    by : (b : Bool) → (b || has_turn t.class t.key ts) ≡ false → (has_turn t.class t.key ts ≡ false → without_turn t.class t.key (ts ++ t ∷ []) ≡ ts)
        → cond (not b) (x ∷ without_turn t.class t.key (ts ++ t ∷ [])) (without_turn t.class t.key (ts ++ t ∷ [])) ≡ x ∷ ts
    by true e rest = absurd (cc (e))
    by false e rest = ap (λ l. x ∷ l) (rest e)

module _ {V K : Type 0} where
  -- with the turn, a pass still computes nothing of a lower level
  pub lower_shares : (project : PlainProject) (classes lower : ℕ) (share : Share) (cache : Suite (Plain V K)) (old new : CachePass (Plain V K)) (turn : TurnOf V K)
      → KeysDiffer → NodeNumbersDiffer → IsCounted project → IsShare project classes share → IsSharing project classes (level_in project share.class share.node) cache old
      → IsMine project share cache old new turn → lower < level_in project share.class share.node → IsSharing project classes lower cache new
  lower_shares project classes lower share cache old new turn keys numbers counted is sharing mine below = record {
    own = later_own cache old new sharing.own mine.later;
    classes_are = sharing.classes_are;
    few = sharing.few;
    free = λ class ask node t class_low ask_low has of held under.
        let number : ℕ = node_number project node in
        let key : ℕ = key_in class number ask t in
        ap (has_turn class key) mine.turns_are
        ∙ list_any-append (is_turn_of class key) (turns old) (start_of turn ∷ [])
        ∙ ap₂ (λ a b. a || b) (sharing.free class ask node t class_low ask_low has of held (omega (arith, under, below)))
        (other_turn class key turn.class turn.key (λ same_class same_key.
        let same = keys share.class (node_number project share.node) share.ask class number ask share.tick.0 t
        (share_spelled project classes share counted sharing.few is) (spelled project class ask node t counted class_low ask_low has of held)
        (sym mine.key_is ∙ same_key) in
        let one : share.node ≡ node = numbers project share.node node counted.formed is.node is.of_layer has of same.1 in
        let level : level_in project share.class share.node ≡ level_in project class node = ap₂ (level_in project) same.0 one in
        omega (arith, level, under, below)));
  }

  -- ---- the ends of a turn

  module _ (project : PlainProject) (share : Share) (cache : Suite (Plain V K)) (before old new : CachePass (Plain V K)) (turn : TurnOf V K) (mine : IsMine project share cache before old turn) where
    pub mine_turn : IsTurnOf cache old turn
    mine_turn = record {
      lock = mine.lock;
      pass = mine.pass;
      among = ap (is_among (start_of turn)) mine.turns_are ∙ among_last (start_of turn) (turns before);
    }

    turns_back : turns new ≡ without_turn turn.class turn.key (turns old) → turns new ≡ turns before
    turns_back ended =
        ended ∙ ap (without_turn turn.class turn.key) mine.turns_are
        ∙ without_last (start_of turn) (turns before) (ap₂ (λ c k. has_turn c k (turns before)) mine.class_is mine.key_is ∙ mine.further)

    pub ended_opens : (receipt : ReceiptOf V K) → IsLater old new → turns new ≡ without_turn turn.class turn.key (turns old) → new.receipts ≡ old.receipts ++ hold_of receipt ∷ []
        → receipt.lock ≡ cache.lock → receipt.pass ≡ old.number → OpensOne cache before new receipt
    ended_opens receipt later ended opened lock pass = record {
      later = later_trans before old new mine.later later;
      lock = lock;
      pass = pass ∙ sym later.number;
      turns_are = turns_back ended;
      receipts = opened ∙ ap (λ hs. hs ++ hold_of receipt ∷ []) mine.receipts;
    }

    pub ended_as_before : IsLater old new → turns new ≡ without_turn turn.class turn.key (turns old) → new.receipts ≡ old.receipts → IsAsBefore before new
    ended_as_before later ended same = record {
      later = later_trans before old new mine.later later;
      receipts = same ∙ mine.receipts;
      turns_are = turns_back ended;
    }
