-- What a pass shares of a scene while it draws.
use Rattle.std.specs.Prelude.{◌≡◌, ℕ, zero, suc, ◌+◌, ◌*◌, ◌<◌, ◌≤◌, ◌^◌, ℤ, Bool, false, List, [], ◌∷◌, ◌++◌, length, map, flat_map, Option, Some, Result, Ok, Err}
use Rattle.std.specs.List.{All}
use Rattle.project_model.specs.Nesting.{stack_rank}
use Rattle.project_model.specs.declared.node.NodeId.{NodeId}
use Rattle.project_model.specs.declared.node.NodeId.TheVariants.{Source, Fx, Stack}
use Rattle.project_model.specs.declared.plain.PlainProject.{PlainProject}
use Rattle.compute_cache.specs.declared.hold.Hold.{Hold}
use Rattle.compute_cache.specs.State.{Plain}
use Rattle.compute_cache.specs.Passes.{CachePass, Started, has_turn, turns, IsLater}
use Rattle.compute_cache.specs.Suite.{Suite, ReceiptOf, TurnOf, IsAsBefore, IsOf, hold_of, start_of}
use Rattle.effect_api.specs.Fits.{IsHeld}
use Rattle.effect_api.specs.declared.checkouts.Value.{Value}
use Rattle.effect_api.specs.declared.checkouts.PixelsOf.TheVariants.{Drawn, Shared}
use Rattle.effect_api.specs.Checked.{Pixels}
use Rattle.scene_meaning.specs.Keys.{key_in, node_number}
use Rattle.scene_meaning.specs.Nodes.{HasNode, IsOfLayer}
use Rattle.scene_meaning.specs.Right.{value_of}
use Rattle.scene_meaning.specs.Shown.{PlainScene, base_in, plane}
use Rattle.scene_cache.specs.declared.share.Share.{Share}
use Rattle.scene_cache.specs.declared.begun.Begin.{Begin}
use Rattle.scene_cache.specs.declared.begun.Begin.TheVariants.{Found, Mine, Theirs}

-- ---- what is shared

-- a value of a scene: of a class, with an ask, over the plane of a source or an effect at a held tick; of a plane itself there is no ask
pub record IsShare (project : PlainProject) (classes : ℕ) (share : Share) : Type 0 where
  pub node : HasNode project share.node
  pub of_layer : IsOfLayer share.node
  pub held : IsHeld (base_in project) share.tick.0
  pub class_is : share.class ≤ classes
  pub ask_is : share.ask < 16777216
  pub plane : share.class ≡ 0 → share.ask ≡ 0

abbrev pub key_of_share : PlainProject → Share → ℕ
key_of_share project share = key_in share.class (node_number project share.node) share.ask share.tick.0

-- the value itself
abbrev pub value_of_share : {most : ℕ} → PlainScene → Share → Option (Value most)
value_of_share scene share = value_of scene.set scene.drawing share.class share.ask (plane scene share.node share.tick.0)

-- ---- the order in which values are computed

-- the composition of a node, and how many effects of its layer it is behind
abbrev pub comp_of : NodeId → ℕ
comp_of (Source comp layer) = comp
comp_of (Fx comp layer index) = comp
comp_of (Stack comp) = comp

abbrev pub effects_behind : NodeId → ℕ
effects_behind (Source comp layer) = 0
effects_behind (Fx comp layer index) = suc index
effects_behind (Stack comp) = 0

-- sums stand above the plane that they are of
abbrev pub class_level : ℕ → ℕ
class_level zero = 5
class_level (suc class) = 7

-- A value's level. It is above the levels of all values that it is computed from: those of a composition that a layer of its own nests,
-- and in its own composition those behind fewer effects.
abbrev pub level_in : PlainProject → ℕ → NodeId → ℕ
level_in project class node = 256 * stack_rank project (comp_of node) + 16 * effects_behind node + class_level class

-- none of these turns is for a value of at most this level
abbrev pub AreFree : PlainProject → ℕ → List Started → Type 0
AreFree project level turns =
    (class ask : ℕ) (node : NodeId) (t : ℤ)
    → class < 2 ^ 8 → ask < 16777216 → HasNode project node → IsOfLayer node → IsHeld (base_in project) t
    → level_in project class node ≤ level
    → has_turn class (key_in class (node_number project node) ask t) turns ≡ false

module _ {V K : Type 0} where
  -- a pass of a cache of planes and of so many classes, which computes no value of at most this level
  pub record IsSharing (project : PlainProject) (classes level : ℕ) (cache : Suite (Plain V K)) (pass : CachePass (Plain V K)) : Type 0 where
    pub own : IsOf cache pass
    pub classes_are : length cache.classes ≡ suc classes
    pub few : classes ≤ 255
    pub free : AreFree project level (turns pass)

  -- the turn to compute a value, which is the pass's only further one
  pub record IsMine (project : PlainProject) (share : Share) (cache : Suite (Plain V K)) (old new : CachePass (Plain V K)) (turn : TurnOf V K) : Type 0 where
    pub later : IsLater old new
    pub lock : turn.lock ≡ cache.lock
    pub pass : turn.pass ≡ new.number
    pub class_is : turn.class ≡ share.class
    pub key_is : turn.key ≡ key_of_share project share
    pub turns_are : turns new ≡ turns old ++ start_of turn ∷ []
    pub further : has_turn share.class (key_of_share project share) (turns old) ≡ false
    pub receipts : new.receipts ≡ old.receipts

  -- a turn that the pass has, and computes its value in
  pub record IsOwn (project : PlainProject) (share : Share) (cache : Suite (Plain V K)) (pass : CachePass (Plain V K)) (turn : TurnOf V K) : Type 0 where
    pub before : CachePass (Plain V K)
    pub mine : IsMine project share cache before pass turn

  -- one more open receipt, the last one, and nothing else
  pub record OpensOne (cache : Suite (Plain V K)) (old new : CachePass (Plain V K)) (receipt : ReceiptOf V K) : Type 0 where
    pub later : IsLater old new
    pub lock : receipt.lock ≡ cache.lock
    pub pass : receipt.pass ≡ new.number
    pub turns_are : turns new ≡ turns old
    pub receipts : new.receipts ≡ old.receipts ++ hold_of receipt ∷ []

  -- these receipts are of the cache, and open in the pass one after another, after those in front and before those at the back
  pub record AreOpenBetween (cache : Suite (Plain V K)) (pass : CachePass (Plain V K)) (front : List Hold) (receipts : List (ReceiptOf V K)) (back : List Hold) : Type 0 where
    pub locks : All (λ receipt. receipt.lock ≡ cache.lock) receipts
    pub passes : All (λ receipt. receipt.pass ≡ pass.number) receipts
    pub holds : pass.receipts ≡ front ++ map hold_of receipts ++ back

  -- so they are, whichever others there are
  pub record AreOpenHere (cache : Suite (Plain V K)) (pass : CachePass (Plain V K)) (receipts : List (ReceiptOf V K)) : Type 0 where
    pub front : List Hold
    pub back : List Hold
    pub between : AreOpenBetween cache pass front receipts back

  -- a pass with just these open receipts, and turns as before
  pub record Leaves (old : CachePass (Plain V K)) (holds : List Hold) (new : CachePass (Plain V K)) : Type 0 where
    pub later : IsLater old new
    pub turns_are : turns new ≡ turns old
    pub receipts : new.receipts ≡ holds

  -- these receipts were given back, and no others
  abbrev pub AreGivenBack : Suite (Plain V K) → List (ReceiptOf V K) → CachePass (Plain V K) → CachePass (Plain V K) → Type 0
  AreGivenBack cache receipts old new = (front back : List Hold) → AreOpenBetween cache old front receipts back → Leaves old (front ++ back) new

-- the receipts among pixels, in their order
module _ {most : ℕ} {K : Type 0} where
  abbrev pub receipt_of : Pixels most K → List (ReceiptOf (Value most) K)
  receipt_of (Drawn world) = []
  receipt_of (Shared receipt) = receipt ∷ []

  abbrev pub receipts_of : List (ℕ × Pixels most K) → List (ReceiptOf (Value most) K)
  receipts_of pairs = flat_map (λ pair. receipt_of pair.1) pairs

-- ---- what `begin_share` answers

module _ {most : ℕ} {K : Type 0} where
  -- the value of a receipt is what is shared
  abbrev pub IsShared : PlainScene → Share → ReceiptOf (Value most) K → Type 0
  IsShared scene share receipt = value_of_share scene share ≡ Some receipt.value

  abbrev pub IsBegunShare : PlainScene → Share → Bool → Suite (Plain (Value most) K) → CachePass (Plain (Value most) K) → CachePass (Plain (Value most) K) → Begin K (Value most) → Type 0
  IsBegunShare scene share wait cache old new (Found receipt) = OpensOne cache old new receipt × IsShared scene share receipt
  IsBegunShare scene share wait cache old new (Mine turn) =
      IsMine scene.project share cache old new turn
      × ((lower : ℕ) → lower < level_in scene.project share.class share.node → IsSharing scene.project (length scene.set.class_names) lower cache new)
  IsBegunShare scene share wait cache old new Theirs = IsAsBefore old new × (wait ≡ false)

  -- a receipt of the value is open, or all is as before
  abbrev pub IsShareEnded : {E : Type 0} → PlainScene → Share → Suite (Plain (Value most) K) → CachePass (Plain (Value most) K) → CachePass (Plain (Value most) K) → Result (ReceiptOf (Value most) K) E → Type 0
  IsShareEnded scene share cache old new (Ok receipt) = OpensOne cache old new receipt × IsShared scene share receipt
  IsShareEnded scene share cache old new (Err error) = IsAsBefore old new

  -- after a turn: a receipt of the value is open, or all is as it was before the turn
  abbrev pub EndsShare : {E : Type 0} → PlainScene → Share → Suite (Plain (Value most) K) → CachePass (Plain (Value most) K) → CachePass (Plain (Value most) K) → TurnOf (Value most) K → Result (ReceiptOf (Value most) K) E → Type 0
  EndsShare scene share cache old new turn result =
      (before : CachePass (Plain (Value most) K)) → IsMine scene.project share cache before old turn → IsShareEnded scene share cache before new result

-- without a value there is no receipt
abbrev pub NeedsValue : {V R E F : Type 0} → Result V E → Result R F → Type 0
NeedsValue (Ok value) result = Unit {0}
NeedsValue (Err error) (Ok receipt) = ⊥
NeedsValue (Err error) (Err other) = Unit {0}
