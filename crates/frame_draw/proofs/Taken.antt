-- What is taken for effects, drawn and shared.
use Rattle.std.proofs.Common.{◌≡◌, ℕ, List, [], ◌∷◌, ◌++◌, sym, ap, subst, ◌∙◌, arith}
use Rattle.std.proofs.lemmas.List.{append-nil}
use Rattle.std.proofs.lemmas.Grind.{flat_map-append}
use Rattle.argb_world.specs.declared.world.World.{World}
use Rattle.comp_stack.specs.Stack.{Plane}
use Rattle.comp_stack.specs.Layers.{plane_of}
use Rattle.rational_time.specs.declared.time.Tick.{Tick}
use Rattle.compute_cache.specs.Suite.{ReceiptOf}
use Rattle.effect_api.specs.declared.moment.Want.{Want}
use Rattle.effect_api.specs.declared.pre_render.Checkout.{Checkout}
use Rattle.effect_api.specs.declared.checkouts.Value.{Value}
use Rattle.effect_api.specs.declared.checkouts.PixelsOf.TheVariants.{Drawn, Shared}
use Rattle.effect_api.specs.Checked.{IsPlaneValue, Pixels, value_world}
use Rattle.effect_api.specs.Planes.{IsPlane}
use Rattle.std.specs.Prelude.{◌<◌, ◌≤◌, Bool, true, false, length, slice_get, Option, Some, None, Result, Ok, Err, OnOk, OnErr}
use Rattle.effect_api.specs.declared.moment.Ask.{Ask}
use Rattle.effect_api.specs.Sets.{EffectSet, Drawing}
use Rattle.scene_meaning.specs.Right.{value_of}
use Rattle.scene_cache.specs.Wholes.{KeptSumsAre}
use Rattle.compute_cache.specs.State.{Plain}
use Rattle.compute_cache.specs.Passes.{CachePass}
use Rattle.compute_cache.specs.Suite.{Suite, TurnOf, IsAsBefore}
use Rattle.scene_cache.specs.declared.begun.Begin.{Begin}
use Rattle.scene_cache.specs.declared.begun.Begin.TheVariants.{Mine, Theirs}
use Rattle.scene_cache.specs.declared.share.Share.{Share}
use Rattle.scene_cache.specs.Sharing.{IsBegunShare, IsMine, IsSharing, NeedsValue, OpensOne, level_in, receipt_of, receipts_of, value_of_share}
use Rattle.scene_meaning.specs.Shown.{PlainScene}
use Rattle.frame_draw.specs.Areas.{StandsFor}
use Rattle.frame_draw.specs.Uses.{IsAnswer, IsShareTaken, IsWanted, OpensAll, receipts_in}
use Rattle.frame_draw.proofs.Areas.{stands_whole}
use Rattle.frame_draw.proofs.Sharing.{opens_none, opens_on, opens_one}

module _ {most : ℕ} {K : Type 0} where
  -- the receipts of one pair more
  pub receipts_push : (pairs : List (ℕ × Pixels most K)) (id : ℕ) (pixels : Pixels most K) → receipts_of (pairs ++ (id, pixels) ∷ []) ≡ receipts_of pairs ++ receipt_of pixels
  receipts_push pairs id pixels =
      flat_map-append (λ (pair : ℕ × Pixels most K). receipt_of pair.1) pairs ((id, pixels) ∷ [])
      ∙ ap (λ (l : List (ReceiptOf (Value most) K)). receipts_of pairs ++ l) (append-nil (receipt_of pixels))

  -- what was drawn at the tick that is wanted
  pub drawn_wanted : (wanted : Want → Plane) (tick : Tick) (checkout : Checkout) (pixels : Pixels most K) (world : World most) → pixels ≡ Drawn world → IsPlane most (plane_of world)
      → StandsFor checkout.request (wanted checkout.want) world → checkout.want.tick ≡ tick → IsWanted wanted tick checkout pixels
  drawn_wanted wanted tick checkout pixels world is plane stands same =
      subst (λ (p : Pixels most K). IsWanted wanted tick checkout p) (sym is)
      (record { stands = stands; plane = plane; world = tt; shared = λ differs. absurd (differs same) })

  -- and what is shared
  pub shared_wanted : (wanted : Want → Plane) (tick : Tick) (checkout : Checkout) (receipt : ReceiptOf (Value most) K) (plane : Plane) → IsPlaneValue receipt.value → plane_of (value_world receipt.value) ≡ plane
      → plane ≡ wanted checkout.want → IsPlane most plane → IsWanted wanted tick checkout (Shared receipt)
  shared_wanted wanted tick checkout receipt plane value shows same is = record {
    stands = stands_whole checkout.request (wanted checkout.want) (value_world receipt.value) (shows ∙ same);
    plane = subst (IsPlane most) (sym shows) is;
    world = value;
    shared = λ differs. tt;
  }

  -- the turn that was begun, and what is shared below it
  pub begun_mine : (scene : PlainScene) (share : Share) (wait : Bool) (cache : Suite (Plain (Value most) K)) (old new : CachePass (Plain (Value most) K)) (begun : Begin K (Value most)) (turn : TurnOf (Value most) K) → begun ≡ Mine turn
      → IsBegunShare scene share wait cache old new begun
      → IsMine scene.project share cache old new turn × ((lower : ℕ) → lower < level_in scene.project share.class share.node → IsSharing scene.project (length scene.set.class_names) lower cache new)
  begun_mine scene share wait cache old new begun turn is told = subst (IsBegunShare scene share wait cache old new) is told

  -- what was taken is open, and nothing more
  pub opens_taken : (scene : PlainScene) (share : Share) (wait : Bool) (cache : Suite (Plain (Value most) K)) (old new : CachePass (Plain (Value most) K)) (taken : Option (ReceiptOf (Value most) K))
      → IsShareTaken scene share wait cache old new taken → OpensAll cache old (receipts_in taken) new
  opens_taken scene share wait cache old new (Some receipt) told = opens_one cache old new receipt told.0
  opens_taken scene share wait cache old new None told = opens_on cache old old new [] (opens_none cache old) told.0

  pub one_taken : (taken : Option (ReceiptOf (Value most) K)) → length (receipts_in taken) ≤ 1
  one_taken (Some receipt) = omega arith
  one_taken None = omega arith

  -- what is waited for is there
  pub waited_some : (scene : PlainScene) (share : Share) (cache : Suite (Plain (Value most) K)) (old new : CachePass (Plain (Value most) K)) (taken : Option (ReceiptOf (Value most) K))
      → IsShareTaken scene share true cache old new taken → taken ≡ None → ⊥
  waited_some scene share cache old new (Some receipt) told none = cc
  waited_some scene share cache old new None told none = let wrong : true ≡ false = told.1 in cc

  pub waited_is : (scene : PlainScene) (share : Share) (wait : Bool) (cache : Suite (Plain (Value most) K)) (old new : CachePass (Plain (Value most) K)) (taken : Option (ReceiptOf (Value most) K)) (receipt : ReceiptOf (Value most) K)
      → IsShareTaken scene share wait cache old new taken → taken ≡ Some receipt → OpensOne cache old new receipt × (value_of_share scene share ≡ Some receipt.value)
  waited_is scene share wait cache old new taken receipt told is = subst (IsShareTaken scene share wait cache old new) is told

  -- what another pass computes, where it was begun without waiting
  pub begun_theirs : (scene : PlainScene) (share : Share) (wait : Bool) (cache : Suite (Plain (Value most) K)) (old new : CachePass (Plain (Value most) K)) (begun : Begin K (Value most)) → begun ≡ Theirs
      → IsBegunShare scene share wait cache old new begun → IsAsBefore old new × (wait ≡ false)
  begun_theirs scene share wait cache old new begun is told = subst (IsBegunShare scene share wait cache old new) is told

pub ok_kept : {T E : Type 0} (result : Result T E) (t : T) (P : Type 0) → result ≡ Ok t → OnOk result P → P
ok_kept result t P is kept = subst (λ r. OnOk r P) is kept

pub on_err : {T E : Type 0} (result : Result T E) (P : Type 0) → P → OnErr result P
on_err (Ok t) P p = tt
on_err (Err e) P p = p

-- without a value there is no receipt, so that what holds of a value that was made holds where there is one
pub needs_kept : {V R E F : Type 0} (made : Result V E) (result : Result R F) (P : Type 0) → NeedsValue made result → OnOk made P → OnOk result P
needs_kept (Ok v) (Ok r) P needs kept = kept
needs_kept (Ok v) (Err f) P needs kept = tt
needs_kept (Err e) (Ok r) P needs kept = absurd needs
needs_kept (Err e) (Err f) P needs kept = tt

-- what answers the ask at a place
pub answer_of : {most : ℕ} {K : Type 0} (set : EffectSet) (drawing : Drawing) (wanted : Want → Plane) (asks : List Ask) (place : ℕ) (ask : Ask) (share : Share) (shown : Plane) (receipt : ReceiptOf (Value most) K) → KeptSumsAre
    → value_of set drawing share.class share.ask shown ≡ Some receipt.value → share.class ≡ ask.class → share.ask ≡ ask.ask → shown ≡ wanted ask.want
    → 1 ≤ ask.class → slice_get asks place ≡ Some ask → (x : Ask) → slice_get asks place ≡ Some x → IsAnswer drawing.sums_of wanted x receipt
answer_of {most} set drawing wanted asks place ask share shown receipt kept value class_is ask_is shows some here x found =
    let same : ask ≡ x = cc in
    let are = kept most set drawing share.class share.ask shown receipt.value (subst (λ (k : ℕ). 1 ≤ k) (sym class_is) some) value in
    subst (λ (a : Ask). IsAnswer drawing.sums_of wanted a receipt) same
    (are.0, are.1 ∙ ap (λ (k : ℕ). drawing.sums_of k share.ask shown) class_is ∙ ap (λ (k : ℕ). drawing.sums_of ask.class k shown) ask_is ∙ ap (drawing.sums_of ask.class ask.ask) shows)
