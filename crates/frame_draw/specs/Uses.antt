-- What effects are drawn from.
use Rattle.std.specs.Prelude.{◌≡◌, ◌≢◌, ◌++◌, ◌∷◌, [], ℕ, ℤ, Bool, false, List, map, slice_get, Option, Some, None}
use Rattle.std.specs.List.{All, AllZip}
use Rattle.geom_rect.specs.declared.rect.Rect.{Rect}
use Rattle.argb_pixel.specs.Pixel.{Argb}
use Rattle.argb_world.specs.Picture.{Picture}
use Rattle.comp_stack.specs.Stack.{Plane}
use Rattle.comp_stack.specs.Layers.{plane_of}
use Rattle.rational_time.specs.declared.time.Tick.{Tick}
use Rattle.project_model.specs.Bounds.{most_of}
use Rattle.project_model.specs.Uses.{AreUses}
use Rattle.compute_cache.specs.State.{Plain}
use Rattle.compute_cache.specs.Passes.{CachePass, IsLater, turns}
use Rattle.compute_cache.specs.Suite.{Suite, ReceiptOf, IsAsBefore, hold_of}
use Rattle.effect_api.specs.declared.moment.Want.{Want}
use Rattle.effect_api.specs.declared.moment.Ask.{Ask}
use Rattle.effect_api.specs.declared.pre_render.Checkout.{Checkout}
use Rattle.effect_api.specs.declared.checkouts.Value.{Value}
use Rattle.effect_api.specs.Effects.{Shows}
use Rattle.effect_api.specs.Planes.{IsPlane}
use Rattle.effect_api.specs.Checked.{HasWorld, IsShared, IsSumsValue, Pixels, value_sums, world_of}
use Rattle.effect_api.specs.Sets.{EffectSet}
use Rattle.frame_draw.specs.Areas.{StandsFor}
use Rattle.scene_meaning.specs.Scene.{SceneParts}
use Rattle.scene_meaning.specs.Shown.{PlainScene}
use Rattle.scene_cache.specs.Sharing.{OpensOne, value_of_share}
use Rattle.scene_cache.specs.declared.share.Share.{Share}

-- a scene of this depth whose effects are of the set, and which is that of the cache's job
pub record IsDrawable (most : ℕ) (set : EffectSet) (scene job : SceneParts) : Type 0 where
  pub depth : most ≡ most_of scene.project.depth
  pub uses : AreUses set.schemas scene.project
  pub job_is : job ≡ scene

-- the world has these bounds and this part, and shows the drawing there
pub record IsDrawnPart (bounds part : Rect) (drawing : ℤ → ℤ → Argb) (world : Picture) : Type 0 where
  pub extent : world.extent ≡ bounds
  pub part_is : world.part ≡ part
  pub shows : Shows part drawing world

module _ {most : ℕ} {K : Type 0} where
  -- Pixels for a checkout: they stand for the plane that is wanted, where that is requested, and are shared where it is of another tick.
  pub record IsWanted (wanted : Want → Plane) (tick : Tick) (checkout : Checkout) (pixels : Pixels most K) : Type 0 where
    pub stands : StandsFor checkout.request (wanted checkout.want) (world_of pixels)
    pub plane : IsPlane most (plane_of (world_of pixels))
    pub world : HasWorld pixels
    pub shared : checkout.want.tick ≢ tick → IsShared pixels

  -- pixels for these checkouts, in their order and by their numbers
  pub record AreWanted (wanted : Want → Plane) (tick : Tick) (checkouts : List Checkout) (pairs : List (ℕ × Pixels most K)) : Type 0 where
    pub numbers : (i : ℕ) (pair : ℕ × Pixels most K) → slice_get pairs i ≡ Some pair → pair.0 ≡ i
    pub each : AllZip (λ checkout pair. IsWanted wanted tick checkout pair.1) checkouts pairs

  -- the sums that an ask is answered by: those of its class, of its own number, over the plane that is wanted
  abbrev pub IsAnswer : (ℕ → ℕ → Plane → List ℕ) → (Want → Plane) → Ask → ReceiptOf (Value most) K → Type 0
  IsAnswer sums_of wanted ask receipt = IsSumsValue receipt.value × (value_sums receipt.value ≡ sums_of ask.class ask.ask (wanted ask.want))

-- the pass has these further open receipts, in their order after those that it had, and nothing else changed
pub record OpensAll {V K : Type 0} (cache : Suite (Plain V K)) (old : CachePass (Plain V K)) (receipts : List (ReceiptOf V K)) (new : CachePass (Plain V K)) : Type 0 where
  pub later : IsLater old new
  pub turns_are : turns new ≡ turns old
  pub locks : All (λ receipt. receipt.lock ≡ cache.lock) receipts
  pub passes : All (λ receipt. receipt.pass ≡ new.number) receipts
  pub holds : new.receipts ≡ old.receipts ++ map hold_of receipts

-- the receipt of what was taken, if there is one
abbrev pub receipts_in : {V K : Type 0} → Option (ReceiptOf V K) → List (ReceiptOf V K)
receipts_in (Some receipt) = receipt ∷ []
receipts_in None = []

-- a receipt of the value is open; or there is none, since another pass computes it and it was not waited for, and all is as before
abbrev pub IsShareTaken : {most : ℕ} {K : Type 0} → PlainScene → Share → Bool → Suite (Plain (Value most) K) → CachePass (Plain (Value most) K) → CachePass (Plain (Value most) K) → Option (ReceiptOf (Value most) K) → Type 0
IsShareTaken scene share wait cache old new (Some receipt) = OpensOne cache old new receipt × (value_of_share scene share ≡ Some receipt.value)
IsShareTaken scene share wait cache old new None = IsAsBefore old new × (wait ≡ false)
