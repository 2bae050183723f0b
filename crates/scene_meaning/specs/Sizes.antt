-- The sizes of what is kept of a scene are counted in 32 bits.
use Rattle.std.proofs.Common.{◌≡◌, ℕ, zero, suc, ◌+◌, ◌*◌, ◌^◌, ◌<◌, ◌≤◌, Bool, true, false, length, refl, subst, arith}
use Rattle.std.specs.Prelude.{Option, Some, None, option_and_then, if◌then◌else◌, nat_le, nat_lt, nat_eq, ◌&&◌, unsigned_abs}
use Rattle.std.proofs.lemmas.Bool.{and_parts, leb-true}
use Rattle.std.proofs.Math.Nat.{mul-le-mul_left}
use Rattle.geom_rect.specs.Rect.{area_of}
use Rattle.argb_pixel.specs.Packed.{pixel_size}
use Rattle.argb_world.specs.Picture.{greatest_part}
use Rattle.comp_stack.specs.Stack.{Plane}
use Rattle.rational_time.specs.declared.time.TheConstants.{MOST_SECONDS}
use Rattle.project_model.specs.declared.node.NodeId.{NodeId}
use Rattle.effect_api.specs.declared.checkouts.Value.{Value}
use Rattle.effect_api.specs.declared.checkouts.Value.TheVariants as value
use Rattle.effect_api.specs.Sets.{EffectSet, Drawing}
use Rattle.scene_meaning.specs.Right.{class_in, node_in, ask_in, tick_in, node_numbered, whole_of, value_of, kept, size_in}
use Rattle.scene_meaning.specs.Shown.{PlainScene, base_in, plane}

pixel_few : (most : ℕ) → pixel_size most ≤ 8
pixel_few most = by (nat_eq most 255)
  where
    by : (b : Bool) → (if b then 4 else 8) ≤ 8
    by true = omega arith
    by false = omega arith

area_size : (n area : ℕ) → n ≤ 8 → area ≤ greatest_part → 64 + n * area < 2 ^ 32
area_size n area few within = omega (arith, mul-le-mul_left {m = n} {n = 8} area few, within)

-- what a test chose
pub chosen : {A : Type 0} (b : Bool) (x y : A) → (if b then Some x else None) ≡ Some y → (b ≡ true) × (x ≡ y)
chosen true x y e = (refl, cc)
chosen false x y e = let wrong : ⊥ = cc in absurd wrong

value_fits : {most : ℕ} (set : EffectSet) (drawing : Drawing) (class ask : ℕ) (plane : Plane) (v : Value most) → ((c a : ℕ) (p : Plane) → length (drawing.sums_of c a p) ≤ 65536) → value_of set drawing class ask plane ≡ Some v → size_in v < 2 ^ 32
value_fits {most} set drawing zero ask plane v few e =
    let test = nat_eq ask 0 && nat_le (area_of plane.extent) greatest_part in
    let is = chosen test (value.Plane (whole_of plane)) v e in
    let within : area_of plane.extent ≤ greatest_part = leb-true (area_of plane.extent) greatest_part (and_parts (nat_eq ask 0) (nat_le (area_of plane.extent) greatest_part) is.0).1 in
    subst (λ (w : Value most). size_in w < 2 ^ 32) is.1 (area_size (pixel_size most) (area_of plane.extent) (pixel_few most) within)
value_fits {most} set drawing (suc index) ask plane v few e =
    let is = chosen (nat_lt index (length set.class_names)) (value.Sums (drawing.sums_of (suc index) ask plane)) v e in
    subst (λ (w : Value most). size_in w < 2 ^ 32) is.1 (omega (arith, few (suc index) ask plane))

-- each value that is kept has a size that is counted
pub kept_fits : (most : ℕ) (scene : PlainScene) (class key : ℕ) (v : Value most) → ((c a : ℕ) (p : Plane) → length (scene.drawing.sums_of c a p) ≤ 65536) → kept most scene class key ≡ Some v → size_in v < 2 ^ 32
kept_fits most scene class key v few e = by (nat_eq (class_in key) class && nat_le (unsigned_abs (tick_in key)) (MOST_SECONDS * base_in scene.project)) (node_numbered scene.project (node_in key)) e
  where
    by : (b : Bool) (o : Option NodeId)
        → (if b then option_and_then (λ node. value_of {most = most} scene.set scene.drawing class (ask_in key) (plane scene node (tick_in key))) o else None) ≡ Some v → size_in v < 2 ^ 32
    by true (Some node) e = value_fits scene.set scene.drawing class (ask_in key) (plane scene node (tick_in key)) v few e
    by true None e = let wrong : ⊥ = cc in absurd wrong
    by false o e = let wrong : ⊥ = cc in absurd wrong
