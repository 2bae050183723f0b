-- Planes as values: whole pictures.
use Rattle.std.specs.Prelude.{◌≡◌, ℕ, ◌≤◌, Some}
use Rattle.comp_stack.specs.Stack.{Plane}
use Rattle.comp_stack.specs.Layers.{plane_of}
use Rattle.effect_api.specs.Planes.{IsPlane}
use Rattle.effect_api.specs.Checked.{IsPlaneValue, IsSumsValue, value_world, value_sums}
use Rattle.effect_api.specs.Sets.{EffectSet, Drawing}
use Rattle.effect_api.specs.declared.checkouts.Value.{Value}
use Rattle.scene_meaning.specs.Right.{value_of}

-- what is kept of a plane is a picture, all of it is there, and it shows the plane
abbrev pub KeptPlanesShow : Type 0
KeptPlanesShow =
    (most : ℕ) (set : EffectSet) (drawing : Drawing) (plane : Plane) (v : Value most) → IsPlane most plane
    → value_of set drawing 0 0 plane ≡ Some v
    → IsPlaneValue v × (plane_of (value_world v) ≡ plane) × ((value_world v).part ≡ (value_world v).extent)

-- what is kept under a class of the set is the sums
abbrev pub KeptSumsAre : Type 0
KeptSumsAre =
    (most : ℕ) (set : EffectSet) (drawing : Drawing) (class ask : ℕ) (plane : Plane) (v : Value most) → 1 ≤ class
    → value_of set drawing class ask plane ≡ Some v
    → IsSumsValue v × (value_sums v ≡ drawing.sums_of class ask plane)
