-- The extents of a layer's plane that are kept, by how many of its effects it is behind and the tick.
use Rattle.std.specs.Prelude.{◌≡◌, ℕ, ℤ, cond, Option, Some, IfSome}
use Rattle.std.specs.Ordering.{nat_cmp, int_cmp, ordering_then, is_eq}
use Rattle.std.specs.declared.cmp.Ordering.{Ordering}
use Rattle.std.specs.BTreeMap as tree
use Rattle.std.specs.BTreeMap.{BTreeMap}
use Rattle.geom_rect.specs.declared.rect.Rect.{Rect}
use Rattle.project_model.specs.declared.plain.PlainComp.{PlainComp}
use Rattle.project_model.specs.declared.plain.PlainLayer.{PlainLayer}
use Rattle.effect_api.specs.Sets.{EffectSet}
use Rattle.scene_meaning.specs.Extents.{IsExtentBehind}
use Rattle.scene_meaning.specs.Scene.{SceneParts}

-- the order of their keys
abbrev pub key_cmp : ℕ × ℤ → ℕ × ℤ → Ordering
key_cmp x y = ordering_then (nat_cmp x.0 y.0) (int_cmp x.1 y.1)

-- what is kept behind so many effects at a tick
abbrev pub known_at : BTreeMap (ℕ × ℤ) Rect → ℕ → ℤ → Option Rect
known_at known count t = tree.get key_cmp known (count, t)

-- one is kept there, and all others stay
abbrev pub KeepsExtent : ℕ → ℤ → Rect → BTreeMap (ℕ × ℤ) Rect → BTreeMap (ℕ × ℤ) Rect → Type 0
KeepsExtent count t rect old new =
    (key : ℕ × ℤ) → tree.get key_cmp new key ≡ cond (is_eq (key_cmp (count, t) key)) (Some rect) (tree.get key_cmp old key)

-- each that is kept is the extent of this layer's plane
pub record AreKnown (set : EffectSet) (scene : SceneParts) (comp : PlainComp) (layer : PlainLayer) (known : BTreeMap (ℕ × ℤ) Rect) : Type 0 where
  pub each : (count : ℕ) (t : ℤ) → IfSome (known_at known count t) (IsExtentBehind set scene comp layer count t)
