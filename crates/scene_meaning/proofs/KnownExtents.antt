-- The extents of a layer's plane that are kept.
use Rattle.std.proofs.Common.{◌≡◌, ℕ, ℤ, List, [], cond, refl, sym, subst}
use Rattle.std.specs.Prelude.{Option, Some, IfSome}
use Rattle.std.specs.Ordering.{nat_cmp, int_cmp, is_eq}
use Rattle.std.specs.declared.cmp.Ordering.{Ordering}
use Rattle.std.specs.declared.cmp.Ordering.TheVariants.{Less, Equal, Greater}
use Rattle.std.specs.Map.{lookup}
use Rattle.std.specs.BTreeMap as tree
use Rattle.std.specs.BTreeMap.{BTreeMap}
use Rattle.std.proofs.lemmas.Map.Lookups.{exact_pairs, exact_unsigned, exact_signed}
use Rattle.geom_rect.specs.declared.rect.Rect.{Rect}
use Rattle.project_model.specs.declared.plain.PlainComp.{PlainComp}
use Rattle.project_model.specs.declared.plain.PlainLayer.{PlainLayer}
use Rattle.effect_api.specs.Sets.{EffectSet}
use Rattle.scene_meaning.specs.Extents.{IsExtentBehind}
use Rattle.scene_meaning.specs.Known.{AreKnown, KeepsExtent, key_cmp, known_at}
use Rattle.scene_meaning.specs.Scene.{SceneParts}

-- one more
kept_more : (P : ℕ → ℤ → Rect → Type 0) (old new : BTreeMap (ℕ × ℤ) Rect) (count : ℕ) (t : ℤ) (rect : Rect)
    → ((n : ℕ) (u : ℤ) → IfSome (known_at old n u) (P n u)) → P count t rect → KeepsExtent count t rect old new
    → (n : ℕ) (u : ℤ) → IfSome (known_at new n u) (P n u)
kept_more P old new count t rect known is keeps n u = subst (λ (o : Option Rect). IfSome o (P n u)) (sym (keeps (n, u))) (by (key_cmp (count, t) (n, u)) refl)
  where
    by : (o : Ordering) → key_cmp (count, t) (n, u) ≡ o → IfSome (cond (is_eq o) (Some rect) (known_at old n u)) (P n u)
    by Less e = known n u
    by Equal e =
        let same : (count, t) ≡ (n, u) = exact_pairs nat_cmp int_cmp exact_unsigned exact_signed (count, t) (n, u) e in
        subst (λ (key : ℕ × ℤ). P key.0 key.1 rect) same is
    by Greater e = known n u

module _ (set : EffectSet) (scene : SceneParts) (comp : PlainComp) (layer : PlainLayer) where
  pub known_more : (old new : BTreeMap (ℕ × ℤ) Rect) (count : ℕ) (t : ℤ) (rect : Rect) → AreKnown set scene comp layer old → IsExtentBehind set scene comp layer count t rect → KeepsExtent count t rect old new
      → AreKnown set scene comp layer new
  known_more old new count t rect known is keeps = record { each = kept_more (IsExtentBehind set scene comp layer) old new count t rect known.each is keeps }

  -- none is kept yet
  pub none_known : (known : BTreeMap (ℕ × ℤ) Rect) → known.entries ≡ [] → AreKnown set scene comp layer known
  none_known known none = record {
    each = λ n u. subst (λ (es : List ((ℕ × ℤ) × Rect)). IfSome (lookup (tree.is_at (key_cmp (n, u))) es) (IsExtentBehind set scene comp layer n u)) (sym none) tt;
  }

  -- what was found
  pub known_is : (known : BTreeMap (ℕ × ℤ) Rect) (count : ℕ) (t : ℤ) (rect : Rect) → AreKnown set scene comp layer known → Some rect ≡ known_at known count t → IsExtentBehind set scene comp layer count t rect
  known_is known count t rect are found = subst (λ (o : Option Rect). IfSome o (IsExtentBehind set scene comp layer count t)) (sym found) (are.each count t)
