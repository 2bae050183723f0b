-- A search along the links.
use Rattle.std.proofs.Common.{◌≡◌, ℕ, zero, suc, ◌-◌, ◌≤◌, true, false, cond, refl, ap, ◌∙◌, arith}
use Rattle.std.specs.Prelude.{Option, Some, None, find, option_map}
use Rattle.slab.specs.Slab.{Slab, get}
use Rattle.cache_table.specs.Kept.{Kept, is_kept_idle}
use Rattle.cache_table.specs.Slots.{kept_at, after_at, walk, chained}
use Rattle.cache_table.specs.declared.chain.Link.{Link}

module _ {V : Type 0} (slots : Slab (Link V)) where
  -- the first idle row of so many from a slot on
  abbrev pub idle_from : ℕ → Option ℕ → Option (ℕ × Kept V)
  idle_from count slot = find (λ row. is_kept_idle row.1) (chained slots (walk count slots slot))

  pub idle-none : (count : ℕ) → idle_from count None ≡ None
  idle-none zero = refl
  idle-none (suc count) = refl

  pub idle-end : (count : ℕ) (slot : Option ℕ) → count ≡ 0 → idle_from count slot ≡ None
  idle-end zero slot e = refl
  idle-end (suc count) slot e = absurd (omega arith)

  idle-some : (count slot : ℕ) → 1 ≤ count → idle_from count (Some slot) ≡ cond (is_kept_idle (kept_at (get slots slot))) (Some (slot, kept_at (get slots slot))) (idle_from (count - 1) (after_at (get slots slot)))
  idle-some zero slot e = absurd (omega arith)
  idle-some (suc count) slot e =
      let less : count ≡ suc count - 1 = omega arith in
      ap (λ n. cond (is_kept_idle (kept_at (get slots slot))) (Some (slot, kept_at (get slots slot))) (idle_from n (after_at (get slots slot)))) less

  -- no row is in a slot
  pub idle-vacant : (count slot : ℕ) → 1 ≤ count → get slots slot ≡ None → idle_from count (Some slot) ≡ None
  idle-vacant count slot e none =
      idle-some count slot e ∙ ap (λ o. cond (is_kept_idle (kept_at o)) (Some (slot, kept_at o)) (idle_from (count - 1) (after_at o))) none ∙ idle-none (count - 1)

  -- the row in a slot is idle
  pub idle-here : (count slot : ℕ) (link : Link V) → 1 ≤ count → get slots slot ≡ Some link → is_kept_idle (kept_at (Some link)) ≡ true → option_map (λ row. row.0) (idle_from count (Some slot)) ≡ Some slot
  idle-here count slot link e is idle =
      ap (option_map (λ row. row.0)) (idle-some count slot e ∙ ap (λ o. cond (is_kept_idle (kept_at o)) (Some (slot, kept_at o)) (idle_from (count - 1) (after_at o))) is
      ∙ ap (λ b. cond b (Some (slot, kept_at (Some link))) (idle_from (count - 1) link.after)) idle)

  -- the row in a slot is not idle
  pub idle-later : (count slot : ℕ) (link : Link V) → 1 ≤ count → get slots slot ≡ Some link → is_kept_idle (kept_at (Some link)) ≡ false → idle_from count (Some slot) ≡ idle_from (count - 1) link.after
  idle-later count slot link e is busy =
      idle-some count slot e ∙ ap (λ o. cond (is_kept_idle (kept_at o)) (Some (slot, kept_at o)) (idle_from (count - 1) (after_at o))) is
      ∙ ap (λ b. cond b (Some (slot, kept_at (Some link))) (idle_from (count - 1) link.after)) busy
