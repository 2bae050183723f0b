-- Effects of a scene as they are given to their set, and ticks within 36,000 seconds.
use Rattle.std.proofs.Common.{◌≡◌, ℕ, zero, suc, ◌+◌, ◌*◌, ◌≤◌, false, ℤ, pos, negsuc, ◌*ℤ◌, ◌≤ℤ◌, ◌<ℤ◌, List, length, inl, inr, ap, arith}
use Rattle.std.specs.Prelude.{Some, slice_get, int_lt, unsigned_abs}
use Rattle.std.specs.List.{All}
use Rattle.std.proofs.lemmas.Bool.{cases_lt}
use Rattle.std.proofs.lemmas.Int.{ints, clamps}
use Rattle.std.proofs.Math.Nat.{mul-le-mul_left}
use Rattle.rational_time.specs.Times.{tick_of}
use Rattle.rational_time.specs.declared.time.Time.{Time}
use Rattle.rational_time.specs.declared.time.TheConstants.{MOST_SECONDS}
use Rattle.rational_time.proofs.Numbers.{abs-product, scaled_up, scaled_near}
use Rattle.project_model.specs.Effects.{Use, FitsKind}
use Rattle.project_model.specs.Sound.{IsWritten}
use Rattle.project_model.specs.Uses.{IsUse, AreUses}
use Rattle.project_model.specs.declared.comp.Comp.{Comp}
use Rattle.project_model.specs.declared.effect.EffectSchema.{EffectSchema}
use Rattle.project_model.specs.declared.effect.FxUse.{FxUse}
use Rattle.project_model.specs.declared.layer.Layer.{Layer}
use Rattle.project_model.specs.declared.project.Project.{Project}
use Rattle.effect_api.specs.Fits.{IsHeld, IsGiven}
use Rattle.scene_meaning.specs.Drawn.{moment_at}
use Rattle.scene_meaning.proofs.Inside.{found_holds}

-- a time above zero takes some ticks
pub some_ticks : (ticks value : ℤ) (scale base : ℕ) → (ticks *ℤ pos scale) ≡ (value *ℤ pos base) → pos 1 ≤ℤ value → 1 ≤ base → pos 1 ≤ℤ ticks
some_ticks (pos zero) (pos v) scale base e some above = absurd (omega (arith, ints, e, some, mul-le-mul_left {m = 1} {n = v} base (omega (arith, ints, some))))
some_ticks (pos (suc k)) value scale base e some above = omega (arith, ints)
some_ticks (negsuc k) (pos v) scale base e some above = absurd (omega (arith, ints, e, some, mul-le-mul_left {m = 1} {n = v} base (omega (arith, ints, some))))
some_ticks ticks (negsuc v) scale base e some above = absurd (omega (arith, ints, some))

-- so many frames of a composition that ends within 36,000 seconds
pub frames_within : (n f ticks v s base : ℕ) → ticks * s ≡ v * base → n ≤ f → v * f ≤ 36000 * s → 1 ≤ s → n * ticks ≤ 36000 * base
frames_within n f ticks v s base e few short some =
    elim (cases_lt (36000 * base) (n * ticks)) [
      | inl more ↦
          let scaled : s * (36000 * base + 1) ≤ s * (n * ticks) = mul-le-mul_left s (omega (arith, more)) in
          let same : n * (ticks * s) ≡ n * (v * base) = ap (λ (k : ℕ). n * k) e in
          let fewer : (v * base) * n ≤ (v * base) * f = mul-le-mul_left (v * base) few in
          let shorter : base * (v * f) ≤ base * (36000 * s) = mul-le-mul_left base short in
          absurd (omega (arith, scaled, same, fewer, shorter, some))
      | inr least ↦ least
    ]

-- a tick from 0 on and before its end is held
pub held_inside : (f s base : ℕ) (t ticks v : ℤ) → (ticks *ℤ pos s) ≡ (v *ℤ pos base) → pos 1 ≤ℤ v → 1 ≤ base → pos 0 ≤ℤ t → t <ℤ (pos f *ℤ ticks) → int_lt (pos (36000 * s)) (v *ℤ pos f) ≡ false → 1 ≤ s → IsHeld base t
held_inside f s base t (pos ticks) (pos v) e above some low high short scaled =
    let same : ticks * s ≡ v * base = omega (arith, ints, e) in
    let bound : v * f ≤ 36000 * s = omega (arith, ints, short) in
    let le = frames_within f f ticks v s base same (omega arith) bound scaled in
    omega (arith, ints, clamps, le, low, high)
held_inside f s base t (negsuc ticks) v e above some low high short scaled = absurd (omega (arith, ints, some_ticks (negsuc ticks) v s base e above some))
held_inside f s base t ticks (negsuc v) e above some low high short scaled = absurd (omega (arith, ints, above))

-- a frame lasts from one tick to 36,000 seconds
pub frame_low : (base : ℕ) (time : Time) → IsWritten base time → pos 1 ≤ℤ time.value → 1 ≤ base → pos 1 ≤ℤ tick_of base time
frame_low base time written some above = some_ticks (tick_of base time) time.value time.scale base (scaled_up time.value base time.scale written.divides) some above

at_most : (z : ℤ) (n : ℕ) → unsigned_abs z ≤ n → z ≤ℤ pos n
at_most (pos k) n le = omega (arith, ints, le)
at_most (negsuc k) n le = omega (arith, ints)

pub frame_high : (base : ℕ) (time : Time) → IsWritten base time → tick_of base time ≤ℤ pos (MOST_SECONDS * base)
frame_high base time written = at_most (tick_of base time) (MOST_SECONDS * base) (rw abs-product (scaled_near _ _ _ written.divides written.near))

-- each use of an effect fits the set
pub use_at : (schemas : List EffectSchema) (project : Project) (of index number : ℕ) (comp : Comp) (layer : Layer) (fx : FxUse) → AreUses schemas project → slice_get project.comps of ≡ Some comp → slice_get comp.layers index ≡ Some layer
    → slice_get layer.effects number ≡ Some fx → IsUse schemas project.base.ticks (length comp.layers) fx
use_at schemas project of index number comp layer fx uses here there found =
    found_holds (IsUse schemas project.base.ticks (length comp.layers)) layer.effects number fx
    (found_holds (λ (l : Layer). All (IsUse schemas project.base.ticks (length comp.layers)) l.effects) comp.layers index layer
    (found_holds (λ (k : Comp). All (λ (l : Layer). All (IsUse schemas project.base.ticks (length k.layers)) l.effects) k.layers) project.comps of comp uses here)
    there) found

-- and is given to it at a moment of its composition
pub given_at : (schemas : List EffectSchema) (fx : Use) (base : ℕ) (frame t : ℤ) → FitsKind schemas fx → IsHeld base t → pos 1 ≤ℤ frame → frame ≤ℤ pos (MOST_SECONDS * base) → IsGiven schemas fx (moment_at base frame t)
given_at schemas fx base frame t fits held low high = record { fits = fits; held = held; frame_low = low; frame_high = high }
