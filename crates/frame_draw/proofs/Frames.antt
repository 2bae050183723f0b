-- Ticks of frames, and what holds of each of a list.
use Rattle.std.proofs.Common.{◌≡◌, ℕ, zero, suc, ◌+◌, ◌*◌, ◌<◌, ◌≤◌, false, inl, inr, ℤ, pos, negsuc, ◌*ℤ◌, ◌≤ℤ◌, ◌<ℤ◌, List, length, sym, ap, subst, ◌∙◌, arith}
use Rattle.std.specs.Prelude.{Some, option_map, slice_get, int_lt}
use Rattle.std.proofs.lemmas.Bool.{cases_lt}
use Rattle.effect_api.specs.Fits.{IsHeld}
use Rattle.std.proofs.lemmas.Int.{ints, clamps}
use Rattle.rational_time.specs.Times.{held_of}
use Rattle.std.proofs.lemmas.Option.{slice_get-map}
use Rattle.project_model.specs.Plain.{plain_comp, plain_of}
use Rattle.project_model.specs.declared.comp.Comp.{Comp}
use Rattle.project_model.specs.declared.project.Project.{Project}
use Rattle.scene_meaning.specs.Output.{root_of, count_of, frame_count}
use Rattle.std.proofs.Math.Nat.{mul-le-mul_left}

-- an earlier frame begins before a later one
pub begins_before : (n m : ℕ) (ticks : ℤ) → n < m → pos 1 ≤ℤ ticks → (pos n *ℤ ticks) <ℤ (pos m *ℤ ticks)
begins_before n m (pos k) lt some = omega (arith, ints, some, mul-le-mul_left {m = n + 1} {n = m} k (omega arith))
begins_before n m (negsuc k) lt some = absurd (omega (arith, ints, some))

-- a time above zero takes some ticks
pub some_ticks : (ticks value : ℤ) (scale base : ℕ) → (ticks *ℤ pos scale) ≡ (value *ℤ pos base) → pos 1 ≤ℤ value → 1 ≤ base → pos 1 ≤ℤ ticks
some_ticks (pos zero) (pos v) scale base e some above = absurd (omega (arith, ints, e, some, mul-le-mul_left {m = 1} {n = v} base (omega (arith, ints, some))))
some_ticks (pos (suc k)) value scale base e some above = omega (arith, ints)
some_ticks (negsuc k) (pos v) scale base e some above = absurd (omega (arith, ints, e, some, mul-le-mul_left {m = 1} {n = v} base (omega (arith, ints, some))))
some_ticks ticks (negsuc v) scale base e some above = absurd (omega (arith, ints, some))

-- the root in plain parts
pub root_is : (project : Project) (root : ℕ) (comp : Comp) → root ≡ project.root → slice_get project.comps root ≡ Some comp → root_of (plain_of project) ≡ Some (plain_comp comp)
root_is project root comp e found =
    slice_get-map plain_comp project.comps project.root
    ∙ ap (option_map plain_comp) (ap (slice_get project.comps) (sym e) ∙ found)

pub frame_within : (project : Project) (root frame : ℕ) (comp : Comp) → root ≡ project.root → slice_get project.comps root ≡ Some comp → frame < frame_count (plain_of project) → frame < comp.frames
frame_within project root frame comp e found h =
    let count : frame_count (plain_of project) ≡ comp.frames = ap count_of (root_is project root comp e found) in
    omega (arith, count, h)

-- the same composition
pub same_found : (comps : List Comp) (i : ℕ) (one other : Comp) (k : ℕ) → slice_get comps i ≡ Some one → slice_get comps i ≡ Some other → k < length one.layers → k < length other.layers
same_found comps i one other k e f h = let same : one ≡ other = cc in subst (λ (c : Comp). k < length c.layers) same h

-- a held tick stays where it is
pub held_twice : (base : ℕ) (t : ℤ) → held_of base (held_of base t) ≡ held_of base t
held_twice base t = omega (arith, ints, clamps)

-- so many frames of a composition that ends within 36,000 seconds
frames_within : (n f ticks v s base : ℕ) → ticks * s ≡ v * base → n ≤ f → v * f ≤ 36000 * s → 1 ≤ s → n * ticks ≤ 36000 * base
frames_within n f ticks v s base e few short some =
    elim (cases_lt (36000 * base) (n * ticks)) [
      | inl more ↦
          let scaled : s * (36000 * base + 1) ≤ s * (n * ticks) = mul-le-mul_left s (omega (arith, more)) in
          let same : n * (ticks * s) ≡ n * (v * base) = ap (λ (k : ℕ). n * k) e in
          let fewer : (v * base) * n ≤ (v * base) * f = mul-le-mul_left (v * base) few in
          let shorter : base * (v * f) ≤ base * (36000 * s) = mul-le-mul_left base short in
          absurd (omega (arith, scaled, same, fewer, shorter, some))
      | inr least ↦ least
    ]

-- each of its frames begins at a held tick
pub frame_held : (n f s base : ℕ) (ticks v : ℤ) → (ticks *ℤ pos s) ≡ (v *ℤ pos base) → pos 1 ≤ℤ v → 1 ≤ base → n < f → int_lt (pos (36000 * s)) (v *ℤ pos f) ≡ false → 1 ≤ s → IsHeld base (pos n *ℤ ticks)
frame_held n f s base (pos ticks) (pos v) e above some within short scaled =
    let same : ticks * s ≡ v * base = omega (arith, ints, e) in
    let bound : v * f ≤ 36000 * s = omega (arith, ints, short) in
    let few : n ≤ f = omega (arith, within) in
    let le = frames_within n f ticks v s base same few bound scaled in
    omega (arith, ints, clamps, le)
frame_held n f s base (negsuc ticks) v e above some within short scaled = absurd (omega (arith, ints, some_ticks (negsuc ticks) v s base e above some))
frame_held n f s base ticks (negsuc v) e above some within short scaled = absurd (omega (arith, ints, above))
