use Rattle.std.proofs.Common.{◌≡◌, ℤ, subst, sym, ap, ◌∙◌, w64, rules}
use Rattle.std.specs.Prelude.{◌-ℤ◌}
use mir.Syntax.{w128}
use Rattle.std.specs.Int.RustNames.{FitsSigned}
use Rattle.std.proofs.lemmas.Int.{to_z-of_z}
use Rattle.rational_time.specs.Times.{held_of}
use Rattle.effect_api.specs.Fits.{IsHeld}
use Rattle.frame_draw.proofs.Frames.{held_twice}
use Rattle.frame_draw.proofs.layers.since_start.Goals as goal

pub returns-clause-tick : goal.returns-clause-tick
returns-clause-tick c =
    let base = c.args.base.ticks in
    let tick : FitsSigned w64 c.args.tick.0 = search rules in
    let wide : FitsSigned w64 c.to_tick.result.0 = search rules in
    let left : FitsSigned w128 c.from.result = search rules in
    let right : FitsSigned w128 c.from-2.result = search rules in
    let both : FitsSigned w128 (c.from.result -ℤ c.from-2.result) = search rules in
    let held : c.held.result.0 ≡ held_of base (c.from.result -ℤ c.from-2.result) = simp to_z-of_z at c.held.ensures in
    let now : c.from.result ≡ c.args.tick.0 = simp to_z-of_z at c.from.ensures in
    let start : c.from-2.result ≡ c.to_tick.result.0 = simp to_z-of_z at c.from-2.ensures in
    held
    ∙ ap (λ (z : ℤ). held_of base (z -ℤ c.from-2.result)) now
    ∙ ap (λ (z : ℤ). held_of base (c.args.tick.0 -ℤ z)) (start ∙ c.to_tick.ensures.value)

pub returns-clause-held : goal.returns-clause-held
returns-clause-held c =
    let base = c.args.base.ticks in
    let tick : FitsSigned w64 c.args.tick.0 = search rules in
    let wide : FitsSigned w64 c.to_tick.result.0 = search rules in
    let left : FitsSigned w128 c.from.result = search rules in
    let right : FitsSigned w128 c.from-2.result = search rules in
    let both : FitsSigned w128 (c.from.result -ℤ c.from-2.result) = search rules in
    let held : c.held.result.0 ≡ held_of base (c.from.result -ℤ c.from-2.result) = simp to_z-of_z at c.held.ensures in
    subst (λ (z : ℤ). IsHeld base z) (sym held) (held_twice base (c.from.result -ℤ c.from-2.result))
