use Rattle.std.proofs.Common.{rules, ℤ, ◌≡◌, pos, ◌+ℤ◌, ◌-ℤ◌, ◌*ℤ◌, ap, ◌∙◌, w64}
use Rattle.std.specs.Int.{w128}
use Rattle.std.specs.Int.RustNames.{FitsSigned}
use Rattle.std.proofs.lemmas.Int.{to_z-of_z}
use Rattle.rational_time.specs.declared.time.Tick.{Tick}
use Rattle.rational_time.specs.Times.{held_of}
use Rattle.fx_analysis.proofs.asks.tick_around.Goals as goal

tick_at : ℤ → Tick
tick_at z = record { 0 = z }

pub returns : goal.returns
unfolding tick_at
returns c =
    let at = c.args.at in
    let tick_fits : FitsSigned w64 c.args.at.tick.0 = search rules in
    let frame_fits : FitsSigned w64 c.args.at.frame = search rules in
    let frames_fits : FitsSigned w64 c.difference.result = search rules in
    let ticks_fits : FitsSigned w128 c.product-ticks.result = search rules in
    let sum_fits : FitsSigned w128 c.sum.result = search rules in
    let ticks : c.product-ticks.result ≡ (pos c.args.i -ℤ pos c.args.radius) *ℤ at.frame =
    (simp to_z-of_z at c.product-ticks.ensures.value) ∙ ap (λ (z : ℤ). z *ℤ at.frame) c.difference.ensures in
    let sum : c.sum.result ≡ at.tick.0 +ℤ c.product-ticks.result = simp to_z-of_z at c.sum.ensures in
    let held : c.held.result.0 ≡ held_of at.base.ticks c.sum.result = simp to_z-of_z at c.held.ensures in
    ap tick_at (held ∙ ap (held_of at.base.ticks) (sum ∙ ap (λ (z : ℤ). at.tick.0 +ℤ z) ticks))
