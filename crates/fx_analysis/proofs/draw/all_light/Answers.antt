use Rattle.std.proofs.Common.{arith}
use Rattle.effect_api.specs.Checked.{sums_in}
use Rattle.fx_analysis.proofs.Given.{light_within, lights_within}
use Rattle.fx_analysis.proofs.draw.all_light.Goals as goal

pub overflow_add-luma : goal.overflow_add-luma
overflow_add-luma g c =
    let lights = sums_in c.args.sums.now in
    omega (arith, lights_within 0 lights c.loop-i.i (omega arith) c.requires.lights, light_within _ 0 c.light_at-light.ensures.light (omega arith), c.light_at-light.ensures.luma, c.loop-i.invariant.luma, c.loop-i-test.true, c.requires.few)

pub overflow_add-alpha : goal.overflow_add-alpha
overflow_add-alpha g c =
    let lights = sums_in c.args.sums.now in
    omega (arith, lights_within 1 lights c.loop-i.i (omega arith) c.requires.lights, light_within _ 1 c.light_at-light.ensures.light (omega arith), c.light_at-light.ensures.alpha, c.loop-i.invariant.alpha, c.loop-i-test.true, c.requires.few)

pub returns-clause-within : goal.returns-clause-within
returns-clause-within g c =
    let lights = sums_in c.args.sums.now in
    omega (arith, lights_within 0 lights c.loop-i.i (omega arith) c.requires.lights, c.loop-i.invariant.luma, c.loop-i.auto.i-end, c.requires.few)
