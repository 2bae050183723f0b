use Rattle.std.proofs.Common.{w64, rules, ap}
use Rattle.std.specs.Prelude.{unsigned_abs}
use Rattle.std.specs.Int.RustNames.{FitsSigned}
use Rattle.std.proofs.lemmas.Int.{to_z-of_z}
use Rattle.frame_draw.proofs.Placing.{opacity_of, opacity_cast, value_is}
use Rattle.frame_draw.proofs.layers.opacity_at.Goals as goal

pub overflow_cast-result : goal.overflow_cast-result
overflow_cast-result c =
    let wide : FitsSigned w64 c.at.result = search rules in
    rw (to_z-of_z w64 c.at.result wide) (opacity_cast c.args.stream.now c.args.base.ticks c.args.tick.0 c.at.result c.requires c.at.ensures.value)

pub returns-clause-value : goal.returns-clause-value
returns-clause-value c =
    let wide : FitsSigned w64 c.at.result = search rules in
    simp to_z-of_z (ap unsigned_abs (value_is c.args.stream.now c.args.base.ticks c.args.tick.0 c.at.result c.requires.base_is c.at.ensures.value))

pub returns-clause-part : goal.returns-clause-part
returns-clause-part c =
    let wide : FitsSigned w64 c.at.result = search rules in
    simp to_z-of_z (opacity_of c.args.stream.now c.args.base.ticks c.args.tick.0 c.at.result c.requires c.at.ensures.value)
