use Rattle.std.proofs.Common.{w32, w64, rules}
use Rattle.std.specs.Int.RustNames.{FitsSigned}
use Rattle.std.proofs.lemmas.Int.{to_z-of_z}
use Rattle.frame_draw.proofs.Placing.{position_of, position_cast, value_is}
use Rattle.frame_draw.proofs.layers.place_at.Goals as goal

pub overflow_cast-result : goal.overflow_cast-result
overflow_cast-result c =
    let wide : FitsSigned w64 c.at.result = search rules in
    rw (to_z-of_z w64 c.at.result wide) (position_cast c.args.stream.now c.args.base.ticks c.args.tick.0 c.at.result c.requires c.at.ensures.value)

pub returns-clause-value : goal.returns-clause-value
returns-clause-value c =
    let wide : FitsSigned w64 c.at.result = search rules in
    let fits : FitsSigned w32 c.at.result = position_cast c.args.stream.now c.args.base.ticks c.args.tick.0 c.at.result c.requires c.at.ensures.value in
    simp to_z-of_z (value_is c.args.stream.now c.args.base.ticks c.args.tick.0 c.at.result c.requires.base_is c.at.ensures.value)

pub returns-clause-near : goal.returns-clause-near
returns-clause-near c =
    let wide : FitsSigned w64 c.at.result = search rules in
    let fits : FitsSigned w32 c.at.result = position_cast c.args.stream.now c.args.base.ticks c.args.tick.0 c.at.result c.requires c.at.ensures.value in
    simp to_z-of_z (position_of c.args.stream.now c.args.base.ticks c.args.tick.0 c.at.result c.requires c.at.ensures.value)
