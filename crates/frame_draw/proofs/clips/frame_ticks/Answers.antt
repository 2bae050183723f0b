use Rattle.std.proofs.Common.{w64, rules}
use Rattle.std.specs.Int.RustNames.{FitsSigned}
use Rattle.std.proofs.lemmas.Int.{to_z-of_z}
use Rattle.frame_draw.proofs.Frames.{some_ticks}
use Rattle.frame_draw.proofs.clips.frame_ticks.Goals as goal

pub returns-clause-some : goal.returns-clause-some
returns-clause-some c =
    let declared = c.args.declared.now in
    let wide : FitsSigned w64 c.to_tick.result.0 = search rules in
    rw (to_z-of_z w64 c.to_tick.result.0 wide) (some_ticks c.to_tick.result.0 declared.frame.value declared.frame.scale c.args.base.ticks c.to_tick.ensures.seconds c.requires.sound.readable.value c.requires.some)
