use Rattle.std.proofs.Common.{rules, refl, w64, FitsSigned}
use Rattle.std.proofs.lemmas.Int.{to_z-of_z}
use Rattle.param_stream.specs.Curve.{IsBound}
use Rattle.project_model.proofs.Joined.{only_memory}
use Rattle.scene_gen.proofs.streams.stream_of.Goals as goal

pub unreachable-requires : goal.unreachable-requires
unreachable-requires c =
    let low : IsBound c.args.range.least = search rules in
    let high : IsBound c.args.range.most = search rules in
    let low_fits : FitsSigned w64 c.args.range.least = search rules in
    let high_fits : FitsSigned w64 c.args.range.most = search rules in
    c.in_default.not-Memory
    (only_memory 30000 c.args.keys.items c.args.keys.items c.args.range.least c.args.range.most _ _ c.in-Err.refusal c.requires.ready low high refl
    (to_z-of_z w64 c.args.range.least low_fits) (to_z-of_z w64 c.args.range.most high_fits)
    (c.in-Err.ensures.refused c.in-Err.refusal refl))
