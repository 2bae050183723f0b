use Rattle.std.proofs.Common.{refl, w64}
use Rattle.std.proofs.lemmas.Int.{to_z-of_z}
use Rattle.std.proofs.lemmas.List.Elements.{All-same}
use Rattle.param_stream.specs.Curve.{IsTimed}
use Rattle.project_model.proofs.Joined.{only_memory}
use Rattle.project_model.proofs.join.stream_of.Goals as goal

pub new-requires-clause-timed : goal.new-requires-clause-timed
new-requires-clause-timed c = All-same (IsTimed c.args.base.ticks) _ _ c.into_vec.ensures c.requires.ready.timed

pub unreachable-requires : goal.unreachable-requires
unreachable-requires c =
    c.in_default.not-Memory
    (only_memory c.args.base.ticks c.args.keys c.into_vec.result.items c.args.least c.args.most _ _ c.in-Err.refusal
    c.requires.ready c.requires.least c.requires.most c.into_vec.ensures
    (to_z-of_z w64 c.args.least c.ranges.least) (to_z-of_z w64 c.args.most c.ranges.most)
    (c.in-Err.ensures.refused c.in-Err.refusal refl))
