use Rattle.std.proofs.Common.{sym, ◌∙◌, subst, ap, w64}
use Rattle.std.proofs.lemmas.Int.{to_z-of_z}
use Rattle.project_model.specs.Constant.{constant}
use Rattle.project_model.specs.Ready.{AreReady}
use Rattle.scene_gen.proofs.Keys.{constant_ready}
use Rattle.scene_gen.proofs.streams.steady.Goals as goal

pub stream_of-requires-clause-ready : goal.stream_of-requires-clause-ready
stream_of-requires-clause-ready c =
    subst (AreReady 30000 c.args.range.least c.args.range.most)
    (sym (c.in_ok-vec.ensures.items ∙ ap constant (to_z-of_z w64 c.args.value c.ranges.value)))
    (constant_ready c.args.range.least c.args.range.most c.args.value c.requires.within)
