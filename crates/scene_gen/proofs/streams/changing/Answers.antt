use Rattle.std.proofs.Common.{rules, sym, ◌∙◌, subst, w64, FitsSigned}
use Rattle.std.proofs.lemmas.Int.{to_z-of_z}
use Rattle.project_model.specs.Ready.{AreReady}
use Rattle.scene_gen.proofs.Keys.{pair_ready, pair_same}
use Rattle.scene_gen.proofs.streams.changing.Goals as goal

pub stream_of-requires-clause-ready : goal.stream_of-requires-clause-ready
stream_of-requires-clause-ready c =
    let first_fits : FitsSigned w64 c.args.first.0 = search rules in
    let last_fits : FitsSigned w64 c.args.last.0 = search rules in
    subst (AreReady 30000 c.args.range.least c.args.range.most)
    (sym (c.in_ok-vec.ensures.items
    ∙ pair_same c.args.first.0 _ c.args.last.0 _ c.args.first.1 c.args.last.1
    (to_z-of_z w64 c.args.first.0 first_fits) (to_z-of_z w64 c.args.last.0 last_fits)))
    (pair_ready c.args.range.least c.args.range.most c.args.first.0 c.args.last.0 c.args.first.1 c.args.last.1 c.requires.first c.requires.last)
