use Rattle.std.proofs.Common.{◌<◌, length, rules}
use Rattle.scene_meaning.specs.Scene.{EndsInTime}
use Rattle.scene_meaning.proofs.Inside.{holds_at}
use Rattle.scene_meaning.proofs.parts.comp_at.Goals as goal

pub returns-clause-ends : goal.returns-clause-ends
returns-clause-ends c =
    let project = c.project.result.now in
    let here : c.args.index < length c.as_slice.result.now = search rules in
    holds_at EndsInTime project.comps c.as_slice.result.now c.args.index c.index-as_slice-index.result c.project.ensures.lengths c.as_slice.ensures here c.index-as_slice-index.is
