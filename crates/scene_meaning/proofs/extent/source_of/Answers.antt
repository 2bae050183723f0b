use Rattle.scene_meaning.proofs.Extents.{source_is}
use Rattle.scene_meaning.proofs.Inside.{there_is}
use Rattle.scene_meaning.proofs.Numbers.{comp_within}
use Rattle.scene_meaning.proofs.extent.source_of.Goals as goal

pub returns : goal.returns
returns c =
    let comps = c.args.scene.now.project.comps in
    let found = there_is comps c.args.comp (comp_within comps c.args.comp c.args.layer c.requires) in
    λ set t.
    source_is set c.args.scene.now c.args.comp c.args.layer found.0 c.layer_at.result.now t c.source_extent.result found.1 (c.layer_at.ensures.here found.0 found.1) (c.source_extent.ensures.extent set t)
