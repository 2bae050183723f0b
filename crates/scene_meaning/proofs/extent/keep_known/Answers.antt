use Rattle.std.proofs.Common.{FitsSigned, w64, rules}
use Rattle.std.proofs.lemmas.Int.{to_z-of_z}
use Rattle.scene_meaning.proofs.extent.keep_known.Goals as goal

pub returns : goal.returns
returns c =
    let fits : FitsSigned w64 c.args.tick.0 = search rules in
    simp to_z-of_z at c.in_ok-insert.ensures.updates.0
