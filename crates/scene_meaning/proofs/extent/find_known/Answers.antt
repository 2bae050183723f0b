use Rattle.std.proofs.Common.{FitsSigned, w64, rules}
use Rattle.std.proofs.lemmas.Int.{to_z-of_z}
use Rattle.scene_meaning.proofs.extent.find_known.Goals as goal

pub returns-in-Some : goal.returns-in-Some
returns-in-Some c =
    let fits : FitsSigned w64 c.args.tick.0 = search rules in
    simp to_z-of_z at c.in-Some.ensures.value

pub returns-in-None : goal.returns-in-None
returns-in-None c =
    let fits : FitsSigned w64 c.args.tick.0 = search rules in
    simp to_z-of_z at c.in-None.ensures.value
