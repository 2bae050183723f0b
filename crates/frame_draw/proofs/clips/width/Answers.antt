use Rattle.std.proofs.Common.{w32, rules, ◌∙◌}
use Rattle.std.specs.Int.RustNames.{FitsSigned}
use Rattle.std.proofs.lemmas.Int.{to_z-of_z}
use Rattle.frame_draw.proofs.Drawing.{width_is}
use Rattle.frame_draw.proofs.clips.width.Goals as goal

pub returns : goal.returns
returns c =
    let part = c.args.part.now in
    let left_fits : FitsSigned w32 part.left = search rules in
    let right_fits : FitsSigned w32 part.right = search rules in
    (simp to_z-of_z at c.abs_diff.ensures) ∙ width_is part.left part.right c.requires
