use Rattle.std.proofs.Common.{◌<◌, ◌++◌, All, length, ap, subst, ◌∙◌, w32}
use Rattle.std.proofs.Math.Seq.{drop-append_seam}
use Rattle.std.proofs.lemmas.List.Elements.{All-drop}
use Rattle.std.specs.Int.RustNames.{FitsSigned}
use Rattle.std.proofs.lemmas.Int.{to_z-of_z}
use Rattle.frame_file.proofs.Packed.{row_is_bytes}
use Rattle.frame_file.proofs.pixels.push_row.Goals as goal

pub returns : goal.returns
returns g c =
    let fits : FitsSigned w32 c.args.y = c.ranges.y in
    let row = simp to_z-of_z at c.packed_row.ensures.pixels in
    let old = c.args.bytes.now.items in
    let items = c.in_ok-extend_from_slice.ensures.items in
    let all : All (λ byte. byte < 256) (old ++ c.packed_row.result.now) = subst (All (λ byte. byte < 256)) items c.type_inv.bytes in
    let small = subst (All (λ byte. byte < 256)) (drop-append_seam old c.packed_row.result.now) (All-drop (λ byte. byte < 256) (length old) (old ++ c.packed_row.result.now) all) in
    items
    ∙ ap (λ xs. old ++ xs) (row_is_bytes g.row.MAX c.packed_row.result.now c.args.world.now c.args.y c.requires.depth c.packed_row.ensures.packed small row)
