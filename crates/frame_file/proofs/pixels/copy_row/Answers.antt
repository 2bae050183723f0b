use Rattle.std.proofs.Common.{◌≡◌, ◌+ℤ◌, ◌<◌, All, pos, ap, subst, ◌∙◌, w32, rules}
use Rattle.std.specs.Int.RustNames.{FitsSigned}
use Rattle.std.proofs.lemmas.Int.{to_z-of_z}
use Rattle.std.proofs.lemmas.List.{get_or_default}
use Rattle.geom_rect.specs.declared.rect.Rect.{Rect}
use Rattle.frame_file.specs.Afr.{world_row_bytes}
use Rattle.frame_file.proofs.Packed.{row_is_bytes}
use Rattle.frame_file.proofs.pixels.copy_row.Goals as goal

pub returns : goal.returns
returns g c =
    let world = c.args.world.now in
    let fits : FitsSigned w32 c.row_at.result = search rules in
    let top_fits : FitsSigned w32 c.part-part.result.top = search rules in
    let top_is : c.part-part.result.top ≡ world.part.top = ap (λ (r : Rect). r.top) c.part-part.ensures.value in
    let is = simp to_z-of_z at c.row_at.ensures.value in
    let row = simp to_z-of_z at c.packed_row.ensures.pixels in
    let written : All (λ byte. byte < 256) c.copy_from_slice.new.self = λ i d l. subst (λ byte. byte < 256) (get_or_default c.copy_from_slice.new.self i 0 d l) (c.type_inv.into i).fits in
    let small = subst (All (λ byte. byte < 256)) c.copy_from_slice.ensures.after written in
    c.copy_from_slice.ensures.after
    ∙ row_is_bytes g.row.MAX c.packed_row.result.now world c.row_at.result c.part-part.ensures.depth c.packed_row.ensures.packed small row
    ∙ ap (world_row_bytes g.row.MAX world) (is ∙ ap (λ t. t +ℤ pos c.args.k) top_is)
