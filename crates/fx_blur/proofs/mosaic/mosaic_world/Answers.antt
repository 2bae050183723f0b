use Rattle.std.proofs.Common.{◌≡◌, ◌*◌, ℤ, ap, ◌∙◌, w32, arith, rules, length}
use Rattle.std.specs.Int.RustNames.{FitsSigned}
use Rattle.std.proofs.lemmas.Int.{to_z-of_z}
use Rattle.geom_rect.specs.declared.rect.Rect.{Rect}
use Rattle.geom_rect.specs.Rect.{Has, width_of}
use Rattle.argb_pixel.specs.Packed.{pixel_size}
use Rattle.fx_blur.specs.Mosaic.{blocks_of}
use Rattle.fx_blur.specs.Columns.{HasBlock}
use Rattle.fx_blur.proofs.BlockMeans.{blocks_hold}
use Rattle.fx_blur.proofs.mosaic.mosaic_world.Goals as goal

pub mosaic_rows-requires : goal.mosaic_rows-requires
mosaic_rows-requires g c =
    let left_fits : FitsSigned w32 c.blocks-all.result.left = search rules in
    let all : c.blocks-all.result ≡ blocks_of c.args.size c.args.input.now.extent c.args.target.now.part =
    c.blocks-all.ensures ∙ ap (λ (r : Rect). blocks_of c.args.size r c.part-part.result) c.extent.ensures ∙ ap (blocks_of c.args.size c.args.input.now.extent) c.part-part.ensures.value in
    let long : length c.deref_mut.result.now ≡ length c.in_ok-columns.columns.items = ap length c.deref_mut.ensures.value in
    let wide : length c.deref_mut.result.now ≡ width_of c.blocks-all.result = omega (arith, long, c.in_ok-columns.ensures) in
    let there : (u v : ℤ) → Has c.args.target.now.part u v → Has c.args.input.now.extent u v
    → HasBlock c.args.size c.args.input.now.extent.left c.args.input.now.extent.right c.blocks-all.result.left (length c.deref_mut.result.now) u =
    λ u v. blocks_hold c.args.size c.args.input.now.extent c.args.target.now.part c.blocks-all.result (length c.deref_mut.result.now) u v c.requires.some all wide in
    let bytes : length c.deref_mut-2.result.now ≡ pixel_size g.row.MAX * length c.deref_mut.result.now = search rules in
    let room : length c.deref_mut-3.result.now ≡ width_of c.args.target.now.part = search rules in
    (omega arith, (omega arith, (c.requires.depth, (c.requires.some, (c.requires.few, (bytes, (room, simp to_z-of_z there)))))))
