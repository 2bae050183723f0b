use Rattle.std.proofs.Common.{◌≡◌, ◌<◌, ℤ, pos, length, sym, ap, subst, ◌∙◌, arith, w32, to_z, rules}
use Rattle.std.specs.Int.RustNames.{FitsSigned}
use Rattle.std.proofs.lemmas.Int.{ints, to_z-of_z, to_z_pos}
use Rattle.geom_rect.specs.declared.rect.Rect.{Rect}
use Rattle.geom_rect.specs.Rect.{width_of}
use Rattle.argb_pixel.specs.Packed.{pixels_of}
use Rattle.argb_world.specs.Picture.{StaysOffRow, row_of}
use Rattle.frame_draw.proofs.Areas.{differ}
use Rattle.frame_draw.proofs.Drawing.{row_drawn, row_fits}
use Rattle.frame_draw.proofs.clips.draw_row.Goals as goal

pub packed_span-requires : goal.packed_span-requires
packed_span-requires g c =
    let left_fits : FitsSigned w32 c.part-part.result.left = search rules in
    let from : pos c.place-left.result ≡ c.args.world.now.part.left = (simp to_z-of_z at c.place-left.ensures) ∙ ap (λ (r : Rect). r.left) c.part-part.ensures.value in
    let wide : c.width.result ≡ width_of c.args.world.now.part = c.width.ensures ∙ ap width_of c.part-part.ensures.value in
    let fits = row_fits c.args.clip.now.width c.args.clip.now.height c.place-left.result c.args.world.now.part c.requires.part from in
    record {
      depth = c.is_of_depth.ensures.0 c.if-is_of_depth.true;
      picture = c.requires.picture;
      row = omega (arith, ints, c.requires.height.1, c.requires.part.bottom_in);
      columns = omega (arith, wide, fits);
    }

pub read_span-requires : goal.read_span-requires
read_span-requires g c =
    let left_fits : FitsSigned w32 c.part-part.result.left = search rules in
    let from : pos c.place-left.result ≡ c.args.world.now.part.left = (simp to_z-of_z at c.place-left.ensures) ∙ ap (λ (r : Rect). r.left) c.part-part.ensures.value in
    let fits = row_fits c.args.clip.now.width c.args.clip.now.height c.place-left.result c.args.world.now.part c.requires.part from in
    let room : length c.args.row.now ≡ width_of c.args.world.now.part = c.requires.room (λ same. differ (sym (c.is_of_depth.ensures.1 same) ∙ c.if-is_of_depth.false)) in
    (omega arith, (c.requires.depth, (c.requires.picture, (omega (arith, ints, c.requires.height.1, c.requires.part.bottom_in), omega (arith, room, fits)))))

pub returns-then-is_of_depth-clause-points : goal.returns-then-is_of_depth-clause-points
returns-then-is_of_depth-clause-points g c =
    let left_fits : FitsSigned w32 c.part-part.result.left = search rules in
    let from : pos c.place-left.result ≡ c.args.world.now.part.left = (simp to_z-of_z at c.place-left.ensures) ∙ ap (λ (r : Rect). r.left) c.part-part.ensures.value in
    let wide : c.width.result ≡ width_of c.args.world.now.part = c.width.ensures ∙ ap width_of c.part-part.ensures.value in
    let low : c.args.y < 2147483648 = omega (arith, c.requires.small) in
    let high : to_z w32 c.args.y ≡ pos c.args.y = to_z_pos w32 c.args.y low in
    row_drawn g.row.MAX c.args.clip.now c.args.picture c.place-left.result c.args.y c.args.world.now c.set_packed_row.new.self (pixels_of g.row.MAX c.packed_span.result.now) from c.set_packed_row.ensures.frame.1
    (subst (λ (z : ℤ). row_of c.set_packed_row.new.self z ≡ pixels_of g.row.MAX c.packed_span.result.now) high c.set_packed_row.ensures.row)
    (λ k h. c.packed_span.ensures.pixels k (omega (arith, h, wide)))

pub returns-then-is_of_depth-clause-others : goal.returns-then-is_of_depth-clause-others
returns-then-is_of_depth-clause-others g c =
    let low : c.args.y < 2147483648 = omega (arith, c.requires.small) in
    subst (λ (z : ℤ). StaysOffRow z c.args.world.now c.set_packed_row.new.self) (to_z_pos w32 c.args.y low) c.set_packed_row.ensures.others

pub returns-else-is_of_depth-clause-points : goal.returns-else-is_of_depth-clause-points
returns-else-is_of_depth-clause-points g c =
    let left_fits : FitsSigned w32 c.part-part.result.left = search rules in
    let from : pos c.place-left.result ≡ c.args.world.now.part.left = (simp to_z-of_z at c.place-left.ensures) ∙ ap (λ (r : Rect). r.left) c.part-part.ensures.value in
    let room : length c.args.row.now ≡ width_of c.args.world.now.part = c.requires.room (λ same. differ (sym (c.is_of_depth.ensures.1 same) ∙ c.if-is_of_depth.false)) in
    let low : c.args.y < 2147483648 = omega (arith, c.requires.small) in
    let high : to_z w32 c.args.y ≡ pos c.args.y = to_z_pos w32 c.args.y low in
    row_drawn g.row.MAX c.args.clip.now c.args.picture c.place-left.result c.args.y c.args.world.now c.set_row.new.self c.read_span.new.into from c.set_row.ensures.frame.1
    (subst (λ (z : ℤ). row_of c.set_row.new.self z ≡ c.read_span.new.into) high c.set_row.ensures.row)
    (λ k h. c.read_span.ensures k (omega (arith, h, room)))
