use Rattle.std.proofs.Common.{◌≡◌, ◌<◌, pos, length, refl, sym, ap, subst, ◌∙◌, arith, w32, rules}
use Rattle.std.specs.Int.RustNames.{FitsSigned}
use Rattle.std.proofs.lemmas.Int.{ints, to_z-of_z}
use Rattle.geom_rect.specs.declared.rect.Rect.{Rect}
use Rattle.geom_rect.specs.Rect.{width_of}
use Rattle.argb_world.specs.Picture.{HasRow}
use Rattle.frame_draw.specs.Areas.{IsPartOf}
use Rattle.frame_draw.specs.Kept.{HasRoom}
use Rattle.frame_draw.proofs.Drawing.{row_more, rows_none, rows_all}
use Rattle.frame_draw.proofs.clips.draw_picture.Goals as goal

pub loop-y-init : goal.loop-y-init
loop-y-init g c =
    let top_fits : FitsSigned w32 c.part-part.result.top = search rules in
    let top : pos c.place-top.result ≡ c.args.world.now.part.top = (simp to_z-of_z at c.place-top.ensures) ∙ ap (λ (r : Rect). r.top) c.part-part.ensures.value in
    record {
      below = omega (arith, ints, top);
      room = refl;
      frame = (refl, refl);
      rows = rows_none g.row.MAX c.args.clip.now c.args.picture c.place-top.result c.args.world.now top;
    }

pub draw_row-requires : goal.draw_row-requires
draw_row-requires g c =
    let inv = c.loop-y.invariant in
    let bottom_fits : FitsSigned w32 c.part-part.result.bottom = search rules in
    let bottom : pos c.place-bottom.result ≡ c.args.world.now.part.bottom = (simp to_z-of_z at c.place-bottom.ensures) ∙ ap (λ (r : Rect). r.bottom) c.part-part.ensures.value in
    let small : c.loop-y.y < 4096 = omega (arith, ints, c.loop-y-test.true, bottom, c.requires.part.bottom_in, c.requires.height) in
    let there : HasRow c.args.world.now.part (pos c.loop-y.y) = (omega (arith, ints, inv.below), omega (arith, ints, bottom, c.loop-y-test.true)) in
    let part = subst (IsPartOf c.args.clip.now.width c.args.clip.now.height) (sym inv.frame.1) c.requires.part in
    let row = subst (λ (r : Rect). HasRow r (pos c.loop-y.y)) (sym inv.frame.1) there in
    let room : HasRoom g.row.MAX c.args.clip.now.depth (width_of c.loop-y.world.part) (length c.loop-y.row) = λ other. inv.room ∙ c.requires.room other ∙ ap width_of (sym inv.frame.1) in
    (omega arith, (omega arith, (c.requires.depth, (small, (c.requires.picture, (part, (row, room)))))))

pub loop-y-preserved : goal.loop-y-preserved
loop-y-preserved g c =
    let inv = c.loop-y.invariant in
    record {
      below = omega (arith, ints, inv.below);
      room = c.draw_row.auto.row ∙ inv.room;
      frame = (c.draw_row.ensures.frame.0 ∙ inv.frame.0, c.draw_row.ensures.frame.1 ∙ inv.frame.1);
      rows = row_more g.row.MAX c.args.clip.now c.args.picture c.loop-y.y c.loop-y.world c.draw_row.new.world inv.rows c.draw_row.ensures.frame.1 c.draw_row.ensures.points c.draw_row.ensures.others;
    }

pub returns-clause-points : goal.returns-clause-points
returns-clause-points g c =
    let inv = c.loop-y.invariant in
    let bottom_fits : FitsSigned w32 c.part-part.result.bottom = search rules in
    let bottom : pos c.place-bottom.result ≡ c.args.world.now.part.bottom = (simp to_z-of_z at c.place-bottom.ensures) ∙ ap (λ (r : Rect). r.bottom) c.part-part.ensures.value in
    let same : c.loop-y.world.part.bottom ≡ c.args.world.now.part.bottom = ap (λ (r : Rect). r.bottom) inv.frame.1 in
    rows_all g.row.MAX c.args.clip.now c.args.picture c.loop-y.y c.loop-y.world (omega (arith, ints, same, bottom, c.loop-y-test.false)) inv.rows
