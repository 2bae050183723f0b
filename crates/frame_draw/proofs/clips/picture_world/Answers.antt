use Rattle.std.proofs.Common.{◌≡◌, Some, None, length, sym, ap, subst, ◌∙◌, arith, w64, rules}
use Rattle.std.specs.Int.RustNames.{FitsSigned}
use Rattle.std.proofs.lemmas.Int.{to_z-of_z}
use Rattle.geom_rect.specs.declared.rect.Rect.{Rect}
use Rattle.geom_rect.specs.Rect.{IsWithin, frame_rect, width_of}
use Rattle.frame_draw.specs.Areas.{IsPartOf, area_in}
use Rattle.frame_draw.specs.Kept.{HasRoom, picture_among}
use Rattle.frame_draw.proofs.Areas.{area_inside, area_part}
use Rattle.frame_draw.proofs.Drawing.{among_fits, few_points, no_picture, shown_picture, sized}
use Rattle.frame_draw.proofs.clips.picture_world.Goals as goal

pub blank-requires : goal.blank-requires
blank-requires g c =
    let clip = c.args.clip.now in
    let frame : c.frame_rect-extent.result ≡ frame_rect clip.width clip.height = c.frame_rect-extent.ensures ∙ sized c.width.result clip.width c.height.result clip.height c.width.ensures c.height.ensures in
    let inside : IsWithin c.area_in-part.result c.frame_rect-extent.result = subst (λ (r : Rect). IsWithin r c.frame_rect-extent.result) (sym c.area_in-part.ensures) (area_inside c.frame_rect-extent.result c.args.request) in
    let few = few_points clip.width clip.height c.area_in-part.result c.requires.size (subst (IsWithin c.area_in-part.result) frame inside) in
    search (rules, c.requires.depth, inside, few)

pub width-requires-in-Some : goal.width-requires-in-Some
width-requires-in-Some g c =
    let clip = c.args.clip.now in
    let frame : c.frame_rect-extent.result ≡ frame_rect clip.width clip.height = c.frame_rect-extent.ensures ∙ sized c.width.result clip.width c.height.result clip.height c.width.ensures c.height.ensures in
    let area : c.area_in-part.result ≡ area_in (frame_rect clip.width clip.height) c.args.request = c.area_in-part.ensures ∙ ap (λ (r : Rect). area_in r c.args.request) frame in
    let part : IsPartOf clip.width clip.height c.area_in-part.result = subst (IsPartOf clip.width clip.height) (sym area) (area_part clip.width clip.height c.args.request) in
    part.across

pub draw_picture-requires : goal.draw_picture-requires
draw_picture-requires g c =
    let clip = c.args.clip.now in
    let frame : c.frame_rect-extent.result ≡ frame_rect clip.width clip.height = c.frame_rect-extent.ensures ∙ sized c.width.result clip.width c.height.result clip.height c.width.ensures c.height.ensures in
    let area : c.area_in-part.result ≡ area_in (frame_rect clip.width clip.height) c.args.request = c.area_in-part.ensures ∙ ap (λ (r : Rect). area_in r c.args.request) frame in
    let part : IsPartOf clip.width clip.height c.in_ok-world.world.part = subst (IsPartOf clip.width clip.height) (sym (c.in_ok-world.ensures.part ∙ area)) (area_part clip.width clip.height c.args.request) in
    let picture_fits : FitsSigned w64 c.args.picture = search rules in
    let found : Some c.in-Some.number ≡ picture_among c.args.picture c.frames.result = simp to_z-of_z at c.in-Some.ensures in
    let there = among_fits c.args.picture c.frames.result c.in-Some.number (sym found) in
    let wide : c.width-in-Some.result ≡ width_of c.in_ok-world.world.part = c.width-in-Some.ensures ∙ ap width_of (sym c.in_ok-world.ensures.part) in
    let room : HasRoom g.row.MAX clip.depth (width_of c.in_ok-world.world.part) (length c.deref_mut.result.now) = λ other. ap length c.deref_mut.ensures.value ∙ c.in_ok-row-in-Some.ensures other ∙ wide in
    (omega arith, (omega arith, (c.requires.depth, (c.requires.size.height_bound, (omega (arith, there, c.frames.ensures), (part, room))))))

pub returns-in-None-clause-points : goal.returns-in-None-clause-points
returns-in-None-clause-points g c =
    let picture_fits : FitsSigned w64 c.args.picture = search rules in
    let none : None ≡ picture_among c.args.picture c.frames.result = simp to_z-of_z at c.in-None.ensures in
    λ x y here. no_picture g.row.MAX c.args.clip.now c.args.picture c.frames.result c.in_ok-world.world x y (sym none) c.frames.ensures (c.in_ok-world.ensures.transparent x y)

pub returns-in_ok-row-in-Some-clause-points : goal.returns-in_ok-row-in-Some-clause-points
returns-in_ok-row-in-Some-clause-points g c =
    let clip = c.args.clip.now in
    let picture_fits : FitsSigned w64 c.args.picture = search rules in
    let found : Some c.in-Some.number ≡ picture_among c.args.picture c.frames.result = simp to_z-of_z at c.in-Some.ensures in
    let frame : c.frame_rect-extent.result ≡ frame_rect clip.width clip.height = c.frame_rect-extent.ensures ∙ sized c.width.result clip.width c.height.result clip.height c.width.ensures c.height.ensures in
    let area : c.area_in-part.result ≡ area_in (frame_rect clip.width clip.height) c.args.request = c.area_in-part.ensures ∙ ap (λ (r : Rect). area_in r c.args.request) frame in
    let part : c.draw_picture.new.world.part ≡ area_in (frame_rect clip.width clip.height) c.args.request = c.draw_picture.ensures.frame.1 ∙ c.in_ok-world.ensures.part ∙ area in
    let inside : IsWithin c.draw_picture.new.world.part (frame_rect clip.width clip.height) = subst (λ (r : Rect). IsWithin r (frame_rect clip.width clip.height)) (sym part) (area_inside (frame_rect clip.width clip.height) c.args.request) in
    λ x y here. shown_picture g.row.MAX clip c.args.picture c.in-Some.number c.frames.result c.draw_picture.new.world x y (sym found) c.frames.ensures inside here (c.draw_picture.ensures.points x y here)
