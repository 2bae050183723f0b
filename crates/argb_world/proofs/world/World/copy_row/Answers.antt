use Rattle.std.proofs.Common.{rules, ◌≡◌, ◌<◌, pos, ◌+ℤ◌, length, sym, subst, ap, ◌∙◌, List, arith, w32, w64}
use Rattle.std.specs.Int.RustNames.{FitsSigned}
use Rattle.std.proofs.lemmas.Int.{to_z-of_z}
use borrow.Rule.Slice.PartMut.{put_mid}
use Rattle.geom_rect.specs.Rect.{count_between}
use Rattle.argb_pixel.specs.Pixel.{Argb}
use Rattle.argb_world.specs.Picture.{Picture, HasRow, IsReach, StaysOffRow, place_of, row_of, span_of}
use Rattle.argb_world.proofs.Rows.{picture}
use Rattle.argb_world.proofs.Spans.{row_there, row_starts, row_within, row_filled_still, set_row_is, set_row_beside, length_span}
use Rattle.argb_world.proofs.world.World.copy_row.Goals as goal

pub copy-requires : goal.copy-requires
copy-requires g c =
    let left_fits : FitsSigned w32 c.self.inside.part.left = search rules in
    let left_wide : FitsSigned w64 c.self.inside.part.left = search rules in
    let below : c.args.k < count_between c.self.inside.part.top c.self.inside.part.bottom = subst (λ (v : Picture). c.args.k < count_between v.part.top v.part.bottom) (sym c.self.view_is) c.requires in
    let y = c.self.inside.part.top +ℤ pos c.args.k in
    let height : HasRow c.self.inside.part y = row_there c.self.inside.part c.args.k below in
    let is : c.row_start-start.result ≡ place_of c.self.inside.part c.self.inside.part.left y = c.row_start-start.ensures ∙ sym (row_starts c.self.inside.part c.args.k) in
    let reach : IsReach c.self.inside.part.left = search rules in
    let there = row_within c.self.inside.part y height in
    (omega arith, (omega arith, (omega (arith, there, is, c.width-count.ensures, c.self.invariant.picture.filled), simp to_z-of_z reach)))

pub invariant_of-self : goal.invariant_of-self
invariant_of-self g c =
    let left_fits : FitsSigned w32 c.self.inside.part.left = search rules in
    let left_wide : FitsSigned w64 c.self.inside.part.left = search rules in
    let below : c.args.k < count_between c.self.inside.part.top c.self.inside.part.bottom = subst (λ (v : Picture). c.args.k < count_between v.part.top v.part.bottom) (sym c.self.view_is) c.requires in
    let y = c.self.inside.part.top +ℤ pos c.args.k in
    let height : HasRow c.self.inside.part y = row_there c.self.inside.part c.args.k below in
    let is : c.row_start-start.result ≡ place_of c.self.inside.part c.self.inside.part.left y = c.row_start-start.ensures ∙ sym (row_starts c.self.inside.part c.args.k) in
    let row_fits : FitsSigned w64 c.row_height-y.result = search rules in
    let raw = simp to_z-of_z at c.copy.ensures.pixels in
    let made = raw ∙ ap (λ z. put_mid c.row_start-start.result c.width-count.result c.self.inside.pixels.pixels (span_of c.args.from.now c.self.inside.part.left z c.width-count.result)) c.row_height-y.ensures in
    let long = length_span c.args.from.now c.self.inside.part.left y c.width-count.result in
    record {
      depth = c.self.invariant.depth;
      picture = record {
        inside = c.self.invariant.picture.inside;
        bound = c.self.invariant.picture.bound;
        filled = ap length made ∙ row_filled_still c.self.inside.part c.self.inside.pixels.pixels (span_of c.args.from.now c.self.inside.part.left y c.width-count.result) y c.row_start-start.result c.width-count.result height c.self.invariant.picture.filled is long c.width-count.ensures;
      };
      wide = λ v h. c.copy.ensures.width ∙ c.self.invariant.wide v h;
    }

pub returns-clause-row : goal.returns-clause-row
returns-clause-row g c =
    let left_fits : FitsSigned w32 c.self.inside.part.left = search rules in
    let left_wide : FitsSigned w64 c.self.inside.part.left = search rules in
    let below : c.args.k < count_between c.self.inside.part.top c.self.inside.part.bottom = subst (λ (v : Picture). c.args.k < count_between v.part.top v.part.bottom) (sym c.self.view_is) c.requires in
    let y = c.self.inside.part.top +ℤ pos c.args.k in
    let height : HasRow c.self.inside.part y = row_there c.self.inside.part c.args.k below in
    let is : c.row_start-start.result ≡ place_of c.self.inside.part c.self.inside.part.left y = c.row_start-start.ensures ∙ sym (row_starts c.self.inside.part c.args.k) in
    let row_fits : FitsSigned w64 c.row_height-y.result = search rules in
    let raw = simp to_z-of_z at c.copy.ensures.pixels in
    let made = raw ∙ ap (λ z. put_mid c.row_start-start.result c.width-count.result c.self.inside.pixels.pixels (span_of c.args.from.now c.self.inside.part.left z c.width-count.result)) c.row_height-y.ensures in
    let long = length_span c.args.from.now c.self.inside.part.left y c.width-count.result in
    rw (← c.self.view_is) (
    ap (λ (l : List Argb). row_of (picture c.self.inside.extent c.self.inside.part l) y) made
    ∙ set_row_is c.self.inside.extent c.self.inside.part c.self.inside.pixels.pixels (span_of c.args.from.now c.self.inside.part.left y c.width-count.result) y c.row_start-start.result c.width-count.result height c.self.invariant.picture.filled is long c.width-count.ensures
    ∙ ap (span_of c.args.from.now c.self.inside.part.left y) c.width-count.ensures
    )

pub returns-clause-others : goal.returns-clause-others
returns-clause-others g c =
    let left_fits : FitsSigned w32 c.self.inside.part.left = search rules in
    let left_wide : FitsSigned w64 c.self.inside.part.left = search rules in
    let below : c.args.k < count_between c.self.inside.part.top c.self.inside.part.bottom = subst (λ (v : Picture). c.args.k < count_between v.part.top v.part.bottom) (sym c.self.view_is) c.requires in
    let y = c.self.inside.part.top +ℤ pos c.args.k in
    let height : HasRow c.self.inside.part y = row_there c.self.inside.part c.args.k below in
    let is : c.row_start-start.result ≡ place_of c.self.inside.part c.self.inside.part.left y = c.row_start-start.ensures ∙ sym (row_starts c.self.inside.part c.args.k) in
    let row_fits : FitsSigned w64 c.row_height-y.result = search rules in
    let raw = simp to_z-of_z at c.copy.ensures.pixels in
    let made = raw ∙ ap (λ z. put_mid c.row_start-start.result c.width-count.result c.self.inside.pixels.pixels (span_of c.args.from.now c.self.inside.part.left z c.width-count.result)) c.row_height-y.ensures in
    let long = length_span c.args.from.now c.self.inside.part.left y c.width-count.result in
    rw (← c.self.view_is) (
    subst (λ (l : List Argb). StaysOffRow y (picture c.self.inside.extent c.self.inside.part c.self.inside.pixels.pixels) (picture c.self.inside.extent c.self.inside.part l)) (sym made)
    (set_row_beside c.self.inside.extent c.self.inside.part c.self.inside.pixels.pixels (span_of c.args.from.now c.self.inside.part.left y c.width-count.result) y c.row_start-start.result c.width-count.result height c.self.invariant.picture.filled is long c.width-count.ensures)
    )
