use Rattle.std.proofs.Common.{◌≤◌, arith}
use Rattle.std.proofs.lemmas.List.Elements.{All-weaker}
use Rattle.argb_pixel.specs.Pixel.{Argb, IsPremultiplied, luma_of}
use Rattle.argb_pixel.specs.Packed.{pixels_of}
use Rattle.fx_analysis.proofs.Counting.{line_sum, luma_few, alpha_few}
use Rattle.fx_analysis.proofs.light.row_light.Goals as goal

pub overflow_add-luma : goal.overflow_add-luma
overflow_add-luma g c =
    let pixels = pixels_of g.row.MAX c.packed_line-row.result.now in
    let each = All-weaker (IsPremultiplied g.row.MAX) (λ (p : Argb). luma_of p ≤ 32768) (λ p is. luma_few g.row.MAX p c.requires.depth is) pixels c.packed_line-row.ensures.packed.premultiplied in
    let so_far = line_sum luma_of pixels c.loop-i.i each in
    let next = alpha_few g.row.MAX c.pixel_in-pixel.result c.requires.depth c.a-a.ensures.premultiplied in
    omega (arith, so_far, next, c.loop-i.invariant.luma, c.luma.ensures.within, c.loop-i-test.true, c.row_length-i-end.ensures.within)

pub overflow_add-alpha : goal.overflow_add-alpha
overflow_add-alpha g c =
    let pixels = pixels_of g.row.MAX c.packed_line-row.result.now in
    let each = All-weaker (IsPremultiplied g.row.MAX) (λ (p : Argb). p.a ≤ 32768) (λ p is. alpha_few g.row.MAX p c.requires.depth is) pixels c.packed_line-row.ensures.packed.premultiplied in
    let so_far = line_sum (λ p. p.a) pixels c.loop-i.i each in
    let next = alpha_few g.row.MAX c.pixel_in-pixel.result c.requires.depth c.a-a.ensures.premultiplied in
    omega (arith, so_far, next, c.loop-i.invariant.alpha, c.a-a.ensures.value, c.loop-i-test.true, c.row_length-i-end.ensures.within)
