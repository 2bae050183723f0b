use Rattle.std.proofs.Common.{rules, ◌≡◌, ℕ, pos, ◌+ℤ◌, ◌+◌, ◌-◌, ◌*◌, ◌≤◌, ◌<◌, List, length, take, drop, get_or, length-drop, refl, ap, sym, subst, ◌∙◌, w64, arith}
use Rattle.std.proofs.lemmas.List.{length-take-le}
use Rattle.argb_pixel.specs.Pixel.{Argb, clear}
use Rattle.comp_stack.specs.Stack.{step}
use Rattle.std.specs.Int.RustNames.{FitsSigned}
use Rattle.std.proofs.lemmas.Int.{ints, to_z-of_z}
use Rattle.std.proofs.Math.Nat.{mul-le-mul_left}
use Rattle.argb_pixel.specs.Packed.{pixel_size, pixels_of}
use Rattle.argb_pixel.proofs.Parts.{pixels_length}
use Rattle.argb_pixel.proofs.Places.{part_length, part_packed, part_put_packed, part_read, part_put}
use Rattle.comp_stack.specs.Layers.{layer_of}
use Rattle.comp_stack.specs.Spans.{IsNear}
use Rattle.comp_stack.proofs.Laying.{middle_inside, middle_outside}
use Rattle.comp_stack.proofs.draw.lay_middle.Goals as goal

pub lay_span-requires : goal.lay_span-requires
lay_span-requires g c =
    let y_fits : FitsSigned w64 c.args.y = c.ranges.y in
    let rx_fits : FitsSigned w64 c.right_of.result = search rules in
    let size = c.pixel_size-size.result in
    let is = c.pixel_size-size.ensures in
    let many = c.args.end - c.args.start in
    let near : IsNear c.right_of.result = c.right_of.ensures.near in
    let also : IsNear c.args.y = omega (arith, ints, c.requires.row) in
    let few = mul-le-mul_left {m = c.args.start + many} {n = c.args.count} (pixel_size g.row.MAX) (omega (arith, c.requires.order, c.requires.within)) in
    let within : size * (c.args.start + many) ≤ length c.args.into.now = omega (arith, few, ap (λ s. s * (c.args.start + many)) is, c.requires.long) in
    let part = part_length size c.args.start many c.args.into.now within in
    let less : length (take (size * (c.args.start + many) - size * c.args.start) (drop (size * c.args.start) c.args.into.now)) ≤ length c.args.into.now = omega (arith, part, within) in
    simp to_z-of_z ((
      omega arith,
      (
        c.requires.depth,
        (
          c.requires.layer,
          (
            near,
            (
              also,
              (
                part ∙ ap (λ s. s * many) is,
                (part_packed g.row.MAX size c.args.start many c.args.into.now c.requires.depth is within c.requires.packed, (omega (arith, less, c.requires.source), omega (arith, less, c.requires.matte))),
              ),
            ),
          ),
        ),
      ),
    )
    )

pub returns-clause-packed : goal.returns-clause-packed
returns-clause-packed g c =
    let size = c.pixel_size-size.result in
    let is = c.pixel_size-size.ensures in
    let many = c.args.end - c.args.start in
    let few = mul-le-mul_left {m = c.args.start + many} {n = c.args.count} (pixel_size g.row.MAX) (omega (arith, c.requires.order, c.requires.within)) in
    let within : size * (c.args.start + many) ≤ length c.args.into.now = omega (arith, few, ap (λ s. s * (c.args.start + many)) is, c.requires.long) in
    part_put_packed g.row.MAX size c.args.start many c.args.into.now c.lay_span.new.into c.requires.depth is within (c.lay_span.ensures.long ∙ part_length size c.args.start many c.args.into.now within) c.requires.packed c.lay_span.ensures.packed

pub returns-clause-inside : goal.returns-clause-inside
returns-clause-inside g c =
    let x_fits : FitsSigned w64 c.args.x = c.ranges.x in
    let y_fits : FitsSigned w64 c.args.y = c.ranges.y in
    let rx_fits : FitsSigned w64 c.right_of.result = search rules in
    let raw = simp to_z-of_z at c.lay_span.ensures.laid in
    let column = simp to_z-of_z at c.right_of.ensures.value in
    let size = c.pixel_size-size.result in
    let is = c.pixel_size-size.ensures in
    let many = c.args.end - c.args.start in
    let few = mul-le-mul_left {m = c.args.start + many} {n = c.args.count} (pixel_size g.row.MAX) (omega (arith, c.requires.order, c.requires.within)) in
    let within : size * (c.args.start + many) ≤ length c.args.into.now = omega (arith, few, ap (λ s. s * (c.args.start + many)) is, c.requires.long) in
    let old = pixels_of g.row.MAX c.args.into.now in
    let new = pixels_of g.row.MAX c.lay_span.new.into in
    let all : length old ≡ c.args.count = pixels_length g.row.MAX c.args.count c.args.into.now c.requires.depth c.requires.long in
    let part = part_length size c.args.start many c.args.into.now within in
    let long : length c.lay_span.new.into ≡ size * many = c.lay_span.ensures.long ∙ part in
    let made = part_put g.row.MAX size c.args.start many c.args.into.now c.lay_span.new.into new c.requires.depth is within long refl in
    let read = part_read g.row.MAX size c.args.start many c.args.into.now c.requires.depth is in
    let same : length new ≡ length (take many (drop c.args.start old)) = pixels_length g.row.MAX many c.lay_span.new.into c.requires.depth (long ∙ ap (λ s. s * many) is) ∙ sym (length-take-le many (drop c.args.start old) (omega (arith, all, length-drop c.args.start old, c.requires.order, c.requires.within))) in
    let laid = subst (λ (ps : List Argb). (j : ℕ) → j < many → get_or new j clear ≡ step g.row.MAX (layer_of c.args.layer.now) (c.right_of.result +ℤ pos j) c.args.y (get_or ps j clear)) read raw in
    λ k l low high.
    ap (λ ps. get_or ps k clear) made
    ∙ middle_inside g.row.MAX (layer_of c.args.layer.now) c.args.x c.args.y c.right_of.result old new c.args.start c.args.end c.requires.order (omega (arith, all, c.requires.within)) column same
    (λ j b. laid j (omega (arith, b, same, pixels_length g.row.MAX many c.lay_span.new.into c.requires.depth (long ∙ ap (λ s. s * many) is)))) k (omega (arith, all, l)) low high

pub returns-clause-outside : goal.returns-clause-outside
returns-clause-outside g c =
    let size = c.pixel_size-size.result in
    let is = c.pixel_size-size.ensures in
    let many = c.args.end - c.args.start in
    let few = mul-le-mul_left {m = c.args.start + many} {n = c.args.count} (pixel_size g.row.MAX) (omega (arith, c.requires.order, c.requires.within)) in
    let within : size * (c.args.start + many) ≤ length c.args.into.now = omega (arith, few, ap (λ s. s * (c.args.start + many)) is, c.requires.long) in
    let old = pixels_of g.row.MAX c.args.into.now in
    let new = pixels_of g.row.MAX c.lay_span.new.into in
    let all : length old ≡ c.args.count = pixels_length g.row.MAX c.args.count c.args.into.now c.requires.depth c.requires.long in
    let part = part_length size c.args.start many c.args.into.now within in
    let long : length c.lay_span.new.into ≡ size * many = c.lay_span.ensures.long ∙ part in
    let made = part_put g.row.MAX size c.args.start many c.args.into.now c.lay_span.new.into new c.requires.depth is within long refl in
    let read = part_read g.row.MAX size c.args.start many c.args.into.now c.requires.depth is in
    let same : length new ≡ length (take many (drop c.args.start old)) = pixels_length g.row.MAX many c.lay_span.new.into c.requires.depth (long ∙ ap (λ s. s * many) is) ∙ sym (length-take-le many (drop c.args.start old) (omega (arith, all, length-drop c.args.start old, c.requires.order, c.requires.within))) in
    λ k l out.
    ap (λ ps. get_or ps k clear) made
    ∙ middle_outside old new c.args.start c.args.end c.requires.order (omega (arith, all, c.requires.within)) same k (omega (arith, all, l)) out
