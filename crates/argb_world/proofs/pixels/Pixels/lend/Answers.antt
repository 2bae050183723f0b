use Rattle.std.proofs.Common.{rules, ◌≡◌, ◌+◌, ◌<◌, ◌*◌, ◌^◌, length, vec_len, vec_capacity, ap, sym, subst, ◌∙◌, arith}
use Rattle.std.specs.List.{between}
use Rattle.argb_pixel.specs.Packed.{pixel_size, pixels_of}
use Rattle.argb_world.specs.Kept.{Rows}
use Rattle.std.proofs.Math.Nat.{mul-le-mul_left}
use Rattle.argb_world.specs.Kept.{IsInRow}
use Rattle.argb_world.proofs.KeptLemmas.{seen_length, kept_length, bytes_fit, in_front, beyond_front, row_in_front, row_fits, between_front, between_rest, between_alike}
use Rattle.argb_world.proofs.pixels.Pixels.lend.Goals as goal

pub overflow_mul-pixel_size : goal.overflow_mul-pixel_size
overflow_mul-pixel_size g c =
    let p = c.self.inside in
    let k = c.self.invariant in
    let many = seen_length g.row.MAX p.written.items p.ground.row.items (vec_capacity p.written) p.ground.count p.ground.width p.ground.colour c.args.self.now k c.self.view_is in
    let fits : vec_capacity p.written < 2 ^ 64 = search rules in
    omega (arith, fits, bytes_fit g.row.MAX c.pixel_size.result c.args.start p.ground.count (vec_capacity p.written) c.pixel_size.ensures (omega (arith, many, c.requires.there)) k.room)

pub part-requires-clause-there : goal.part-requires-clause-there
part-requires-clause-there g c =
    let p = c.self.inside in
    let k = c.self.invariant in
    let _many = seen_length g.row.MAX p.written.items p.ground.row.items (vec_capacity p.written) p.ground.count p.ground.width p.ground.colour c.args.self.now k c.self.view_is in
    let long : vec_len p.written ≡ length p.written.items = search rules in
    let low = in_front g.row.MAX c.args.start p.written.items k.depth k.written (omega (arith, c.if-len-pixel_size.true, c.len.ensures, long, ap (λ s. s * c.args.start) c.pixel_size.ensures)) in
    let row = subst (λ (r : Rows). IsInRow r.width c.args.start c.args.count) (sym c.self.view_is) c.requires.row in
    let within = row_in_front g.row.MAX p.written.items p.ground.row.items (vec_capacity p.written) p.ground.count p.ground.width p.ground.colour c.args.start c.args.count k row low in
    omega (arith, ap length c.deref.ensures.value, k.written.whole, mul-le-mul_left {m = c.args.start + c.args.count} {n = length (pixels_of g.row.MAX p.written.items)} (pixel_size g.row.MAX) within)

pub returns-then-len-pixel_size-clause-pixels : goal.returns-then-len-pixel_size-clause-pixels
returns-then-len-pixel_size-clause-pixels g c =
    let p = c.self.inside in
    let k = c.self.invariant in
    let _many = seen_length g.row.MAX p.written.items p.ground.row.items (vec_capacity p.written) p.ground.count p.ground.width p.ground.colour c.args.self.now k c.self.view_is in
    let long : vec_len p.written ≡ length p.written.items = search rules in
    let low = in_front g.row.MAX c.args.start p.written.items k.depth k.written (omega (arith, c.if-len-pixel_size.true, c.len.ensures, long, ap (λ s. s * c.args.start) c.pixel_size.ensures)) in
    let row = subst (λ (r : Rows). IsInRow r.width c.args.start c.args.count) (sym c.self.view_is) c.requires.row in
    let within = row_in_front g.row.MAX p.written.items p.ground.row.items (vec_capacity p.written) p.ground.count p.ground.width p.ground.colour c.args.start c.args.count k row low in
    c.part.ensures.pixels ∙ ap (λ l. between c.args.start (c.args.start + c.args.count) (pixels_of g.row.MAX l)) c.deref.ensures.value
    ∙ sym (between_front g.row.MAX p.written.items p.ground.count c.args.start c.args.count p.ground.colour within)
    ∙ ap (λ (r : Rows). between c.args.start (c.args.start + c.args.count) r.pixels) c.self.view_is

pub returns-else-len-pixel_size-clause-pixels : goal.returns-else-len-pixel_size-clause-pixels
returns-else-len-pixel_size-clause-pixels g c =
    let p = c.self.inside in
    let k = c.self.invariant in
    let many = seen_length g.row.MAX p.written.items p.ground.row.items (vec_capacity p.written) p.ground.count p.ground.width p.ground.colour c.args.self.now k c.self.view_is in
    let long : vec_len p.written ≡ length p.written.items = search rules in
    let high = beyond_front g.row.MAX c.args.start p.written.items k.depth k.written (omega (arith, c.if-len-pixel_size.false, c.len.ensures, long, ap (λ s. s * c.args.start) c.pixel_size.ensures)) in
    let row = subst (λ (r : Rows). IsInRow r.width c.args.start c.args.count) (sym c.self.view_is) c.requires.row in
    let alike = ap (pixels_of g.row.MAX) c.deref-else-len-pixel_size.ensures.value ∙ k.alike in
    c.part-else-len-pixel_size.ensures.pixels
    ∙ between_alike (pixels_of g.row.MAX c.deref-else-len-pixel_size.result.now) p.ground.width c.args.count p.ground.colour alike (row_fits p.ground.width c.args.start c.args.count row)
    ∙ between_rest g.row.MAX p.written.items p.ground.count c.args.start c.args.count p.ground.colour high (omega (arith, many, c.requires.there)) (kept_length g.row.MAX p.written.items p.ground.row.items (vec_capacity p.written) p.ground.count p.ground.width p.ground.colour k)
    ∙ ap (λ (r : Rows). between c.args.start (c.args.start + c.args.count) r.pixels) c.self.view_is
