use Rattle.std.proofs.Common.{rules, ◌≡◌, ◌<◌, ◌*◌, ◌^◌, length, get_or, vec_len, vec_capacity, ap, sym, subst, ◌∙◌, arith}
use Rattle.argb_pixel.specs.Pixel.{clear}
use Rattle.argb_pixel.specs.Packed.{pixels_of, IsPacked}
use Rattle.argb_world.specs.Kept.{Rows}
use Rattle.argb_world.proofs.KeptLemmas.{seen_length, bytes_fit, in_front, beyond_front, get_front, get_rest}
use Rattle.argb_pixel.proofs.Parts.{whole_one}
use Rattle.argb_world.proofs.pixels.Pixels.get.Goals as goal

pub overflow_mul-pixel_size : goal.overflow_mul-pixel_size
overflow_mul-pixel_size g c =
    let p = c.self.inside in
    let k = c.self.invariant in
    let fits : vec_capacity p.written < 2 ^ 64 = search rules in
    let many = seen_length g.row.MAX p.written.items p.ground.row.items (vec_capacity p.written) p.ground.count p.ground.width p.ground.colour c.args.self.now k c.self.view_is in
    omega (arith, fits, bytes_fit g.row.MAX c.pixel_size.result c.args.at p.ground.count (vec_capacity p.written) c.pixel_size.ensures (omega (arith, many, c.requires)) k.room)

pub pixel_in-requires : goal.pixel_in-requires
pixel_in-requires g c =
    let p = c.self.inside in
    let k = c.self.invariant in
    let long : vec_len p.written ≡ length p.written.items = search rules in
    let low = in_front g.row.MAX c.args.at p.written.items k.depth k.written (omega (arith, c.if-len-pixel_size.true, c.len.ensures, long, ap (λ s. s * c.args.at) c.pixel_size.ensures)) in
    (omega arith, (k.depth, (subst (IsPacked g.row.MAX) (sym c.deref.ensures.value) k.written, omega (arith, whole_one g.row.MAX c.args.at p.written.items k.written low, ap length c.deref.ensures.value))))

pub returns-then-len-pixel_size : goal.returns-then-len-pixel_size
returns-then-len-pixel_size g c =
    let p = c.self.inside in
    let k = c.self.invariant in
    let long : vec_len p.written ≡ length p.written.items = search rules in
    let low = in_front g.row.MAX c.args.at p.written.items k.depth k.written (omega (arith, c.if-len-pixel_size.true, c.len.ensures, long, ap (λ s. s * c.args.at) c.pixel_size.ensures)) in
    c.pixel_in.ensures ∙ ap (λ l. get_or (pixels_of g.row.MAX l) c.args.at clear) c.deref.ensures.value
    ∙ sym (get_front g.row.MAX p.written.items p.ground.count c.args.at p.ground.colour low)
    ∙ ap (λ (r : Rows). get_or r.pixels c.args.at clear) c.self.view_is

pub returns-else-len-pixel_size : goal.returns-else-len-pixel_size
returns-else-len-pixel_size g c =
    let p = c.self.inside in
    let k = c.self.invariant in
    let long : vec_len p.written ≡ length p.written.items = search rules in
    let many = seen_length g.row.MAX p.written.items p.ground.row.items (vec_capacity p.written) p.ground.count p.ground.width p.ground.colour c.args.self.now k c.self.view_is in
    let high = beyond_front g.row.MAX c.args.at p.written.items k.depth k.written (omega (arith, c.if-len-pixel_size.false, c.len.ensures, long, ap (λ s. s * c.args.at) c.pixel_size.ensures)) in
    sym (get_rest g.row.MAX p.written.items p.ground.count c.args.at p.ground.colour high (omega (arith, many, c.requires)))
    ∙ ap (λ (r : Rows). get_or r.pixels c.args.at clear) c.self.view_is
