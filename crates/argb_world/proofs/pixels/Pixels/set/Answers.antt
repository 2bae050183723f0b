use Rattle.std.proofs.Common.{rules, ◌≡◌, ◌<◌, ◌^◌, ◌∷◌, [], length, vec_len, vec_capacity, ap, ◌∙◌, arith}
use borrow.Rule.Slice.PartMut.{put_mid}
use Rattle.argb_pixel.specs.Packed.{pixels_of, IsPacked}
use Rattle.argb_world.specs.Kept.{Rows}
use Rattle.argb_world.proofs.KeptLemmas.{seen_length, stored_kept, stored}
use Rattle.argb_pixel.proofs.Places.{put_keeps_packed, set_put}
use Rattle.argb_world.proofs.pixels.Pixels.set.Goals as goal

pub overflow_add-at : goal.overflow_add-at
overflow_add-at g c =
    let p = c.self.inside in
    let k = c.self.invariant in
    let many = seen_length g.row.MAX p.written.items p.ground.row.items (vec_capacity p.written) p.ground.count p.ground.width p.ground.colour c.args.self.now k c.self.view_is in
    let fits : p.ground.count < 2 ^ 64 = search rules in
    omega (arith, fits, many, c.requires)

pub write_out-requires : goal.write_out-requires
write_out-requires g c =
    let p = c.self.inside in
    let k = c.self.invariant in
    let many = seen_length g.row.MAX p.written.items p.ground.row.items (vec_capacity p.written) p.ground.count p.ground.width p.ground.colour c.args.self.now k c.self.view_is in
    (omega arith, (k, omega (arith, many, c.requires)))

pub invariant_of-self : goal.invariant_of-self
invariant_of-self g c =
    let p = c.self.inside in
    let v = c.write_out.new.written in
    let k = c.write_out.ensures.kept in
    let long : vec_len v ≡ length v.items = search rules in
    let items = c.deref_mut.ensures.value in
    let new = c.put_pixel.new.into in
    let same : length new ≡ length v.items = c.put_pixel.ensures.long ∙ ap length items in
    let made : pixels_of g.row.MAX new ≡ put_mid c.args.at 1 (pixels_of g.row.MAX v.items) (c.args.pixel ∷ []) = c.put_pixel.ensures.pixels ∙ ap (λ l. put_mid c.args.at 1 (pixels_of g.row.MAX l) (c.args.pixel ∷ [])) items in
    let is : IsPacked g.row.MAX new = put_keeps_packed g.row.MAX c.args.at v.items new c.args.pixel k.depth k.written same made c.put_pixel.ensures.premultiplied in
    stored_kept g.row.MAX v new p.ground.row.items p.ground.count p.ground.width p.ground.colour long k same is

pub returns-clause-pixels : goal.returns-clause-pixels
returns-clause-pixels g c =
    let p = c.self.inside in
    let v = c.write_out.new.written in
    let k = c.write_out.ensures.kept in
    let long : vec_len v ≡ length v.items = search rules in
    let items = c.deref_mut.ensures.value in
    let new = c.put_pixel.new.into in
    let same : length new ≡ length v.items = c.put_pixel.ensures.long ∙ ap length items in
    let made : pixels_of g.row.MAX new ≡ put_mid c.args.at 1 (pixels_of g.row.MAX v.items) (c.args.pixel ∷ []) = c.put_pixel.ensures.pixels ∙ ap (λ l. put_mid c.args.at 1 (pixels_of g.row.MAX l) (c.args.pixel ∷ [])) items in
    let is : IsPacked g.row.MAX new = put_keeps_packed g.row.MAX c.args.at v.items new c.args.pixel k.depth k.written same made c.put_pixel.ensures.premultiplied in
    let was = c.write_out.ensures.same ∙ ap (λ (r : Rows). r.pixels) c.self.view_is in
    stored g.row.MAX v new p.ground.row.items p.ground.count p.ground.width c.args.at 1 p.ground.colour (c.args.pixel ∷ []) c.args.self.now.pixels long k same is c.write_out.ensures.enough made was
    ∙ set_put c.args.self.now.pixels c.args.at c.args.pixel c.requires
