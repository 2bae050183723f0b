use Rattle.std.proofs.Common.{rules, ◌≡◌, ◌<◌, ◌^◌, length, vec_len, vec_capacity, ap, ◌∙◌, arith}
use borrow.Rule.Slice.PartMut.{put_mid}
use Rattle.argb_pixel.specs.Packed.{pixels_of, IsPacked}
use Rattle.argb_world.specs.Kept.{Rows}
use Rattle.argb_world.proofs.KeptLemmas.{seen_length, stored_kept, stored}
use Rattle.argb_world.proofs.pixels.Pixels.write.Goals as goal

pub overflow_add-start : goal.overflow_add-start
overflow_add-start g c =
    let p = c.self.inside in
    let k = c.self.invariant in
    let many = seen_length g.row.MAX p.written.items p.ground.row.items (vec_capacity p.written) p.ground.count p.ground.width p.ground.colour c.args.self.now k c.self.view_is in
    let fits : p.ground.count < 2 ^ 64 = search rules in
    omega (arith, fits, many, c.requires)

pub write_out-requires : goal.write_out-requires
write_out-requires g c =
    let p = c.self.inside in
    let k = c.self.invariant in
    let many = seen_length g.row.MAX p.written.items p.ground.row.items (vec_capacity p.written) p.ground.count p.ground.width p.ground.colour c.args.self.now k c.self.view_is in
    (omega arith, (k, omega (arith, many, c.requires)))

pub invariant_of-self : goal.invariant_of-self
invariant_of-self g c =
    let p = c.self.inside in
    let v = c.write_out.new.written in
    let k = c.write_out.ensures.kept in
    let long : vec_len v ≡ length v.items = search rules in
    let items = c.deref_mut.ensures.value in
    let new = c.write_from.new.bytes in
    let same : length new ≡ length v.items = c.write_from.ensures.long ∙ ap length items in
    let made : pixels_of g.row.MAX new ≡ put_mid c.args.start (length c.args.from.now) (pixels_of g.row.MAX v.items) c.args.from.now = c.write_from.ensures.pixels ∙ ap (λ l. put_mid c.args.start (length c.args.from.now) (pixels_of g.row.MAX l) c.args.from.now) items in
    let is : IsPacked g.row.MAX new = c.write_from.ensures.packed in
    stored_kept g.row.MAX v new p.ground.row.items p.ground.count p.ground.width p.ground.colour long k same is

pub returns-clause-pixels : goal.returns-clause-pixels
returns-clause-pixels g c =
    let p = c.self.inside in
    let v = c.write_out.new.written in
    let k = c.write_out.ensures.kept in
    let long : vec_len v ≡ length v.items = search rules in
    let items = c.deref_mut.ensures.value in
    let new = c.write_from.new.bytes in
    let same : length new ≡ length v.items = c.write_from.ensures.long ∙ ap length items in
    let made : pixels_of g.row.MAX new ≡ put_mid c.args.start (length c.args.from.now) (pixels_of g.row.MAX v.items) c.args.from.now = c.write_from.ensures.pixels ∙ ap (λ l. put_mid c.args.start (length c.args.from.now) (pixels_of g.row.MAX l) c.args.from.now) items in
    let is : IsPacked g.row.MAX new = c.write_from.ensures.packed in
    let was = c.write_out.ensures.same ∙ ap (λ (r : Rows). r.pixels) c.self.view_is in
    stored g.row.MAX v new p.ground.row.items p.ground.count p.ground.width c.args.start (length c.args.from.now) p.ground.colour c.args.from.now c.args.self.now.pixels long k same is c.write_out.ensures.enough made was
