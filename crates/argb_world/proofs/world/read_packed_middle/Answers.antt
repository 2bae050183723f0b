use Rattle.std.proofs.Common.{◌≡◌, ◌+◌, ◌≤◌, ◌*◌, length, ap, sym, subst, ◌∙◌, arith}
use Rattle.std.specs.List.{between}
use Rattle.std.proofs.lemmas.List.Edits.{length-between}
use Rattle.argb_pixel.specs.Packed.{pixel_size}
use Rattle.argb_pixel.proofs.Places.{part_put, part_put_packed}
use Rattle.argb_world.proofs.world.read_packed_middle.Goals as goal

pub returns-clause-packed : goal.returns-clause-packed
returns-clause-packed g c =
    let is = c.pixel_size-size.ensures in
    let within = subst (λ s. s * (c.args.start + c.args.count) ≤ length c.args.into.now) (sym is) c.requires.within in
    let new = c.read_packed.new.into in
    let parts : length (between c.args.from (c.args.from + c.args.count) c.args.pixels.now.pixels) ≡ c.args.count = (let e = length-between c.args.pixels.now.pixels c.args.from (c.args.from + c.args.count) c.requires.there in omega arith) in
    let long : length new ≡ c.pixel_size-size.result * c.args.count = c.read_packed.ensures.packed.whole ∙ ap (λ m. pixel_size g.row.MAX * m) (ap length c.read_packed.ensures.pixels ∙ parts) ∙ ap (λ s. s * c.args.count) (sym is) in
    part_put_packed g.row.MAX c.pixel_size-size.result c.args.start c.args.count c.args.into.now new c.requires.depth is within long c.requires.packed c.read_packed.ensures.packed

pub returns-clause-pixels : goal.returns-clause-pixels
returns-clause-pixels g c =
    let is = c.pixel_size-size.ensures in
    let within = subst (λ s. s * (c.args.start + c.args.count) ≤ length c.args.into.now) (sym is) c.requires.within in
    let new = c.read_packed.new.into in
    let parts : length (between c.args.from (c.args.from + c.args.count) c.args.pixels.now.pixels) ≡ c.args.count = (let e = length-between c.args.pixels.now.pixels c.args.from (c.args.from + c.args.count) c.requires.there in omega arith) in
    let long : length new ≡ c.pixel_size-size.result * c.args.count = c.read_packed.ensures.packed.whole ∙ ap (λ m. pixel_size g.row.MAX * m) (ap length c.read_packed.ensures.pixels ∙ parts) ∙ ap (λ s. s * c.args.count) (sym is) in
    part_put g.row.MAX c.pixel_size-size.result c.args.start c.args.count c.args.into.now new (between c.args.from (c.args.from + c.args.count) c.args.pixels.now.pixels) c.requires.depth is within long c.read_packed.ensures.pixels
