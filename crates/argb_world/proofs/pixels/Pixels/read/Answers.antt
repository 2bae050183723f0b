use Rattle.std.proofs.Common.{◌≡◌, ◌+◌, ◌*◌, length, ap, ◌∙◌, arith}
use Rattle.std.specs.List.{between}
use Rattle.argb_pixel.specs.Packed.{pixel_size}
use Rattle.std.proofs.lemmas.List.Edits.{length-between}
use Rattle.argb_world.proofs.pixels.Pixels.read.Goals as goal

pub unpack_row-requires : goal.unpack_row-requires
unpack_row-requires g c =
    let n = length c.args.into.now in
    let parts : length (between c.args.start (c.args.start + n) c.args.self.now.pixels) ≡ n = (let e = length-between c.args.self.now.pixels c.args.start (c.args.start + n) c.requires.there in omega arith) in
    (omega arith, (c.lend.ensures.depth, (c.lend.ensures.packed, c.lend.ensures.packed.whole ∙ ap (λ m. pixel_size g.row.MAX * m) (ap length c.lend.ensures.pixels ∙ parts))))
