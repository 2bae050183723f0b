use Rattle.std.proofs.Common.{◌+◌, ◌*◌, ◌<◌, ◌≤◌, ◌≢◌, length, arith, below_more, get_or-set_other, get_or-set_same}
use Rattle.frame_file.proofs.Places.{sound_in_8, read_at_8}
use Rattle.frame_file.proofs.clip.read_8.Goals as goal

pub pixel_of_8-requires-clause-sound : goal.pixel_of_8-requires-clause-sound
pixel_of_8-requires-clause-sound g c =
    let room : (c.args.start + c.loop-x.x) * 4 + 4 ≤ length c.args.pixels.now = omega arith in
    sound_in_8 c.args.pixels.now (c.args.start + c.loop-x.x) room c.requires.sound

pub loop-x-preserved : goal.loop-x-preserved
loop-x-preserved g c =
    let room : (c.args.start + c.loop-x.x) * 4 + 4 ≤ length c.args.pixels.now = omega arith in
    below_more _ _
    (λ k h. let ne : k ≢ c.loop-x.x = omega arith in rw get_or-set_other (c.loop-x.invariant k h))
    (let lt : c.loop-x.x < length c.loop-x.into = omega arith in
    rw get_or-set_same (read_at_8 g.row.MAX c.args.pixels.now (c.args.start + c.loop-x.x) c.pixel_of_8.result c.in_depth.result room c.pixel_of_8.ensures c.in_depth.ensures))
