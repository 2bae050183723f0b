use Rattle.std.proofs.Common.{◌≡◌, ◌≤◌, length, ◌∙◌, arith, false}
use Rattle.frame_file.specs.Clip.{is_bad, head_of_16}
use Rattle.frame_file.proofs.Scan.{scan_16, behind}
use Rattle.frame_file.proofs.judge.first_bad_of_16.Goals as goal

pub pixels-preserved : goal.pixels-preserved
pixels-preserved c =
    let some : 8 ≤ length c.pixels.rest.now = c.in-len8-up.len_at_least in
    let sound : is_bad 32768 (head_of_16 c.pixels.rest.now) ≡ false = cc in
    record {
      first = c.pixels.invariant.first ∙ scan_16 c.pixels.rest.now c.pixels.place some sound;
      within = let left = behind 8 c.pixels.rest.now some in omega (arith, left, c.pixels.invariant.within);
    }
