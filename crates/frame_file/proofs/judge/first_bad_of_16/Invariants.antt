use Rattle.std.proofs.Common.{◌≡◌, ◌+◌, ◌*◌, length}
use Rattle.std.specs.List.{position_from}
use Rattle.frame_file.specs.Clip.{pixels_of_16, is_bad}
use Rattle.frame_file.proofs.judge.first_bad_of_16.Given as goal

-- the pixels so far are premultiplied
abbrev pub invariant-pixels : goal.invariant-pixels
invariant-pixels l = record {
  first : position_from (is_bad 32768) 0 (pixels_of_16 l.fn.pixels) ≡ position_from (is_bad 32768) l.place (pixels_of_16 l.rest);
  within : l.place * 8 + length l.rest ≡ length l.fn.pixels;
}

abbrev pub decreases-pixels : goal.decreases-pixels
decreases-pixels l = length l.rest
