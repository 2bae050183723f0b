use Rattle.std.proofs.Common.{◌≡◌, ℕ, ◌+◌, ◌<◌, get_or}
use Rattle.argb_pixel.specs.Pixel.{clear}
use Rattle.frame_file.specs.Clip.{pixels_of_16, in_depth}
use Rattle.frame_file.proofs.clip.read_16.Given as goal

-- the pixels so far
abbrev pub invariant-loop-x : goal.invariant-loop-x
invariant-loop-x g l = (k : ℕ) → k < l.x → get_or l.into k clear ≡ in_depth 32768 g.row.MAX (get_or (pixels_of_16 l.pixels) (l.start + k) clear)
