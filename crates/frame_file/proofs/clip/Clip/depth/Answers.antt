use Rattle.std.proofs.Common.{subst}
use Rattle.std.specs.List.{All}
use Rattle.argb_pixel.specs.Pixel.{IsPremultiplied}
use Rattle.project_model.specs.Bounds.{most_of}
use Rattle.frame_file.specs.Clip.{Pictures}
use Rattle.frame_file.proofs.Places.{all_sound}
use Rattle.frame_file.proofs.clip.Clip.depth.Goals as goal

pub returns-clause-pixels : goal.returns-clause-pixels
returns-clause-pixels c =
    subst (λ (v : Pictures). All (IsPremultiplied (most_of v.depth)) v.pixels) c.self.view_is (all_sound _ _ c.self.invariant.sound)
