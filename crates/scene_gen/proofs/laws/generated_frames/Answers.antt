use Rattle.std.proofs.Common.{refl}
use Rattle.scene_gen.specs.Generated.{generated}
use Rattle.scene_gen.proofs.laws.generated_frames.Goals as goal

pub returns : goal.returns
unfolding generated
returns c = λ number. record { clips = refl; root = refl; comps = refl; frame = refl; frames = refl }
