use Rattle.std.proofs.Common.{◌*◌, ◌+◌}
use Rattle.project_model.specs.Nesting.{stack_rank, source_rank}
use Rattle.project_model.specs.Plain.{plain_of}
use Rattle.frame_draw.proofs.count.+count.Given as goal

-- what is nested has a lesser rank
abbrev pub decreases-count_uses : goal.decreases-count_uses
decreases-count_uses l = 3 * stack_rank (plain_of l.scene.now.project) l.index + 1

abbrev pub decreases-count_layer : goal.decreases-count_layer
decreases-count_layer l = 3 * stack_rank (plain_of l.scene.now.project) l.of

abbrev pub decreases-count_source : goal.decreases-count_source
decreases-count_source l = 3 * source_rank (stack_rank (plain_of l.scene.now.project)) l.layer.now.source + 2
