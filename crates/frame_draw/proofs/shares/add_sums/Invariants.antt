use Rattle.std.proofs.Common.{◌+◌, ◌*◌, length}
use Rattle.std.specs.List.{All}
use Rattle.project_model.specs.Plain.{plain_of}
use Rattle.frame_draw.specs.Levels.{IsShareUnder, comp_level}
use Rattle.frame_draw.proofs.shares.add_sums.Given as goal

-- what was added so far is shared too
abbrev pub invariant-loop-place : goal.invariant-loop-place
invariant-loop-place g l = All (IsShareUnder (plain_of l.scene.project) (length g.E.Effect.class_names) (comp_level (plain_of l.scene.project) l.of (16 * l.number + 7))) l.shares.items
