use Rattle.std.proofs.Common.{◌≡◌, map, drop}
use Rattle.project_model.specs.Clip.{are_different}
use Rattle.project_model.proofs.clip_rules.are_different.Given as goal

abbrev pub invariant-loop-index : goal.invariant-loop-index
invariant-loop-index l =
    are_different (map (λ clip. clip.name) l.clips) ≡ are_different (map (λ clip. clip.name) (drop l.index l.clips))
