use Rattle.std.proofs.Common.{◌≡◌, ◌≤◌, map, take}
use Rattle.std.specs.List.{All}
use Rattle.project_model.specs.Form.{IsKeyCount}
use Rattle.project_model.specs.Times.{key_times}
use Rattle.project_model.proofs.copy.plain_params.Given as goal

abbrev pub invariant-loop-stream : goal.invariant-loop-stream
invariant-loop-stream l =
    (l.plain.items ≡ map (λ curve. curve.keys) (take l.stream-index l.params))
    × All IsKeyCount l.plain.items
    × All (λ keys. All (λ time. 1 ≤ time.scale) (key_times keys)) l.plain.items
