use Rattle.std.proofs.Common.{map, drop}
use Rattle.std.specs.List.{All}
use Rattle.scene_gen.specs.Streams.{drawn_params, IsMade}
use Rattle.scene_gen.proofs.Params.{IsRest, keys_of}
use Rattle.scene_gen.proofs.draws.Generator.params.Given as goal

abbrev pub invariant-loop-range : goal.invariant-loop-range
invariant-loop-range l =
    IsRest (drawn_params l.ranges l.fn.self.state) (map keys_of l.streams.items) (drawn_params (drop l.range-index l.ranges) l.self.state)
    × All IsMade l.streams.items
