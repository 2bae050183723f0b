use Rattle.std.proofs.Common.{map, length, ◌≡◌}
use Rattle.std.specs.List.{All}
use Rattle.project_model.specs.Plain.{plain_fx}
use Rattle.scene_gen.specs.Draws.{draw, several}
use Rattle.scene_gen.specs.Layers.{drawn_effect}
use Rattle.scene_gen.specs.Streams.{IsMade}
use Rattle.scene_gen.proofs.Several.{AreDrawn}
use Rattle.scene_gen.proofs.draws.Generator.effects.Given as goal

abbrev pub invariant-loop : goal.invariant-loop
invariant-loop l =
    AreDrawn (several (λ _. drawn_effect l.fn.count) l.counter (draw 2 l.fn.self.state).state) (map plain_fx l.uses.items) l.self.state
    × All (λ fx. All IsMade fx.params) l.uses.items
    × (length l.uses.items ≡ l.counter)
