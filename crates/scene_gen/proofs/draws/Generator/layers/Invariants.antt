use Rattle.std.proofs.Common.{map, length, ◌≡◌}
use Rattle.std.specs.List.{All}
use Rattle.project_model.specs.Plain.{plain_layer}
use Rattle.project_model.specs.Ready.{IsBasedLayer}
use Rattle.scene_gen.specs.Draws.{several}
use Rattle.scene_gen.specs.Layers.{drawn_layer}
use Rattle.scene_gen.proofs.Several.{AreDrawn}
use Rattle.scene_gen.proofs.draws.Generator.layers.Given as goal

abbrev pub invariant-loop-index : goal.invariant-loop-index
invariant-loop-index l =
    AreDrawn (several (drawn_layer l.fn.most l.fn.comp) l.index l.fn.self.state) (map plain_layer l.layers.items) l.self.state
    × All (IsBasedLayer 30000) l.layers.items
    × (length l.layers.items ≡ l.index)
