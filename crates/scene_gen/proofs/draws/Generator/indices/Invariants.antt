use Rattle.scene_gen.specs.Draws.{draw, several}
use Rattle.scene_gen.proofs.Several.{AreDrawn}
use Rattle.scene_gen.proofs.draws.Generator.indices.Given as goal

abbrev pub invariant-loop : goal.invariant-loop
invariant-loop l = AreDrawn (several (λ _. draw l.fn.count) l.counter l.fn.self.state) l.indices.items l.self.state
