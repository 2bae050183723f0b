use Rattle.scene_gen.specs.Draws.{draw, several}
use Rattle.scene_gen.proofs.Several.{AreDrawn}
use Rattle.scene_gen.proofs.draws.Generator.bytes.Given as goal

abbrev pub invariant-loop : goal.invariant-loop
invariant-loop l = AreDrawn (several (λ _. draw 256) l.counter l.fn.self.state) l.bytes.items l.self.state
