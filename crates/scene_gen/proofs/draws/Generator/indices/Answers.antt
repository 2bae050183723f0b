use Rattle.scene_gen.specs.Draws.{draw}
use Rattle.scene_gen.proofs.Several.{none_drawn, more_drawn}
use Rattle.scene_gen.proofs.draws.Generator.indices.Goals as goal

pub loop-init : goal.loop-init
loop-init c = none_drawn (λ _. draw c.args.count) c.args.self.now.state c.new-indices.result.items c.new-indices.ensures.items

pub loop-preserved : goal.loop-preserved
loop-preserved c =
    more_drawn (λ _. draw c.args.count) c.loop.counter c.args.self.now.state c.loop.self.state c.draw.new.self.state c.loop.indices.items c.push.new.self.items c.draw.result
    c.loop.invariant c.draw.ensures.value c.draw.ensures.state c.in_ok-push.ensures.items
