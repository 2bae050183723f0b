use Rattle.std.specs.List.{All}
use Rattle.project_model.specs.Plain.{plain_fx}
use Rattle.project_model.specs.declared.effect.FxUse.{FxUse}
use Rattle.scene_gen.specs.Layers.{drawn_effect}
use Rattle.scene_gen.specs.Streams.{IsMade}
use Rattle.scene_gen.proofs.Several.{none_said, more_said, none_all, more_all}
use Rattle.scene_gen.proofs.draws.Generator.effects.Goals as goal

pub loop-init : goal.loop-init
loop-init c =
    let all = none_all (λ (fx : FxUse). All IsMade fx.params) c.new-uses.result.items c.new-uses.ensures.items in
    (none_said plain_fx (λ _. drawn_effect c.args.count) _ c.draw-end.new.self.state c.new-uses.result.items c.new-uses.ensures.items c.draw-end.ensures.state, all.0, all.1)

pub loop-preserved : goal.loop-preserved
loop-preserved c =
    let grown = c.in_ok-push.ensures.items in
    let all = more_all (λ (fx : FxUse). All IsMade fx.params) c.loop.uses.items c.push.new.self.items c.in_ok-effect.field-0 c.loop.counter
    (c.loop.invariant.1, c.loop.invariant.2) c.in_ok-effect.ensures.made grown in (
      more_said plain_fx (λ _. drawn_effect c.args.count) c.loop.counter _ c.loop.self.state c.effect.new.self.state c.loop.uses.items c.push.new.self.items c.in_ok-effect.field-0
          c.loop.invariant.0 c.in_ok-effect.ensures.fx c.in_ok-effect.ensures.state grown,
      all.0,
      all.1,
    )
