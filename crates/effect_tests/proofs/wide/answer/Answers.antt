use Rattle.std.proofs.Common.{sym, subst}
use Rattle.geom_rect.specs.Rect.{HasCoordinates}
use Rattle.effect_tests.specs.Wide.{meet_may_grow}
use Rattle.effect_tests.proofs.wide.answer.Goals as goal

pub grow-request-requires-clause-sides : goal.grow-request-requires-clause-sides
grow-request-requires-clause-sides c =
    subst HasCoordinates (sym c.meet-result_rect.ensures.value) (meet_may_grow c.args.request c.args.extent c.requires.request c.requires.extent)
