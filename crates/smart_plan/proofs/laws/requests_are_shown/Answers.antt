use Rattle.smart_plan.specs.Suffices.{request_shown}
use Rattle.smart_plan.proofs.laws.requests_are_shown.Goals as goal

pub returns : goal.returns
returns c = request_shown
