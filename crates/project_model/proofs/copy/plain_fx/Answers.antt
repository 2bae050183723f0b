use Rattle.std.proofs.Common.{◌≤◌}
use Rattle.std.specs.List.{All}
use Rattle.std.proofs.lemmas.List.Elements.{All-same}
use Rattle.project_model.specs.Times.{key_times}
use Rattle.project_model.proofs.Copied.{fx_scaled}
use Rattle.project_model.proofs.copy.plain_fx.Goals as goal

pub returns-clause-scaled : goal.returns-clause-scaled
returns-clause-scaled c =
    fx_scaled c.from_vec.result
    (All-same (λ keys. All (λ time. 1 ≤ time.scale) (key_times keys)) c.from_vec.result c.in_ok-params.params.items c.from_vec.ensures c.in_ok-params.ensures.scaled)
