use Rattle.std.proofs.Common.{◌≡◌, drop}
use Rattle.serde_json.specs.View.{view}
use Rattle.project_model.specs.Broken.{first_broken}
use Rattle.project_json.specs.FormRules.{number_of, place_of}
use Rattle.project_json.proofs.places.check_each.Given as goal

abbrev pub invariant-loop-rule : goal.invariant-loop-rule
invariant-loop-rule l =
    first_broken number_of (place_of l.schemas (view l.top)) l.rules ≡ first_broken number_of (place_of l.schemas (view l.top)) (drop l.rule-index l.rules)
