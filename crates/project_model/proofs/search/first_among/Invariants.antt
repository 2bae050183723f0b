use Rattle.std.proofs.Common.{◌≡◌, drop}
use Rattle.project_model.specs.Broken.{first_broken}
use Rattle.project_model.specs.Given.{place_given}
use Rattle.project_model.specs.Rules.{number_of}
use Rattle.project_model.proofs.search.first_among.Given as goal

abbrev pub invariant-loop-rule : goal.invariant-loop-rule
invariant-loop-rule l =
    first_broken number_of (place_given l.schemas l.project l.is_based) l.rules
    ≡ first_broken number_of (place_given l.schemas l.project l.is_based) (drop l.rule-index l.rules)
