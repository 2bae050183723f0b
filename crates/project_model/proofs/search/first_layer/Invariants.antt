use Rattle.std.proofs.Common.{◌≡◌, drop}
use Rattle.project_model.specs.Places.{first_from}
use Rattle.project_model.specs.Rules.{breaks_layer}
use Rattle.project_model.proofs.search.first_layer.Given as goal

abbrev pub invariant-loop-index : goal.invariant-loop-index
invariant-loop-index l =
    first_from (breaks_layer l.schemas l.project l.rule l.comp) 0 l.comp.layers
    ≡ first_from (breaks_layer l.schemas l.project l.rule l.comp) l.index (drop l.index l.comp.layers)
