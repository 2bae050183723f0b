use Rattle.std.proofs.Common.{◌≡◌, drop}
use Rattle.project_model.specs.Given.{place_given}
use Rattle.project_model.specs.Places.{first_in_comps}
use Rattle.project_model.specs.Rules.{breaks_comp, breaks_layer}
use Rattle.project_model.proofs.search.first_place.Given as goal

abbrev pub invariant-loop-index : goal.invariant-loop-index
invariant-loop-index l =
    place_given l.schemas l.project l.is_based l.rule
    ≡ first_in_comps (λ comp. comp.layers) (breaks_comp l.project l.rule) (breaks_layer l.schemas l.project l.rule) l.index (drop l.index l.project.comps)
