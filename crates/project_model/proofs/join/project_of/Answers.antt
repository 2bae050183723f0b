use Rattle.std.proofs.Common.{length, arith, ap}
use Rattle.std.proofs.lemmas.List.{length-map}
use Rattle.project_model.specs.Plain.{plain_comp}
use Rattle.project_model.specs.Form.{plain_layer_count}
use Rattle.project_model.specs.declared.plain.PlainComp.{PlainComp}
use Rattle.project_model.proofs.Joined.{same_count}
use Rattle.project_model.proofs.Readied.{scales_of_clips}
use Rattle.project_model.proofs.join.project_of.Goals as goal

pub invariant_of-result-clause-some_comp : goal.invariant_of-result-clause-some_comp
invariant_of-result-clause-some_comp c =
    omega (arith, length-map c.in_ok-comps.comps plain_comp, ap (length {A = PlainComp}) c.in_ok-comps.ensures.plain, c.requires.formed.some_comp)

pub invariant_of-result-clause-few_comps : goal.invariant_of-result-clause-few_comps
invariant_of-result-clause-few_comps c =
    omega (arith, length-map c.in_ok-comps.comps plain_comp, ap (length {A = PlainComp}) c.in_ok-comps.ensures.plain, c.requires.formed.few_comps)

pub invariant_of-result-clause-few_layers : goal.invariant_of-result-clause-few_layers
invariant_of-result-clause-few_layers c =
    omega (arith, same_count c.in_ok-comps.comps, ap plain_layer_count c.in_ok-comps.ensures.plain, c.requires.formed.few_layers)

pub invariant_of-result-clause-clips_scaled : goal.invariant_of-result-clause-clips_scaled
invariant_of-result-clause-clips_scaled c = scales_of_clips c.args.plain c.requires.formed
