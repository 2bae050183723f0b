use Rattle.std.proofs.Common.{◌≤◌, map, ◌∙◌, ap}
use Rattle.std.specs.List.{All}
use Rattle.std.proofs.lemmas.List.Elements.{All-same}
use Rattle.project_model.specs.Form.{IsFormedComp}
use Rattle.project_model.specs.Plain.{plain_comp}
use Rattle.project_model.specs.Times.{comp_times}
use Rattle.project_model.specs.declared.plain.PlainComp.{PlainComp}
use Rattle.project_model.proofs.Copied.{formed}
use Rattle.project_model.proofs.copy.plain_of.Goals as goal

pub returns-clause-formed : goal.returns-clause-formed
returns-clause-formed c =
    let Q : PlainComp → Type 0 = λ comp. All (λ time. 1 ≤ time.scale) (comp_times comp) in
    let clips = c.from_vec.ensures ∙ c.in_ok-clips.ensures ∙ c.as_slice.ensures in
    let comps = c.from_vec-2.ensures ∙ c.in_ok-comps.ensures.plain ∙ ap (map plain_comp) c.as_slice-2.ensures in
    formed c.args.project.now c.from.result c.from_vec.result c.from_vec-2.result c.from.ensures clips comps
    (All-same IsFormedComp c.from_vec-2.result c.in_ok-comps.comps.items c.from_vec-2.ensures c.in_ok-comps.ensures.formed)
    (All-same Q c.from_vec-2.result c.in_ok-comps.comps.items c.from_vec-2.ensures c.in_ok-comps.ensures.scaled)
