use Rattle.std.proofs.Common.{ℕ, List, ◌∙◌, ap}
use Rattle.project_model.proofs.RankSteps.{same_table, rows_of}
use Rattle.project_model.proofs.ranks.ranks_of.Goals as goal

pub returns : goal.returns
returns c =
    same_table c.from_vec.result c.args.stacks.items c.from_vec-2.result _ c.from_vec.ensures
    (c.from_vec-2.ensures ∙ c.in_ok-nodes.ensures ∙ ap (rows_of c.as_slice-2.result.now) c.as_slice.ensures ∙ ap (λ (stacks : List ℕ). rows_of stacks c.args.project.now.comps) c.as_slice-2.ensures.value)
