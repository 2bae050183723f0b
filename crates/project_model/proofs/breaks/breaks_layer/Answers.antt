use Rattle.project_model.proofs.EffectTests.{rank_broken}
use Rattle.project_model.proofs.Ranked.{told_small}
use Rattle.project_model.proofs.breaks.breaks_layer.Goals as goal

pub last_rank-requires-clause-small : goal.last_rank-requires-clause-small
last_rank-requires-clause-small c = told_small c.args.project.now c.args.nesting.now.ranks.items c.requires.formed c.requires.known.ranks_told

pub returns-in-Rank : goal.returns-in-Rank
returns-in-Rank c =
    rank_broken c.args.schemas.now c.args.project.now c.args.rule c.args.comp.now c.args.index c.args.layer.now c.args.nesting.now.ranks.items c.as_slice-in-Rank.result.now
    c.last_rank.result c.in-Rank.is c.as_slice-in-Rank.ensures c.requires.known.ranks_told c.last_rank.ensures
