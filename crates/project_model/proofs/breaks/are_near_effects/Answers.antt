use Rattle.std.proofs.Common.{◌∙◌, rules, tests}
use Rattle.std.specs.List.{list_all}
use Rattle.std.proofs.lemmas.Iterator.{YieldsList-from_slice}
use Rattle.std.proofs.lemmas.Iterator.Search.{all_from_yields_List}
use Rattle.rational_time.specs.Times.{is_near}
use Rattle.project_model.specs.Times.{fx_times}
use Rattle.project_model.proofs.Formed.{all_pieces}
use Rattle.project_model.proofs.breaks.are_near_effects.Goals as goal

pub returns : goal.returns
returns c =
    all_from_yields_List (λ fx. list_all is_near (fx_times fx)) _ _ _ c.all.ensures.ran (YieldsList-from_slice c.args.effects.now cc) (λ x b q k. search (rules, tests))
    ∙ all_pieces is_near fx_times c.args.effects.now
