use Rattle.std.proofs.Common.{◌∙◌, rules, tests}
use Rattle.std.specs.List.{list_all}
use Rattle.std.proofs.lemmas.Iterator.{YieldsList-from_slice}
use Rattle.std.proofs.lemmas.Iterator.Search.{all_from_yields_List}
use Rattle.project_model.specs.Form.{is_scaled}
use Rattle.project_model.specs.Times.{layer_times}
use Rattle.project_model.proofs.Formed.{all_pieces}
use Rattle.project_model.proofs.form.are_scaled_layers.Goals as goal

pub returns : goal.returns
returns c =
    all_from_yields_List (λ layer. list_all is_scaled (layer_times layer)) _ _ _ c.all.ensures.ran (YieldsList-from_slice c.args.layers.now cc) (λ x b q k. search (rules, tests))
    ∙ all_pieces is_scaled layer_times c.args.layers.now
