use Rattle.std.proofs.Common.{◌∙◌, ap, rules, tests}
use Rattle.std.specs.List.{list_all, flat_map}
use Rattle.std.proofs.lemmas.Iterator.{YieldsList-from_slice}
use Rattle.std.proofs.lemmas.Iterator.Search.{all_from_yields_List}
use Rattle.project_model.specs.Form.{is_scaled}
use Rattle.project_model.specs.Times.{key_times}
use Rattle.project_model.proofs.Formed.{all_pieces}
use Rattle.project_model.proofs.form.is_scaled_fx.Goals as goal

pub returns : goal.returns
returns c =
    all_from_yields_List (λ keys. list_all is_scaled (key_times keys)) _ _ _ c.all.ensures.ran (YieldsList-from_slice c.as_slice-params.result.now cc) (λ x b q k. search (rules, tests))
    ∙ all_pieces is_scaled key_times c.as_slice-params.result.now
    ∙ ap (λ params. list_all is_scaled (flat_map key_times params)) c.as_slice-params.ensures
