use Rattle.std.proofs.Common.{◌∙◌, sym, rules, tests}
use Rattle.std.proofs.lemmas.Iterator.{YieldsList-from_slice}
use Rattle.std.proofs.lemmas.Iterator.Search.{all_from_yields_List}
use Rattle.std.proofs.lemmas.List.Folds.{list_all-map}
use Rattle.project_model.specs.Form.{is_scaled}
use Rattle.project_model.proofs.form.are_scaled_clips.Goals as goal

pub returns : goal.returns
returns c =
    all_from_yields_List (λ k. is_scaled k.frame) _ _ _ c.all.ensures.ran (YieldsList-from_slice c.args.clips.now cc) (λ x b q k. search (rules, tests))
    ∙ sym (list_all-map is_scaled (λ k. k.frame) c.args.clips.now)
