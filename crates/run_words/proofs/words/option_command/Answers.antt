use Rattle.std.proofs.Common.{◌≡◌, ◌∙◌, ap, ap₂, true}
use Rattle.std.proofs.lemmas.Result.{IfOk-weaker}
use Rattle.clap.specs.Simple.{Shape, app_of, app_of_fields, on_top, with_rule}
use Rattle.run_words.specs.Options.{bare_app}
use Rattle.run_words.proofs.words.option_command.Goals as goal

pub returns : goal.returns
returns c =
    let unnamed : app_of c.no_binary_name.result ≡ _ =
    ap app_of_fields c.no_binary_name.ensures ∙ ap (on_top (λ (s : Shape). record s { no_binary_name = true })) c.new.ensures.app in
    let no_help : app_of c.disable_help_flag.result ≡ _ =
    ap app_of_fields c.disable_help_flag.ensures ∙ ap (on_top (λ (s : Shape). record s { disable_help_flag = true })) unnamed in
    let bare : app_of c.disable_version_flag.result ≡ bare_app =
    ap app_of_fields c.disable_version_flag.ensures ∙ ap (on_top (λ (s : Shape). record s { disable_version_flag = true })) no_help in
    let with_mode = c.in_ok-arg.ensures.shape c.option.ensures.local ∙ ap₂ with_rule bare c.option.ensures.rule in
    let with_workers = c.in_ok-arg-2.ensures.shape c.option-2.ensures.local ∙ ap₂ with_rule with_mode c.option-2.ensures.rule in
    let with_from = c.in_ok-arg-3.ensures.shape c.option-3.ensures.local ∙ ap₂ with_rule with_workers c.option-3.ensures.rule in
    let with_to = c.in_ok-arg-4.ensures.shape c.option-4.ensures.local ∙ ap₂ with_rule with_from c.option-4.ensures.rule in
    let with_budget = c.in_ok-arg-5.ensures.shape c.option-5.ensures.local ∙ ap₂ with_rule with_to c.option-5.ensures.rule in
    IfOk-weaker c.arg-6.result _ _ (λ r h. h.shape c.option-6.ensures.local ∙ ap₂ with_rule with_budget c.option-6.ensures.rule) c.arg-6.ensures
