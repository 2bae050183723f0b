use Rattle.std.proofs.Common.{◌≡◌, ◌∙◌, Bool, Global, List, Some, String, ap, false, map, string_bytes, sym, true}
use Rattle.std.specs.List.{list_any}
use Rattle.clap.proofs.WalkLemmas.{list_any-map}
use Rattle.run_words.specs.Options.{is_dashes}
use Rattle.clap.specs.Simple.{app_of}
use Rattle.clap.specs.Faults.{is_simple_and_free}
use Rattle.run_words.specs.Words.{finished}
use Rattle.run_words.proofs.Forms.{dashes_refused}
use Rattle.run_words.proofs.Said.{reading_of}
use Rattle.run_words.proofs.AllRead.{fault_refuses, is_free, settings_found}
use Rattle.run_words.proofs.words.read_words.Goals as goal

-- what the test of the words says of their texts
in_texts : (words : List (String Global)) (r b : Bool) → r ≡ list_any (λ word. is_dashes (string_bytes word)) words → r ≡ b → list_any is_dashes (map string_bytes words) ≡ b
in_texts words r b test is = sym (list_any-map is_dashes string_bytes words) ∙ sym test ∙ is

pub returns-then-has_dashes-clause-refused : goal.returns-then-has_dashes-clause-refused
returns-then-has_dashes-clause-refused c =
    λ e. dashes_refused (map string_bytes c.args.words.now) (in_texts c.args.words.now c.has_dashes.result true c.has_dashes.ensures c.if-has_dashes.true)

pub returns-in-Some-clause-settings : goal.returns-in-Some-clause-settings
returns-in-Some-clause-settings c =
    let parse = c.in-Ok-try_get_matches_from in
    settings_found (app_of c.in-Ok.command) (map string_bytes c.args.words.now) parse.matches c.in-Ok.ensures
    (in_texts c.args.words.now c.has_dashes.result false c.has_dashes.ensures c.if-has_dashes.false) (parse.ensures.kinds (ap is_simple_and_free c.in-Ok.ensures ∙ is_free)) parse.ensures.matches
    ∙ ap (λ o. finished (reading_of o)) (sym c.given_by.ensures ∙ c.in-Some.is) ∙ ap (λ s. Some s) (sym c.settings.ensures)

pub returns-in-Ok-try_get_matches_from-clause-refused : goal.returns-in-Ok-try_get_matches_from-clause-refused
returns-in-Ok-try_get_matches_from-clause-refused c =
    let parse = c.in-Ok-try_get_matches_from in
    λ e. settings_found (app_of c.in-Ok.command) (map string_bytes c.args.words.now) parse.matches c.in-Ok.ensures
    (in_texts c.args.words.now c.has_dashes.result false c.has_dashes.ensures c.if-has_dashes.false) (parse.ensures.kinds (ap is_simple_and_free c.in-Ok.ensures ∙ is_free)) parse.ensures.matches
    ∙ ap (λ o. finished (reading_of o)) (sym c.given_by.ensures ∙ c.in-None.is)

pub returns-clause-refused : goal.returns-clause-refused
returns-clause-refused c =
    let parse = c.in-Err in
    λ e. fault_refuses (app_of c.in-Ok.command) (map string_bytes c.args.words.now) parse.error c.in-Ok.ensures
    (in_texts c.args.words.now c.has_dashes.result false c.has_dashes.ensures c.if-has_dashes.false) (parse.ensures.kinds (ap is_simple_and_free c.in-Ok.ensures ∙ is_free))
    (λ memory. c.failure_of.ensures.refused.0 (cc) (c.kind.ensures ∙ memory))
