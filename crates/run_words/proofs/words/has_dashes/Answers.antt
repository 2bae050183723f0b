use Rattle.std.proofs.Common.{rules, string_bytes, tests}
use Rattle.std.proofs.lemmas.Iterator.{YieldsList-from_slice}
use Rattle.std.proofs.lemmas.Iterator.Search.{any_from_yields_List}
use Rattle.run_words.specs.Options.{is_dashes}
use Rattle.run_words.proofs.words.has_dashes.Goals as goal

pub returns : goal.returns
returns c =
    any_from_yields_List (λ word. is_dashes (string_bytes word)) _ _ c.any.result c.any.ensures.ran (YieldsList-from_slice c.args.words.now cc)
    (λ x b q k. search (rules, tests))
