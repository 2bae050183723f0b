use Rattle.std.proofs.Common.{true≢false, sym, ◌∙◌}
use Rattle.project_json.proofs.ReadLemmas.{json_of-text, json_of_none, project_of-not_json}
use Rattle.project_json.proofs.read.value_of.Goals as goal

pub returns-in-Ok-clause-value : goal.returns-in-Ok-clause-value
returns-in-Ok-clause-value c = json_of-text c.args.bytes.now c.in-Ok.ensures.ok.0 ∙ c.in-Ok.ensures.ok.1

pub returns-else-is_memory-clause-refused : goal.returns-else-is_memory-clause-refused
returns-else-is_memory-clause-refused c schemas =
    project_of-not_json schemas c.args.bytes.now (json_of_none c.args.bytes.now (λ text. c.in-Err.ensures.err (λ memory. true≢false (sym (c.if-is_memory.ensures.1 memory))) text))
