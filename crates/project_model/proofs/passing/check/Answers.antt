use Rattle.std.proofs.Common.{◌∙◌, sym, ap}
use Rattle.project_model.specs.Nesting.{ranks_of}
use Rattle.project_model.proofs.Based.{found_in, refuses}
use Rattle.project_model.proofs.Checked.{checked_sound, checked_fits}
use Rattle.project_model.proofs.Ranked.{table_made, told_small}
use Rattle.project_model.proofs.passing.check.Goals as goal

pub returns-in-Some-clause-refused : goal.returns-in-Some-clause-refused
returns-in-Some-clause-refused c =
    refuses c.in-Some.breach c.error_of.result _
    (sym c.in-Some.is ∙ found_in c.args.schemas.now c.args.project.now c.in-Ok.plain c.deref.result.now c.keeps_base-is_based.result c.first_breach.result
    c.in-Ok.ensures.plain (c.deref.ensures.value ∙ c.in-Ok-times_of.ensures) c.keeps_base-is_based.ensures c.first_breach.ensures)
    c.error_of.ensures

pub ranks_of-requires-clause-small : goal.ranks_of-requires-clause-small
ranks_of-requires-clause-small c =
    told_small c.in-Ok.plain c.in-Ok-nesting_of.nesting.ranks.items c.in-Ok.ensures.formed c.in-Ok-nesting_of.ensures.known.ranks_told

pub returns-clause-passed : goal.returns-clause-passed
returns-clause-passed c =
    sym (found_in c.args.schemas.now c.args.project.now c.in-Ok.plain c.deref.result.now c.keeps_base-is_based.result c.first_breach.result
    c.in-Ok.ensures.plain (c.deref.ensures.value ∙ c.in-Ok-times_of.ensures) c.keeps_base-is_based.ensures c.first_breach.ensures)
    ∙ c.in_default-first_breach.is

pub returns-clause-sound : goal.returns-clause-sound
returns-clause-sound c =
    checked_sound c.args.schemas.now c.args.project.now c.in-Ok.plain c.deref.result.now c.keeps_base-is_based.result c.first_breach.result
    c.in-Ok.ensures.plain c.in-Ok.ensures.formed (c.deref.ensures.value ∙ c.in-Ok-times_of.ensures) c.keeps_base-is_based.ensures c.first_breach.ensures
    c.in_default-first_breach.is

pub returns-clause-fits : goal.returns-clause-fits
returns-clause-fits c =
    checked_fits c.args.schemas.now c.args.project.now c.in-Ok.plain c.deref.result.now c.keeps_base-is_based.result c.first_breach.result
    c.in-Ok.ensures.plain c.in-Ok.ensures.formed (c.deref.ensures.value ∙ c.in-Ok-times_of.ensures) c.keeps_base-is_based.ensures c.first_breach.ensures
    c.in_default-first_breach.is

pub returns-clause-ranked : goal.returns-clause-ranked
returns-clause-ranked c =
    table_made c.in-Ok.plain c.in-Ok-nesting_of.nesting.ranks.items c.in-Ok-ranks_of.ranks
    c.in-Ok-nesting_of.ensures.known.ranks_told c.in-Ok-nesting_of.ensures.ranks c.in-Ok-ranks_of.ensures
    ∙ ap ranks_of c.in-Ok.ensures.plain
