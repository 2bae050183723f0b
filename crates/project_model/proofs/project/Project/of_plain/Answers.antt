use Rattle.std.proofs.Common.{◌∙◌, sym}
use Rattle.project_model.proofs.Based.{none_found}
use Rattle.project_model.proofs.Checked.{base_kept}
use Rattle.project_model.proofs.Readied.{comps_ready, sound_of, fits_of}
use Rattle.project_model.proofs.project.Project.of_plain.Goals as goal

pub unwrap-requires : goal.unwrap-requires
unwrap-requires c =
    sym c.is_some.ensures ∙ base_kept c.args.schemas.now c.args.plain c.is_some.result c.first_breach.result c.first_breach.ensures c.in_default-first_breach.is

pub project_of-requires-clause-ready : goal.project_of-requires-clause-ready
project_of-requires-clause-ready c =
    let kept = none_found c.args.schemas.now c.args.plain c.deref.result.now c.common_base-base.result c.unwrap.result c.is_some.result c.first_breach.result
    (c.deref.ensures.value ∙ c.in-Ok.ensures) c.unwrap.ensures c.common_base-base.ensures.base c.common_base-base.ensures.small
    c.is_some.ensures c.first_breach.ensures c.in_default-first_breach.is in
    comps_ready c.args.schemas.now c.args.plain c.unwrap.result.ticks c.requires.formed kept.none kept.base

pub returns-clause-sound : goal.returns-clause-sound
returns-clause-sound c =
    let kept = none_found c.args.schemas.now c.args.plain c.deref.result.now c.common_base-base.result c.unwrap.result c.is_some.result c.first_breach.result
    (c.deref.ensures.value ∙ c.in-Ok.ensures) c.unwrap.ensures c.common_base-base.ensures.base c.common_base-base.ensures.small
    c.is_some.ensures c.first_breach.ensures c.in_default-first_breach.is in
    sound_of c.args.schemas.now c.in-Ok-project_of.project c.args.plain c.unwrap.result c.requires.formed kept.none kept.base kept.small
    c.in-Ok-project_of.ensures.plain c.in-Ok-project_of.ensures.base c.in-Ok-project_of.ensures.based

pub returns-clause-fits : goal.returns-clause-fits
returns-clause-fits c =
    let kept = none_found c.args.schemas.now c.args.plain c.deref.result.now c.common_base-base.result c.unwrap.result c.is_some.result c.first_breach.result
    (c.deref.ensures.value ∙ c.in-Ok.ensures) c.unwrap.ensures c.common_base-base.ensures.base c.common_base-base.ensures.small
    c.is_some.ensures c.first_breach.ensures c.in_default-first_breach.is in
    fits_of c.args.schemas.now c.in-Ok-project_of.project c.args.plain c.unwrap.result c.requires.formed kept.none
    c.in-Ok-project_of.ensures.plain c.in-Ok-project_of.ensures.base c.in-Ok-project_of.ensures.based
