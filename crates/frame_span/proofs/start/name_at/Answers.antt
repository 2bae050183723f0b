use Rattle.std.proofs.Common.{ap, refl, sym, ◌∙◌}
use Rattle.std.specs.Prelude.{string_bytes, option_map, Some}
use Rattle.std.proofs.lemmas.Option.{slice_get-map}
use Rattle.scene_meaning.proofs.Inside.{read_at}
use Rattle.frame_span.proofs.start.name_at.Goals as goal

pub returns : goal.returns
returns c =
    slice_get-map string_bytes c.args.names.now c.args.number
    ∙ ap (option_map string_bytes) (read_at c.args.names.now c.args.names.now c.args.number c.index-names-number.result refl c.requires c.index-names-number.is)
    ∙ ap (λ b. Some b) (sym c.as_str.ensures.value)
