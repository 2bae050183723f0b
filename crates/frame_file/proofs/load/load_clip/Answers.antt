use Rattle.std.proofs.Common.{◌≡◌, Ok, Err, drop, refl, sym, ap, ◌∙◌}
use Rattle.project_model.specs.Bounds.{header_length}
use Rattle.frame_file.specs.Clip.{pictures_of, pixels_of, judged}
use Rattle.frame_file.proofs.Loads.{judges_read}
use Rattle.frame_file.proofs.load.load_clip.Goals as goal

pub returns-in-Ok-clause-loads : goal.returns-in-Ok-clause-loads
returns-in-Ok-clause-loads g c =
    let declared = c.args.declared.now in
    let told = rw c.in-Ok-Some.field-0-is at c.in-Ok-Some.ensures.told in
    let is : judged c.in-Ok-Some.there c.deref.result.now declared ≡ Ok c.of_judged.result =
    c.in-Ok.ensures.passed
    ∙ ap (λ xs. Ok (pictures_of declared (pixels_of declared.depth (drop header_length xs)))) c.deref.ensures.value
    ∙ ap Ok (sym c.of_judged.ensures) in
    judges_read _ _ declared c.as_str.result.now c.as_str-2.result.now c.in-Ok-Some.there c.min-most.result c.file_length.result c.in_ok-bytes.bytes.items c.deref.result.now (Ok c.of_judged.result)
    told c.in-Ok-Some.ensures.kept c.in_ok-bytes.ensures.front c.as_str.ensures c.as_str-2.ensures c.min-most.ensures c.file_length.ensures.value c.deref.ensures.value is

pub returns-in-Err-judge-clause-loads : goal.returns-in-Err-judge-clause-loads
returns-in-Err-judge-clause-loads g c =
    let declared = c.args.declared.now in
    let told = rw c.in-Ok-Some.field-0-is at c.in-Ok-Some.ensures.told in (
      refl,
      judges_read _ _ declared c.as_str.result.now c.as_str-2.result.now c.in-Ok-Some.there c.min-most.result c.file_length.result c.in_ok-bytes.bytes.items c.deref.result.now (Err c.in-Err-judge.why)
          told c.in-Ok-Some.ensures.kept c.in_ok-bytes.ensures.front c.as_str.ensures c.as_str-2.ensures c.min-most.ensures c.file_length.ensures.value c.deref.ensures.value c.in-Err-judge.ensures.refused,
    )
