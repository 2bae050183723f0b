use Rattle.std.proofs.Common.{◌≤◌, ◌++◌, ◌∷◌, [], length, sym, ap, ◌∙◌, arith, append-nil}
use Rattle.std.specs.Prelude.{map, string_bytes}
use Rattle.std.proofs.lemmas.List.{take_all, length-map}
use Rattle.frame_span.proofs.Frames.{taken_more}
use Rattle.frame_span.proofs.start.register_all.Goals as goal

pub loop-place-init : goal.loop-place-init
loop-place-init c = record { so_far = sym (append-nil c.args.classes.now) }

pub loop-place-preserved : goal.loop-place-preserved
loop-place-preserved c = record {
  so_far = c.in_ok-register.ensures ∙ ap (λ l. l ++ c.name_at.result.now ∷ []) c.loop-place.invariant.so_far
      ∙ taken_more c.args.classes.now (map string_bytes c.args.names.now) c.loop-place.place c.name_at.result.now c.name_at.ensures;
}

pub returns : goal.returns
returns c =
    let long : length (map string_bytes c.args.names.now) ≤ c.loop-place.place = omega (arith, length-map c.args.names.now string_bytes, c.loop-place-test.false) in
    c.loop-place.invariant.so_far ∙ ap (λ l. c.args.classes.now ++ l) (take_all c.loop-place.place (map string_bytes c.args.names.now) long)
