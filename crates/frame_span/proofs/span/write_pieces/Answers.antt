use Rattle.std.proofs.Common.{length, refl, subst}
use Rattle.std.specs.Prelude.{flat_map, take}
use Rattle.std.proofs.lemmas.Option.{slice_get_read}
use Rattle.frame_span.specs.Written.{AppendsFront}
use Rattle.frame_span.proofs.Known.{on_err, front_after}
use Rattle.frame_span.proofs.Frames.{piece_is_next}
use Rattle.frame_span.proofs.span.write_pieces.Goals as goal

pub returns-in_err-write_whole-clause-front : goal.returns-in_err-write_whole-clause-front
returns-in_err-write_whole-clause-front g c =
    let sink = g.K.Sink in
    let xs = c.args.pieces.now in
    let i = c.pieces.piece-index in
    let piece = c.piece-item.result in
    on_err c.from_residual.result _
    (front_after _ _ _ (flat_map (λ p. p.made.items) (take i xs)) piece.made.items (flat_map (λ p. p.made.items) xs) c.pieces.invariant.done
    (subst (AppendsFront (sink.written c.pieces.out) (sink.written c.write_whole.new.out)) c.deref.ensures.value c.in_err-write_whole.ensures.front)
    (piece_is_next (λ p. p.made.items) xs i piece (slice_get_read xs (length xs) i piece refl c.pieces-test.true c.piece-item.is)))
