use Rattle.std.proofs.Common.{◌≡◌, ℕ, ◌+◌, ◌-◌, ◌≤◌, List, [], ◌++◌, ◌∙◌, ap, refl, sym, subst, vec_len, append_assoc, rules, arith}
use Rattle.std.proofs.lemmas.List.{append-nil}
use Rattle.std.specs.Prelude.{flat_map}
use Rattle.std.specs.List.{range_with_len}
use Rattle.std.specs.Io.KnownBytes.{Appends}
use Rattle.project_model.specs.Plain.{plain_comp}
use Rattle.scene_meaning.specs.Scene.{plain_scene}
use Rattle.project_model.specs.declared.plain.PlainComp.{PlainComp}
use Rattle.scene_meaning.specs.Shown.{PlainScene}
use Rattle.scene_meaning.specs.Output.{header_of}
use Rattle.frame_span.specs.Forms.{head_text, frame_text, tail_text, root_text}
use Rattle.frame_span.specs.declared.form.Form.{Form}
use Rattle.frame_span.specs.declared.form.Form.TheVariants as form
use Rattle.effect_api.specs.Sets.{EffectSet, Drawing}
use Rattle.frame_span.specs.Written.{IsPrefix, AppendsFront, text_of}
use Rattle.frame_span.proofs.Known.{on_err, on_err_map, on_ok_map, front_of, front_after, appends_more, prefix_behind, prefix_trans}
use Rattle.frame_span.proofs.Frames.{pieces_both, pieces_prefix}
use Rattle.frame_span.proofs.span.write_frames.Goals as goal

-- what stands before the frames and so many frames
so_far : Form → PlainScene → PlainComp → ℕ → ℕ → ℕ → List ℕ
so_far f p comp first count n = head_text f (header_of p.project.depth comp first count) ++ flat_map (frame_text f p comp) (range_with_len first n)

-- one window more
next_is : (f : Form) (p : PlainScene) (comp : PlainComp) (first count at n m : ℕ) → first ≤ at → m ≡ at + n - first
    → so_far f p comp first count (at - first) ++ flat_map (frame_text f p comp) (range_with_len at n) ≡ so_far f p comp first count m
unfolding so_far
next_is f p comp first count at n m le e =
    let head = head_text f (header_of p.project.depth comp first count) in
    let before = flat_map (frame_text f p comp) (range_with_len first (at - first)) in
    append_assoc head before (flat_map (frame_text f p comp) (range_with_len at n))
    ∙ ap (λ xs. head ++ xs)
    (ap (λ k. before ++ flat_map (frame_text f p comp) (range_with_len k n)) (omega arith)
    ∙ pieces_both (frame_text f p comp) first (at - first) n ∙ ap (λ k. flat_map (frame_text f p comp) (range_with_len first k)) (omega arith))

-- all of them, and what stands behind
whole_is : (f : Form) (p : PlainScene) (comp : PlainComp) (first count : ℕ) → so_far f p comp first count count ++ tail_text f count ≡ root_text f p comp first count
unfolding so_far
whole_is form.File p comp first count = append-nil _
whole_is form.Lines p comp first count = refl

front_is : (f : Form) (p : PlainScene) (comp : PlainComp) (first count n : ℕ) → n ≤ count → IsPrefix (so_far f p comp first count n) (root_text f p comp first count)
unfolding so_far
front_is f p comp first count n le =
    prefix_trans _ (so_far f p comp first count count) _
    (prefix_behind (head_text f (header_of p.project.depth comp first count)) (flat_map (frame_text f p comp) (range_with_len first n)) (flat_map (frame_text f p comp) (range_with_len first count))
    (pieces_prefix (frame_text f p comp) first n (count - n) count (omega arith)))
    (tail_text f count, whole_is f p comp first count)

-- with the window that is drawn, they are a front of all
pending_is : (f : Form) (p : PlainScene) (comp : PlainComp) (first count at n : ℕ) (drawn : List ℕ) → drawn ≡ flat_map (frame_text f p comp) (range_with_len at n) → first ≤ at
    → at + n ≤ first + count → IsPrefix (so_far f p comp first count (at - first) ++ drawn) (root_text f p comp first count)
pending_is f p comp first count at n drawn e low high =
    subst (λ xs. IsPrefix (so_far f p comp first count (at - first) ++ xs) (root_text f p comp first count)) (sym e)
    (subst (λ xs. IsPrefix xs (root_text f p comp first count)) (sym (next_is f p comp first count at n (at + n - first) low refl))
    (front_is f p comp first count (at + n - first) (omega (arith, low, high))))

pub returns-in_err-write_head-clause-front : goal.returns-in_err-write_head-clause-front
unfolding so_far
returns-in_err-write_head-clause-front g c =
    let set : EffectSet = record {
      schemas = g.E.Effect.schemas;
      class_names = g.E.Effect.class_names;
      wants = g.E.Effect.wants;
      asks = g.E.Effect.asks;
      bounds = g.E.Effect.bounds;
      need = g.E.Effect.need;
    } in
    let drawing : Drawing = record { draws = g.E.Draw.draws; sums_of = g.E.Draw.sums_of } in
    let p = plain_scene c.args.maker.now.scene.now set drawing in
    let comp = plain_comp c.args.maker.now.comp.now in
    let from = c.args.span.from in
    let count = c.args.span.to + 1 - from in
    let head = head_text c.args.maker.now.form (header_of p.project.depth comp from count) in
    on_err c.from_residual.result _
    (front_of _ _ head (root_text c.args.maker.now.form p comp from count) c.in_err-write_head.ensures.front
    (subst (λ xs. IsPrefix xs (root_text c.args.maker.now.form p comp from count)) (append-nil head) (front_is c.args.maker.now.form p comp from count 0 (omega arith))))

pub returns-in_err-drawn-clause-front : goal.returns-in_err-drawn-clause-front
unfolding so_far
returns-in_err-drawn-clause-front g c =
    let set : EffectSet = record {
      schemas = g.E.Effect.schemas;
      class_names = g.E.Effect.class_names;
      wants = g.E.Effect.wants;
      asks = g.E.Effect.asks;
      bounds = g.E.Effect.bounds;
      need = g.E.Effect.need;
    } in
    let drawing : Drawing = record { draws = g.E.Draw.draws; sums_of = g.E.Draw.sums_of } in
    let sink = g.K.Sink in
    let p = plain_scene c.args.maker.now.scene.now set drawing in
    let comp = plain_comp c.args.maker.now.comp.now in
    let f = c.args.maker.now.form in
    let from = c.args.span.from in
    let count = c.args.span.to + 1 - from in
    let n = vec_len c.windows.drawn in
    let at = c.windows.frame - n in
    on_err c.from_residual-in_err-drawn.result _
    (front_after _ _ _ (so_far f p comp from count (at - from)) (text_of c.windows.drawn.items) (root_text f p comp from count) c.windows.invariant.done
    (subst (λ pieces. AppendsFront (sink.written c.windows.out) (sink.written c.draw_beside.new.out) (text_of pieces)) c.deref.ensures.value c.in_err-drawn.ensures.front)
    (pending_is f p comp from count at n _ c.windows.invariant.pending (omega (arith, c.windows.invariant.low)) (omega (arith, c.windows.invariant.low, c.windows.invariant.high))))

pub windows-preserved : goal.windows-preserved
unfolding so_far
windows-preserved g c =
    let set : EffectSet = record {
      schemas = g.E.Effect.schemas;
      class_names = g.E.Effect.class_names;
      wants = g.E.Effect.wants;
      asks = g.E.Effect.asks;
      bounds = g.E.Effect.bounds;
      need = g.E.Effect.need;
    } in
    let drawing : Drawing = record { draws = g.E.Draw.draws; sums_of = g.E.Draw.sums_of } in
    let sink = g.K.Sink in
    let p = plain_scene c.args.maker.now.scene.now set drawing in
    let comp = plain_comp c.args.maker.now.comp.now in
    let f = c.args.maker.now.form in
    let from = c.args.span.from in
    let count = c.args.span.to + 1 - from in
    let n = vec_len c.windows.drawn in
    let at = c.windows.frame - n in
    let more = c.window_of-count.result in
    let made = c.in_ok-drawn.drawn in
    let len : vec_len made ≡ more = c.in_ok-drawn.ensures.count in
    let written = subst (λ pieces. Appends (sink.written c.windows.out) (sink.written c.draw_beside.new.out) (text_of pieces)) c.deref.ensures.value c.in_ok-drawn.ensures.whole in
    record {
      done = subst (Appends (sink.written c.args.out.now) (sink.written c.draw_beside.new.out))
          (next_is f p comp from count at n _ (omega (arith, c.windows.invariant.low)) (omega (arith, len, c.windows.invariant.low)))
          (appends_more _ _ _ (so_far f p comp from count (at - from)) (flat_map (frame_text f p comp) (range_with_len at n)) c.windows.invariant.done
          (subst (Appends (sink.written c.windows.out) (sink.written c.draw_beside.new.out)) c.windows.invariant.pending written));
      pending = c.in_ok-drawn.ensures.next ∙ ap (λ k. flat_map (frame_text f p comp) (range_with_len k more)) (omega (arith, len)) ∙ ap (λ k. flat_map (frame_text f p comp) (range_with_len (c.windows.frame + more - vec_len made) k)) (sym len);
      faults = search rules;
      low = omega (arith, len, c.windows.invariant.low);
      high = omega arith;
      seats = search rules;
      fit = c.in_ok-drawn.ensures.fit;
    }

pub returns-in_err-write_pieces-clause-front : goal.returns-in_err-write_pieces-clause-front
unfolding so_far
returns-in_err-write_pieces-clause-front g c =
    let set : EffectSet = record {
      schemas = g.E.Effect.schemas;
      class_names = g.E.Effect.class_names;
      wants = g.E.Effect.wants;
      asks = g.E.Effect.asks;
      bounds = g.E.Effect.bounds;
      need = g.E.Effect.need;
    } in
    let drawing : Drawing = record { draws = g.E.Draw.draws; sums_of = g.E.Draw.sums_of } in
    let sink = g.K.Sink in
    let p = plain_scene c.args.maker.now.scene.now set drawing in
    let comp = plain_comp c.args.maker.now.comp.now in
    let f = c.args.maker.now.form in
    let from = c.args.span.from in
    let count = c.args.span.to + 1 - from in
    let n = vec_len c.windows.drawn in
    let at = c.windows.frame - n in
    on_err c.from_residual-in_err-write_pieces.result _
    (front_after _ _ _ (so_far f p comp from count (at - from)) (text_of c.windows.drawn.items) (root_text f p comp from count) c.windows.invariant.done
    (subst (λ pieces. AppendsFront (sink.written c.windows.out) (sink.written c.write_pieces.new.out) (text_of pieces)) c.deref-2.ensures.value c.in_err-write_pieces.ensures.front)
    (pending_is f p comp from count at n _ c.windows.invariant.pending (omega (arith, c.windows.invariant.low)) (omega (arith, c.windows.invariant.low, c.windows.invariant.high))))

pub returns-clause-whole : goal.returns-clause-whole
unfolding so_far
returns-clause-whole g c =
    let set : EffectSet = record {
      schemas = g.E.Effect.schemas;
      class_names = g.E.Effect.class_names;
      wants = g.E.Effect.wants;
      asks = g.E.Effect.asks;
      bounds = g.E.Effect.bounds;
      need = g.E.Effect.need;
    } in
    let drawing : Drawing = record { draws = g.E.Draw.draws; sums_of = g.E.Draw.sums_of } in
    let sink = g.K.Sink in
    let p = plain_scene c.args.maker.now.scene.now set drawing in
    let comp = plain_comp c.args.maker.now.comp.now in
    let f = c.args.maker.now.form in
    let from = c.args.span.from in
    let count = c.args.span.to + 1 - from in
    let n = vec_len c.windows.drawn in
    let at = c.windows.frame - n in
    let written = subst (λ pieces. Appends (sink.written c.windows.out) (sink.written c.write_pieces.new.out) (text_of pieces)) c.deref-2.ensures.value c.in_ok-write_pieces.ensures.whole in
    let done : Appends (sink.written c.args.out.now) (sink.written c.write_pieces.new.out) (so_far f p comp from count count) =
    subst (Appends (sink.written c.args.out.now) (sink.written c.write_pieces.new.out))
    (next_is f p comp from count at n count (omega (arith, c.windows.invariant.low)) (omega (arith, c.windows.invariant.low, c.windows.invariant.high, c.windows-test.false)))
    (appends_more _ _ _ (so_far f p comp from count (at - from)) (flat_map (frame_text f p comp) (range_with_len at n)) c.windows.invariant.done
    (subst (Appends (sink.written c.windows.out) (sink.written c.write_pieces.new.out)) c.windows.invariant.pending written)) in
    on_ok_map c.write_tail.result (λ tail. subst (Appends (sink.written c.args.out.now) (sink.written c.write_tail.new.out)) (whole_is f p comp from count)
    (appends_more _ _ _ (so_far f p comp from count count) (tail_text f count) done tail)) c.write_tail.ensures.whole

pub returns-clause-front : goal.returns-clause-front
unfolding so_far
returns-clause-front g c =
    let set : EffectSet = record {
      schemas = g.E.Effect.schemas;
      class_names = g.E.Effect.class_names;
      wants = g.E.Effect.wants;
      asks = g.E.Effect.asks;
      bounds = g.E.Effect.bounds;
      need = g.E.Effect.need;
    } in
    let drawing : Drawing = record { draws = g.E.Draw.draws; sums_of = g.E.Draw.sums_of } in
    let sink = g.K.Sink in
    let p = plain_scene c.args.maker.now.scene.now set drawing in
    let comp = plain_comp c.args.maker.now.comp.now in
    let f = c.args.maker.now.form in
    let from = c.args.span.from in
    let count = c.args.span.to + 1 - from in
    let n = vec_len c.windows.drawn in
    let at = c.windows.frame - n in
    let written = subst (λ pieces. Appends (sink.written c.windows.out) (sink.written c.write_pieces.new.out) (text_of pieces)) c.deref-2.ensures.value c.in_ok-write_pieces.ensures.whole in
    let done : Appends (sink.written c.args.out.now) (sink.written c.write_pieces.new.out) (so_far f p comp from count count) =
    subst (Appends (sink.written c.args.out.now) (sink.written c.write_pieces.new.out))
    (next_is f p comp from count at n count (omega (arith, c.windows.invariant.low)) (omega (arith, c.windows.invariant.low, c.windows.invariant.high, c.windows-test.false)))
    (appends_more _ _ _ (so_far f p comp from count (at - from)) (flat_map (frame_text f p comp) (range_with_len at n)) c.windows.invariant.done
    (subst (Appends (sink.written c.windows.out) (sink.written c.write_pieces.new.out)) c.windows.invariant.pending written)) in
    on_err_map c.write_tail.result (λ tail. front_after _ _ _ (so_far f p comp from count count) (tail_text f count) (root_text f p comp from count) done tail
    ([], append-nil _ ∙ whole_is f p comp from count)) c.write_tail.ensures.front
