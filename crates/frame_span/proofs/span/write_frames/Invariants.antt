use Rattle.std.proofs.Common.{◌≡◌, ◌≤◌, ◌++◌, ◌+◌, ◌-◌, All, vec_len}
use Rattle.std.specs.Prelude.{flat_map}
use Rattle.std.specs.List.{range_with_len}
use Rattle.std.specs.Io.KnownBytes.{Appends}
use Rattle.project_model.specs.Plain.{plain_comp}
use Rattle.scene_meaning.specs.Scene.{plain_scene}
use Rattle.scene_meaning.specs.Output.{header_of}
use Rattle.frame_span.specs.Forms.{head_text, frame_text}
use Rattle.effect_api.specs.Sets.{EffectSet, Drawing}
use Rattle.frame_span.specs.Rendered.{IsSeat}
use Rattle.frame_span.specs.Written.{text_of}
use Rattle.frame_span.proofs.span.write_frames.Given as goal

-- what stands before the frames and the frames but those of the last window are written, that one is drawn, and no write failed
abbrev pub invariant-windows : goal.invariant-windows
invariant-windows g l =
    let set : EffectSet = record {
      schemas = g.E.Effect.schemas;
      class_names = g.E.Effect.class_names;
      wants = g.E.Effect.wants;
      asks = g.E.Effect.asks;
      bounds = g.E.Effect.bounds;
      need = g.E.Effect.need;
    } in
    let drawing : Drawing = record { draws = g.E.Draw.draws; sums_of = g.E.Draw.sums_of } in
    let sink = g.K.Sink in
    let scene = plain_scene l.maker.scene.now set drawing in
    let comp = plain_comp l.maker.comp.now in
    record {
      done : Appends (sink.written l.fn.out) (sink.written l.out)
          (head_text l.maker.form (header_of scene.project.depth comp l.from (l.end - l.from)) ++ flat_map (frame_text l.maker.form scene comp) (range_with_len l.from (l.frame - vec_len l.drawn - l.from)));
      pending : text_of l.drawn.items ≡ flat_map (frame_text l.maker.form scene comp) (range_with_len (l.frame - vec_len l.drawn) (vec_len l.drawn));
      faults : sink.faults l.out ≡ sink.faults l.fn.out;
      low : l.from + vec_len l.drawn ≤ l.frame;
      high : l.frame ≤ l.end;
      seats : vec_len l.seats ≡ vec_len l.fn.seats;
      fit : All (IsSeat l.maker.cache.now) l.seats.items;
    }

abbrev pub decreases-windows : goal.decreases-windows
decreases-windows g l = l.end - l.frame
