use Rattle.std.proofs.Common.{ap, sym, ◌∙◌}
use Rattle.project_model.specs.Plain.{plain_comp}
use Rattle.scene_meaning.specs.Scene.{plain_scene}
use Rattle.effect_api.specs.Sets.{EffectSet, Drawing}
use Rattle.frame_span.specs.Forms.{frame_text, text_of_sums}
use Rattle.frame_span.specs.Sums.{sums_of}
use Rattle.frame_span.proofs.Frames.{frame_as_bytes}
use Rattle.frame_span.proofs.Pixels.{frame_as_rows}
use Rattle.frame_span.proofs.maker.SpanMaker.text_of.Goals as goal

pub returns-in-File : goal.returns-in-File
returns-in-File g c =
    let set : EffectSet = record {
      schemas = g.E.Effect.schemas;
      class_names = g.E.Effect.class_names;
      wants = g.E.Effect.wants;
      asks = g.E.Effect.asks;
      bounds = g.E.Effect.bounds;
      need = g.E.Effect.need;
    } in
    let drawing : Drawing = record { draws = g.E.Draw.draws; sums_of = g.E.Draw.sums_of } in
    let scene = c.args.self.now.scene.now in
    let p = plain_scene scene set drawing in
    let comp = plain_comp c.args.self.now.comp.now in
    c.into_frame_bytes.ensures
    ∙ frame_as_bytes g.row.MAX p comp c.args.frame c.args.picture c.requires.depth scene.project.bits c.requires.root c.requires.frame
    ∙ ap (λ f. frame_text f p comp c.args.frame) (sym c.in-File.is)

pub returns-in_ok-frame_line-in-Lines : goal.returns-in_ok-frame_line-in-Lines
returns-in_ok-frame_line-in-Lines g c =
    let set : EffectSet = record {
      schemas = g.E.Effect.schemas;
      class_names = g.E.Effect.class_names;
      wants = g.E.Effect.wants;
      asks = g.E.Effect.asks;
      bounds = g.E.Effect.bounds;
      need = g.E.Effect.need;
    } in
    let drawing : Drawing = record { draws = g.E.Draw.draws; sums_of = g.E.Draw.sums_of } in
    let p = plain_scene c.args.self.now.scene.now set drawing in
    let comp = plain_comp c.args.self.now.comp.now in
    ap (λ bytes. bytes.items) c.into_bytes.ensures.value ∙ c.in_ok-frame_line-in-Lines.ensures ∙ ap (text_of_sums c.args.frame) c.picture_sums-sums.ensures
    ∙ ap (λ pixels. text_of_sums c.args.frame (sums_of pixels)) (frame_as_rows p comp c.args.frame c.args.picture c.requires.root c.requires.frame)
    ∙ ap (λ f. frame_text f p comp c.args.frame) (sym c.in-Lines.is)
