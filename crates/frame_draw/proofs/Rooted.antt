-- A frame is what the root shows.
use Rattle.std.proofs.Common.{◌≡◌, ℕ, ◌<◌, ℤ, length, ap, ◌∙◌}
use Rattle.std.specs.Prelude.{Result, Ok, Err, IfOk, Option, Some}
use Rattle.argb_world.specs.Picture.{Picture}
use Rattle.comp_stack.specs.Stack.{Plane}
use Rattle.comp_stack.specs.Layers.{plane_of}
use Rattle.project_model.specs.Plain.{plain_comp, plain_of}
use Rattle.project_model.specs.declared.node.NodeId.TheVariants.{Stack}
use Rattle.project_model.specs.declared.plain.PlainComp.{PlainComp}
use Rattle.effect_api.specs.Sets.{EffectSet, Drawing}
use Rattle.scene_meaning.specs.Output.{frame_tick, root_of}
use Rattle.scene_meaning.specs.Scene.{SceneParts, plain_scene}
use Rattle.scene_meaning.specs.Shown.{comp_plane, plane, shown}
use Rattle.frame_draw.specs.Drawn.{IsFrame}
use Rattle.frame_draw.proofs.Frames.{root_is}
use Rattle.scene_meaning.proofs.Inside.{comp_here}
use Rattle.scene_meaning.proofs.Inside.{there_is}

pub frame_ok : {E : Type 0} (set : EffectSet) (drawing : Drawing) (scene : SceneParts) (frame root : ℕ) (t : ℤ) (made : Result Picture E) → root ≡ scene.project.root → root < length scene.project.comps
    → ((comp : PlainComp) → root_of (plain_of scene.project) ≡ Some comp → t ≡ frame_tick (plain_of scene.project) comp frame)
    → IfOk made (λ w. plane_of w ≡ plane (plain_scene scene set drawing) (Stack root) t) → IfOk made (λ w. w.part ≡ w.extent) → IfOk made (IsFrame (plain_scene scene set drawing) frame)
frame_ok set drawing scene frame root t (Ok w) e within tick drawn part =
    let found = there_is scene.project.comps root within in
    let comp : PlainComp = plain_comp found.0 in
    let there = root_is scene.project root found.0 e found.1 in
    let whole : plane_of w ≡ comp_plane (shown (plain_scene scene set drawing)) root (Some comp) t =
    drawn ∙ ap (λ (o : Option PlainComp). comp_plane (shown (plain_scene scene set drawing)) root o t) (comp_here scene.project root found.0 found.1) in
    record {
      comp = comp;
      root = there;
      extent = ap (λ (p : Plane). p.extent) whole;
      part = part ∙ ap (λ (p : Plane). p.extent) whole;
      points = λ x y.
          ap (λ (p : Plane). p.at x y) whole
          ∙ ap (λ (r : ℕ). shown (plain_scene scene set drawing) r t x y) e
          ∙ ap (λ (s : ℤ). shown (plain_scene scene set drawing) scene.project.root s x y) (tick comp there);
    }
frame_ok set drawing scene frame root t (Err why) e within tick drawn part = tt
