use Rattle.std.proofs.Common.{ℕ, ◌≡◌, subst, sym, ap, ◌∙◌, arith, w64, rules}
use Rattle.std.specs.Int.RustNames.{FitsSigned}
use Rattle.std.proofs.lemmas.Int.{to_z-of_z}
use Rattle.project_model.specs.Sound.{IsSoundClip}
use Rattle.rational_time.specs.Times.{frame_at, tick_of}
use Rattle.scene_meaning.specs.Scene.{plain_scene}
use Rattle.frame_draw.proofs.Drawing.{shaped}
use Rattle.frame_draw.proofs.Drawing.{stands_clip, most_is_depth}
use Rattle.frame_draw.proofs.clips.clip_world.Goals as goal

pub frame_ticks-requires : goal.frame_ticks-requires
frame_ticks-requires g c = record {
  some = c.base_of.ensures.some;
  sound = subst (λ (b : ℕ). IsSoundClip b c.clip_use_at-declared.result.now) (sym c.base_of.ensures.ticks) c.clip_use_at-declared.ensures.sound;
}

pub picture_world-requires : goal.picture_world-requires
picture_world-requires g c =
    let shape = shaped _ c.clip_use_at-declared.result.now c.clip.result.now c.clip_use_at-declared.ensures.sound (c.clip.ensures.declared c.clip_use_at-declared.result.now c.clip_use_at-declared.ensures.here) in
    (omega arith, (most_is_depth g.row.MAX c.args.scene.now.project.depth c.requires.depth, (shape.size, shape.frames)))

pub returns-clause-stands : goal.returns-clause-stands
returns-clause-stands g c =
    let declared = c.clip_use_at-declared.result.now in
    let wide : FitsSigned w64 c.frame_ticks.result = search rules in
    let number : c.frame_of-picture.result ≡ frame_at c.args.tick.0 c.frame_ticks.result = simp to_z-of_z at c.frame_of-picture.ensures.value in
    let fits : FitsSigned w64 c.frame_of-picture.result = search rules in
    λ set drawing.
    stands_clip g.row.MAX (plain_scene c.args.scene.now set drawing) c.args.index c.args.tick.0 c.frame_of-picture.result c.frame_ticks.result declared c.clip.result.now c.args.request c.picture_world.result
    c.requires.depth c.clip_use_at-declared.ensures.here c.clip.ensures.clip number
    (c.frame_ticks.ensures.value ∙ ap (λ (b : ℕ). tick_of b declared.frame) c.base_of.ensures.ticks)
    c.picture_world.ensures.extent c.picture_world.ensures.part (simp to_z-of_z at c.picture_world.ensures.points)
